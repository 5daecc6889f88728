-- `tuning::State::with_tones` meets its contract. The loop's invariant: the first i places are changed as the list says, and nothing else is.
-- Assumes nothing.
use mathlib.Core.Path.{◌≡◌, ap, ◌∙◌}
use Prim.Native.Nat.{◌≤◌}
use native.Mathlib.Omega.{arith}
use lib.ListN.{length, get_or}
use Rattle.tuning.specs.Inner.{size}
use Rattle.tuning.proofs.Lists.{length_mapped}
use Rattle.tuning.proofs.Valid.{none, valid_of, tone_size}
use Rattle.tuning.proofs.Changed.{changed_none, changed_get, changed_next, retoned, retoned_state}
use Rattle.tuning.proofs.State.with_tones.Goals.{At-loop-i, Start}
use Rattle.tuning.proofs.State.with_tones.Goals as goal

-- the state and the list have sixty places
long : (c : goal.Start) → length c.args.self.tones ≡ 60
long c = search length_mapped

listed : (c : goal.Start) → length c.args.list.positions ≡ 60
listed c = search length_mapped

wide : (c : goal.Start) → c.args.self.width ≤ 60
wide c = (valid_of c.args.self c.requires).most

-- the place that is read is as it was when the loop began
same : (l : goal.At-loop-i) → get_or l.loop-i.self.tones l.loop-i.i none ≡ get_or l.args.self.tones l.loop-i.i none
same l = changed_get (retoned l.args.list.positions) l.args.self l.loop-i.i l.loop-i.self l.loop-i.invariant

pub loop-i-init : goal.loop-i-init
loop-i-init c = changed_none (retoned c.args.list.positions) c.args.self

pub bounds-self-i : goal.bounds-self-i
bounds-self-i c = omega (arith, wide (goal.at.bounds-self-i c).Start)

pub bounds-list-i : goal.bounds-list-i
bounds-list-i c = omega (arith, wide (goal.at.bounds-list-i c).Start)

pub bounds-self-i-in-loop-i : goal.bounds-self-i-in-loop-i
bounds-self-i-in-loop-i c = omega (arith, wide (goal.at.bounds-self-i-in-loop-i c).Start)

pub apply-requires : goal.apply-requires
apply-requires c =
    let l = (goal.at.apply-requires c).At-loop-i in
    omega (arith, ap size (same l), tone_size l.args.self (valid_of l.args.self l.requires) l.loop-i.i)

pub loop-i-preserved : goal.loop-i-preserved
loop-i-preserved c =
    let l = (goal.at.loop-i-preserved c).At-loop-i in
    let s = (goal.at.loop-i-preserved c).Start in
    let f = retoned l.args.list.positions in
    let n = long s in
    changed_next f l.args.self l.loop-i.i l.loop-i.self l.loop-i.invariant c.apply.result (omega (arith, wide s)) (c.apply.ensures ∙ ap (f l.loop-i.i) (same l))

pub returns : goal.returns
returns c =
    let l = (goal.at.returns c).At-loop-i in
    let s = (goal.at.returns c).Start in
    l.loop-i.invariant ∙ retoned_state s.args.self s.requires (long s) s.args.list (listed s) l.loop-i.i (omega arith)
