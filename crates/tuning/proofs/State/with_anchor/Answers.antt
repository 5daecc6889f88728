-- `tuning::State::with_anchor` meets its contract. The loop's invariant: the first i places are shifted, and nothing else has changed.
-- Assumes nothing.
use mathlib.Core.Path.{◌≡◌, ap, ◌∙◌}
use Prim.Native.Nat.{◌≤◌}
use native.Mathlib.Omega.{arith}
use lib.ListN.{length, get_or}
use Rattle.tuning.specs.declared.State.{State}
use Rattle.tuning.specs.Inner.{size}
use Rattle.tuning.proofs.Lists.{length_mapped}
use Rattle.tuning.proofs.Valid.{none, valid_of, tone_size}
use Rattle.tuning.proofs.Changed.{changed_none, changed_get, changed_next, shifted, anchored_state}
use Rattle.tuning.proofs.State.with_anchor.Goals.{At-loop-i, Start}
use Rattle.tuning.proofs.State.with_anchor.Goals as goal

-- the state has sixty places
long : (c : goal.Start) → length c.args.self.tones ≡ 60
long c = search length_mapped

most : (c : goal.Start) → c.args.self.width ≤ 60
most c = (valid_of c.args.self c.requires.0).most

-- the place that is read is as it was when the loop began
same : (l : goal.At-loop-i) → get_or l.loop-i.self.tones l.loop-i.i none ≡ get_or l.args.self.tones l.loop-i.i none
same l = changed_get (λ k. shifted l.args.by.0) l.args.self l.loop-i.i l.loop-i.self l.loop-i.invariant

pub loop-i-init : goal.loop-i-init
loop-i-init c = changed_none (λ k. shifted c.args.by.0) c.args.self

pub bounds-self-i : goal.bounds-self-i
bounds-self-i c = omega (arith, most (goal.at.bounds-self-i c).Start)

pub bounds-self-i-in-loop-i : goal.bounds-self-i-in-loop-i
bounds-self-i-in-loop-i c = omega (arith, most (goal.at.bounds-self-i-in-loop-i c).Start)

pub raise-requires : goal.raise-requires
raise-requires c =
    let l = (goal.at.raise-requires c).At-loop-i in
    omega (arith, ap size (same l), tone_size l.args.self (valid_of l.args.self l.requires.0) l.loop-i.i, l.requires.1)

pub loop-i-preserved : goal.loop-i-preserved
loop-i-preserved c =
    let l = (goal.at.loop-i-preserved c).At-loop-i in
    let f = shifted l.args.by.0 in
    let s = (goal.at.loop-i-preserved c).Start in
    let n = long s in
    changed_next (λ k. f) l.args.self l.loop-i.i l.loop-i.self l.loop-i.invariant c.raise.result (omega (arith, c.loop-i-test.true, most s)) (c.raise.ensures ∙ ap f (same l))

pub returns : goal.returns
returns c =
    let l = (goal.at.returns c).At-loop-i in
    let s = l.args.self in
    let b = l.args.anchor in
    let n = long (goal.at.returns c).Start in
    ap (λ (u : State). record { anchor = b; width = u.width; tones = u.tones; period = u.period }) l.loop-i.invariant
    ∙ anchored_state s l.requires.0 n b.0 l.args.by.0 l.loop-i.i (omega arith)
