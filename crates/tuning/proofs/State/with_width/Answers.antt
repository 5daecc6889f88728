-- `tuning::State::with_width` meets its contract. The loop's invariant: the first i places hold the sounds of i keys from the anchor on, the
-- others are unused. Assumes nothing.
use mathlib.Core.Path.{◌≡◌, sym, ap, ◌∙◌}
use mathlib.Core.List.{List}
use Prim.Native.Nat.{ℕ, ◌+◌, ◌≤◌}
use native.Mathlib.Omega.{arith}
use lib.ListN.{replicate, length-replicate}
use Rattle.tuning.specs.declared.Tone.{Tone}
use Rattle.tuning.specs.Tuning.{sound_of}
use Rattle.tuning.specs.Desk.{cents}
use Rattle.tuning.specs.State.{places, held, tone_of}
use Rattle.tuning.proofs.Valid.{none, valid_of}
use Rattle.tuning.proofs.Steps.{key_fits, shifted_key}
use Rattle.tuning.proofs.Part.{part, part_none, part_next}
use Rattle.tuning.proofs.Changed.{with_places, keyed, blank, keyed_state}
use Rattle.tuning.proofs.State.with_width.Goals.{After-shift, At-loop-i, Start}
use Rattle.tuning.proofs.State.with_width.Goals as goal

-- the anchor and the keys in the width are bytes
bounds : (c : goal.Start) → c.args.self.anchor.0 + c.args.v ≤ 255
bounds c = omega (arith, valid_of c.args.self c.requires.0, c.requires.1)

-- the key whose sound is asked for
asked : (c : goal.After-shift) → c.args.self.anchor.0 + c.args.v ≤ 255 → c.shift.result.0 ≡ c.args.self.anchor.0 + c.loop-i.i
asked c b = shifted_key _ c.loop-i.i (omega arith) c.shift.ensures

pub loop-i-init : goal.loop-i-init
loop-i-init c = sym (part_none (keyed (held c.args.self) c.args.self.anchor.0) (replicate places none))

pub shift-requires : goal.shift-requires
shift-requires c =
    let b = bounds (goal.at.shift-requires c).Start in
    key_fits _ c.loop-i.i (omega (arith, c.loop-i-test.true)) (omega (arith, c.loop-i-test.true))

pub sound_of-requires : goal.sound_of-requires
sound_of-requires c =
    let start = (goal.at.sound_of-requires c).Start in
    (start.requires.0, omega (arith, start.requires.1, asked c (bounds start), c.loop-i-test.true))

pub loop-i-preserved : goal.loop-i-preserved
loop-i-preserved c =
    let l = (goal.at.loop-i-preserved c).At-loop-i in
    let start = (goal.at.loop-i-preserved c).Start in
    let self = start.args.self in
    part_next (keyed (held self) self.anchor.0) (replicate places none) none l.loop-i.invariant
    (omega (arith, start.requires.1, c.loop-i-test.true, length-replicate {A = Tone} 60 none))
    (c.sound_of.ensures.0 ∙ ap (λ (x : ℕ). tone_of (sound_of cents (held self) x)) (asked (goal.at.loop-i-preserved c).After-shift (bounds start)))

pub returns : goal.returns
returns c =
    let l = (goal.at.returns c).At-loop-i in
    let start = (goal.at.returns c).Start in
    let s = held start.args.self in
    let a = start.args.self.anchor.0 in
    let v = start.args.v in
    let d = start.args.period.0 in
    let e : l.loop-i.i ≡ v = omega arith in
    ap (λ (t : List Tone). with_places (blank a v d) t) (l.loop-i.invariant ∙ ap (λ (i : ℕ). part (keyed s a) i (replicate places none)) e) ∙ keyed_state s v d start.requires.1
