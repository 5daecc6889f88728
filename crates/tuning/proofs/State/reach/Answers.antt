-- `tuning::State::reach` meets its contract: by the position of the key that `locate` finds. Assumes nothing.
use mathlib.Core.Path.{◌≡◌, sym, ap, ◌∙◌}
use mathlib.Core.Logic.{◌≢◌}
use Prim.Native.Nat.{ℕ}
use native.Mathlib.Omega.{arith}
use borrow.Author.Rules.{rules}
use Rattle.std.specs.Prelude.{Some}
use lib.IntN.{ℤ, nat_abs, ◌*ℤ◌}
use Rattle.integers.proofs.Signed.{signed}
use Rattle.tuning.specs.Tuning.{key_position}
use Rattle.tuning.specs.Desk.{cents}
use Rattle.tuning.specs.State.{held}
use Rattle.tuning.specs.Inner.{interval_of}
use Rattle.tuning.specs.declared.State.{State}
use Rattle.tuning.specs.declared.Located.{Located}
use Rattle.tuning.proofs.Lists.{length_mapped}
use Rattle.tuning.proofs.Valid.{valid_of, tone_size}
use Rattle.tuning.proofs.Steps.{apart_size}
use Rattle.tuning.proofs.Tones.{Asked, place, place_found, place_word, place_shift, place_held}
use Rattle.tuning.proofs.Outcomes.{span_held, reach_periods, reach_span}
use Rattle.tuning.proofs.State.reach.Goals.{After-locate-place, Start}
use Rattle.tuning.proofs.State.reach.Goals as goal

asked : (c : goal.Start) → Asked c.args.self.now c.args.key.0
asked c = record { valid = valid_of c.args.self.now c.requires.0; near = c.requires.1; long = search length_mapped }

module _ (c : goal.After-locate-place) where
  abbrev s : State
  s = c.args.self.now

  abbrev x : ℕ
  x = c.args.key.0

  abbrev a : Asked s x
  a = asked c.before.before.before

  located : c.locate-place.result ≡ place a
  located = place_found a c.distance.ensures c.locate-place.ensures

  position : c.locate-place.result.position ≡ key_position cents (held s) x
  position = ap (λ (p : Located). p.position) (located ∙ place_held a)

pub locate-place-requires : goal.locate-place-requires
locate-place-requires c =
    let p = c.args in
    let v = (asked (goal.at.locate-place-requires c).Start).valid in
    (v.least, rw c.distance.ensures (apart_size p.key.0 p.self.now.anchor.0 (search rules) (omega (arith, v.anchor))))

pub times-requires : goal.times-requires
times-requires c =
    let l = (goal.at.times-requires c).After-locate-place in
    rw (place_word (a l) (located l)) (omega (signed, place_shift (a l)))

pub returns-then-place-eq0 : goal.returns-then-place-eq0
returns-then-place-eq0 c =
    let l = (goal.at.returns-then-place-eq0 c).After-locate-place in
    let step = c.times.ensures ∙ ap (λ (z : ℤ). z *ℤ (s l).period.0) (place_word (a l) (located l)) in
    let first = sym (position l) ∙ c.if-place-eq0.true in
    record {
      distance =
          ap (λ (z : ℤ). Some (record { 0 = z })) (step ∙ ap (λ (p : Located). p.periods *ℤ (s l).period.0) (place_held (a l)))
          ∙ sym (ap interval_of (reach_periods cents (held (s l)) (x l) first));
      near = omega (arith, place_shift (a l), ap nat_abs step);
    }

pub span_to-requires : goal.span_to-requires
span_to-requires c =
    let l = (goal.at.span_to-requires c).After-locate-place in
    omega (arith, tone_size (s l) (a l).valid 0, c.sound_of.ensures.1)

pub returns : goal.returns
returns c =
    let l = (goal.at.returns c).After-locate-place in
    let elsewhere : key_position cents (held (s l)) (x l) ≢ 0 = λ e. c.if-place-eq0.false (position l ∙ e) in
    record {
      distance =
          c.span_to.ensures.distance
          ∙ ap interval_of (span_held (s l) (a l).valid (x l) c.sound_of.ensures.0 ∙ sym (reach_span cents (held (s l)) (x l) elsewhere));
      near = c.span_to.ensures.near;
    }
