-- The place that `locate` gives is the key's, so it lies within the width, and the tone there and the period in reach of 32 bits.
use mathlib.Core.Path.{◌≡◌, ap, ◌∙◌}
use Prim.Native.Nat.{◌<◌}
use native.Mathlib.Omega.{arith}
use borrow.Author.Rules.{rules}
use lib.IntN.{ℤ, nat_abs, ◌*ℤ◌}
use lib.ListN.{get_or}
use Rattle.integers.proofs.Signed.{signed}
use Rattle.tuning.specs.Tuning.{raised}
use Rattle.tuning.specs.Desk.{cents}
use Rattle.tuning.specs.State.{heard, tone_of}
use Rattle.tuning.specs.declared.Located.{Located}
use Rattle.tuning.proofs.Lists.{length_mapped}
use Rattle.tuning.proofs.Valid.{none, valid_of, tone_size}
use Rattle.tuning.proofs.Steps.{apart_size}
use Rattle.tuning.proofs.Tones.{Asked, place, place_position, place_found, place_word, place_shift, place_sound, sound_size}
use Rattle.tuning.proofs.State.sound_of.Goals.{After-locate-place, After-times, Start}
use Rattle.tuning.proofs.State.sound_of.Goals as goal

asked : (c : goal.Start) → Asked c.args.self c.args.key.0
asked c = record { valid = valid_of c.args.self c.requires.0; near = c.requires.1; long = search length_mapped }

module _ (c : goal.After-locate-place) where
  abbrev a : Asked c.args.self c.args.key.0
  a = asked c.before.before.before

  located : c.locate-place.result ≡ place a
  located = place_found a c.distance.ensures c.locate-place.ensures

  position : c.locate-place.result.position < 60
  position = rw located (omega (arith, place_position a, a.valid.most))

-- the period as often as `locate` says
shift : (c : goal.After-times) →
    let l = c.before.before.before.before in
    c.times.result.0 ≡ (place (a l)).periods *ℤ l.args.self.period.0
shift c =
    let l = c.before.before.before.before in
    c.times.ensures ∙ ap (λ (z : ℤ). z *ℤ l.args.self.period.0) (place_word (a l) (located l))

pub locate-place-requires : goal.locate-place-requires
locate-place-requires c =
    let a = c.args in
    ((asked (goal.at.locate-place-requires c).Start).valid.least, rw c.distance.ensures (apart_size a.key.0 a.self.anchor.0 (search rules) (search rules)))

pub offset_bounds-self-place : goal.offset_bounds-self-place
offset_bounds-self-place c = omega (arith, position c)

pub bounds-self-place : goal.bounds-self-place
bounds-self-place c = position c

pub times-requires : goal.times-requires
times-requires c =
    let l = (goal.at.times-requires c).After-locate-place in
    rw (place_word (a l) (located l)) (omega (signed, place_shift (a l)))

pub raise-requires : goal.raise-requires
raise-requires c =
    let l = (goal.at.raise-requires c).After-locate-place in
    let s = l.args.self in
    omega (arith, tone_size s (a l).valid l.locate-place.result.position, place_shift (a l), ap nat_abs (shift c))

pub returns : goal.returns
returns c =
    let l = (goal.at.returns c).After-locate-place in
    let s = l.args.self in
    let t = (get_or s.tones l.locate-place.result.position none) in
    let sound = c.raise.ensures
    ∙ ap (λ (z : ℤ). tone_of (raised cents z (heard t))) (shift (goal.at.returns c).After-times)
    ∙ ap (λ (p : Located). tone_of (raised cents ((place (a l)).periods *ℤ s.period.0) (heard (get_or s.tones p.position none)))) (located l)
    ∙ ap tone_of (place_sound (a l)) in
    (sound, rw sound (sound_size (a l)))
