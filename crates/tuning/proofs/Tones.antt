-- The sound of a key: where it stands, and how large it can be.
use mathlib.Core.Path.{◌≡◌, sym, ap, ◌∙◌}
use mathlib.Core.List.{List, map}
use Prim.Native.Nat.{ℕ, ◌+◌, ◌≤◌, ◌<◌}
use native.Mathlib.Nat.{div-le_self}
use native.Mathlib.Omega.{arith}
use lib.IntN.{ℤ, pos, negsuc, nat_abs, sub_ℕ, ◌*ℤ◌}
use lib.ListN.{length, get_or, take, length-map, length-take, get_or-map}
use lib.Seq.{get_or-take}
use mir.Facts.{to_z-of_z}
use mir.Syntax.{w32}
use mir.Val.{to_z, of_z}
use Rattle.integers.specs.Floor.{floor_div}
use Rattle.integers.proofs.Signed.{signed, abs, minus, sum, mul_size, mul_bound}
use Rattle.integers.proofs.Floor.{floor_range}
use Rattle.tuning.specs.Scale.{muted}
use Rattle.tuning.specs.Tuning.{width, raised, key_position, key_periods, sound_of}
use Rattle.tuning.specs.Desk.{cents}
use Rattle.tuning.specs.State.{heard, held, tone_of}
use Rattle.tuning.specs.Inner.{located_at, size}
use Rattle.tuning.specs.declared.State.{State}
use Rattle.tuning.specs.declared.Located.{Located}
use Rattle.tuning.specs.declared.Tone.{Tone}
use Rattle.tuning.specs.declared.Tone.TheVariants.{Muted, At}
use Rattle.tuning.proofs.Valid.{Valid, none, period_size, tone_size}

-- the width is the number of tones
pub held_width : (s : State) → length s.tones ≡ 60 → s.width ≤ 60 → width cents (held s) ≡ s.width
held_width s n h = length-map (take s.width s.tones) heard ∙ length-take s.width s.tones ∙ omega arith

-- what is heard at a position in use
pub heard_at_holds : (l : List Tone) (w r : ℕ) → r < w → get_or (map heard (take w l)) r muted ≡ heard (get_or l r none)
heard_at_holds l w r h = get_or-map heard (take w l) r none ∙ ap heard (get_or-take w l r none h)

-- a key lies at most 127 keys off the anchor, and no more periods than keys
pub steps_size : (x a : ℕ) → a ≤ 127 → x ≤ a + 127 → nat_abs (sub_ℕ x a) ≤ 127
steps_size x a h k = omega (signed, minus x a, abs (sub_ℕ x a))

periods_size : (z : ℤ) (w n : ℕ) → nat_abs z ≤ n → nat_abs (floor_div z w) ≤ n
periods_size (pos m) w n h = omega (arith, div-le_self m w)
periods_size (negsuc m) w n h = omega (arith, div-le_self m w)

-- a raised tone is no larger than the tone and the step together
pub raised_size : (t : Tone) (d : ℤ) → size (tone_of (raised cents d (heard t))) ≤ size t + nat_abs d
raised_size Muted d = omega arith
raised_size (At p) d = omega (arith, (sum p.0 d).size)

-- what a state and a key have where the key is asked for
pub record Asked (s : State) (x : ℕ) : Type 0 where
  pub valid : Valid s
  pub near : x ≤ s.anchor.0 + 127
  pub long : length s.tones ≡ 60

-- the place of that key
module _ {s : State} {x : ℕ} (a : Asked s x) where
  abbrev pub place : Located
  place = located_at (sub_ℕ x s.anchor.0) s.width

  pub place_position : place.position < s.width
  place_position = floor_range (sub_ℕ x s.anchor.0) s.width a.valid.least

  place_periods : nat_abs place.periods ≤ 127
  place_periods = periods_size (sub_ℕ x s.anchor.0) s.width 127 (steps_size x s.anchor.0 a.valid.anchor a.near)

  -- what `locate` gives is this place, and its periods are in the machine's range
  pub place_found : {z : ℤ} {l : Located} → z ≡ sub_ℕ x s.anchor.0 → l ≡ located_at z s.width → l ≡ place
  place_found e f = f ∙ ap (λ (y : ℤ). located_at y s.width) e

  pub place_word : {l : Located} → l ≡ place → to_z w32 (of_z w32 l.periods) ≡ place.periods
  place_word e = ap (λ (p : Located). to_z w32 (of_z w32 p.periods)) e ∙ to_z-of_z {w = w32} (omega (signed, place_periods))

  -- the period as often as it goes up or down
  pub place_shift : nat_abs (place.periods *ℤ s.period.0) ≤ 1_524_000_000
  place_shift =
      omega (arith, mul_size place.periods s.period.0, mul_bound place_periods (period_size s.period.0 a.valid.period))

  -- the same place, of the tuning that the state stands for
  pub place_held : place ≡ record { position = key_position cents (held s) x; periods = key_periods cents (held s) x }
  place_held = ap (λ (w : ℕ). located_at (sub_ℕ x s.anchor.0) w) (sym (held_width s a.long a.valid.most))

  -- the sound of the key, by its place
  pub place_sound : raised cents (place.periods *ℤ s.period.0) (heard (get_or s.tones place.position none)) ≡ sound_of cents (held s) x
  place_sound =
      ap (raised cents (place.periods *ℤ s.period.0)) (sym (heard_at_holds s.tones s.width place.position place_position))
      ∙ ap (λ (p : Located). raised cents (p.periods *ℤ s.period.0) (get_or (held s).tones p.position muted)) place_held

  -- how far it can be
  pub sound_size : size (tone_of (sound_of cents (held s) x)) ≤ 1_624_000_000
  sound_size =
      let t = (get_or s.tones place.position none) in
      rw (← place_sound) (omega (arith, raised_size t (place.periods *ℤ s.period.0), tone_size s a.valid place.position, place_shift))
