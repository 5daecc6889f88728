-- The struct with sixty places and the tuning that it stands for: each gives the other back, and one is valid where the other is.
-- Assumes nothing.
use mathlib.Core.Path.{◌≡◌, refl, ap, ◌∙◌}
use mathlib.Core.Bool.{true, false, false≢true}
use mathlib.Core.List.{List, [], ◌∷◌, ◌++◌, map, map-append}
use Prim.Native.Nat.{ℕ, zero, suc, ◌-◌, ◌≤◌}
use native.Mathlib.Omega.{arith}
use lib.IntN.{ℤ}
use lib.ListN.{length, length-map, length-append, length-drop, length-replicate, take, drop, take-append-drop, replicate}
use lib.Seq.{take_at, drop_at}
use Rattle.tuning.specs.declared.Tone.{Tone}
use Rattle.tuning.specs.declared.Tone.TheVariants.{Muted, At}
use Rattle.tuning.specs.declared.State.{State}
use Rattle.tuning.specs.Scale.{Sound, muted, sounds}
use Rattle.tuning.specs.Tuning.{Tuning, width}
use Rattle.tuning.specs.Desk.{cents, is_period, any_beyond}
use Rattle.tuning.specs.State.{places, heard, held, tone_of, coded, all_muted, valid_state}
use Rattle.tuning.proofs.Valid.{Valid, valid_of, valid_is}
use Rattle.tuning.proofs.Tones as Tones

-- "Numbers allowed", of a tuning
pub record ValidTuning (t : Tuning cents) : Type 0 where
  pub anchor : t.anchor ≤ 127
  pub least : 1 ≤ width cents t
  pub most : width cents t ≤ places
  pub period : is_period t.period ≡ true
  pub tones : any_beyond t.tones ≡ false

-- ---- a tone, a list of positions, a list of muted tones

pub heard_tone : (t : Sound ℤ) → heard (tone_of t) ≡ t
heard_tone muted = refl
heard_tone (sounds z) = refl

tone_heard : (t : Tone) → tone_of (heard t) ≡ t
tone_heard Muted = refl
tone_heard (At p) = refl

heard_positions : (l : List (Sound ℤ)) → map heard (map tone_of l) ≡ l
heard_positions [] = refl
heard_positions (t ∷ l) = rw (heard_tone t, heard_positions l)

positions_heard : (l : List Tone) → map tone_of (map heard l) ≡ l
positions_heard [] = refl
positions_heard (p ∷ l) = rw (tone_heard p, positions_heard l)

muted_all : (l : List (Sound ℤ)) → all_muted l ≡ true → l ≡ replicate (length l) muted
unfolding all_muted
muted_all [] h = refl
muted_all (muted ∷ l) h = ap (λ (k : List (Sound ℤ)). muted ∷ k) (muted_all l h)
muted_all (sounds z ∷ l) h = absurd (false≢true h)

all_muted_holds : (n : ℕ) → all_muted (replicate n muted) ≡ true
unfolding all_muted
all_muted_holds zero = refl
all_muted_holds (suc n) = all_muted_holds n

-- ---- from the tuning to the struct and back

-- the places of the struct past the tones in use
abbrev pub unused : List (Sound ℤ) → List (Sound ℤ)
unused l = replicate (places - length l) muted

module _ (t : Tuning cents) where
  used_heard : map heard (take (length t.tones) (map tone_of (t.tones ++ unused t.tones))) ≡ t.tones
  used_heard =
      let l = t.tones in
      rw (map-append, take_at (map tone_of l) (map tone_of (unused l)) (length l) (length-map l tone_of)) (heard_positions l)

  unused_heard : map heard (drop (length t.tones) (map tone_of (t.tones ++ unused t.tones))) ≡ unused t.tones
  unused_heard =
      let l = t.tones in
      rw (map-append, drop_at (map tone_of l) (map tone_of (unused l)) (length l) (length-map l tone_of)) (heard_positions (unused l))

  pub held_coded : held (coded t) ≡ t
  held_coded = ap (λ (k : List (Sound ℤ)). record { anchor = t.anchor; tones = k; period = t.period }) used_heard

  pub length_coded : length t.tones ≤ places → length (coded t).tones ≡ places
  length_coded h =
      let l = t.tones in
      length-map (l ++ unused l) tone_of ∙ length-append l (unused l) ∙ omega (arith, length-replicate {A = Sound ℤ} (places - length l) muted)

  pub valid_coded : ValidTuning t → valid_state (coded t) ≡ true
  valid_coded v =
      valid_is (coded t)
      (record {
        anchor = v.anchor;
        least = v.least;
        most = v.most;
        period = v.period;
        tones = ap any_beyond used_heard ∙ v.tones;
        rest = ap all_muted unused_heard ∙ all_muted_holds (places - length t.tones);
      })

-- ---- from the struct to the tuning and back

module _ (s : State) (h : valid_state s ≡ true) (n : length s.tones ≡ places) where
  v : Valid s
  v = valid_of s h

  pub held_width : width cents (held s) ≡ s.width
  held_width = Tones.held_width s n v.most

  pub valid_held : ValidTuning (held s)
  valid_held = record { anchor = v.anchor; least = omega (arith, v.least, held_width); most = omega (arith, v.most, held_width); period = v.period; tones = v.tones }

  pub places_held : map tone_of ((held s).tones ++ unused (held s).tones) ≡ s.tones
  places_held =
      let l = drop s.width s.tones in
      let e : places - length (held s).tones ≡ length (map heard l) = omega (arith, n, held_width, length-map l heard, length-drop s.width s.tones) in
      rw (e, ← (muted_all (map heard l) v.rest), ← (map-append heard (take s.width s.tones) l), take-append-drop s.width s.tones) (positions_heard s.tones)

  pub coded_held : coded (held s) ≡ s
  coded_held =
      ap (λ (k : List Tone). record { anchor = s.anchor; width = length (held s).tones; tones = k; period = s.period }) places_held
      ∙ ap (λ (w : ℕ). record { anchor = s.anchor; width = w; tones = s.tones; period = s.period }) held_width
