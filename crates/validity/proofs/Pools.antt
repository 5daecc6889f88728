-- A part of what is right is right; kinds and numbers that are right give tones in their range. Assumes nothing.
use mathlib.Core.Path.{◌≡◌, refl, ap}
use mathlib.Core.Bool.{Bool, true, false, not, ◌&&◌, false≢true}
use mathlib.Core.List.{List, [], ◌∷◌, map}
use Prim.Native.Nat.{ℕ, zero, suc, ◌≤◌}
use lib.Dec.{eqb}
use lib.IntN.{ℤ}
use lib.ListN.{take, drop}
use lib.Seq.{slice, take-take}
use Rattle.tuning.specs.Desk.{beyond, any_beyond}
use Rattle.tuning.specs.State.{heard}
use Rattle.tuning.specs.declared.Tone.{Tone}
use Rattle.tuning.specs.declared.Tone.TheVariants.{Muted, At}
use Rattle.tuning.proofs.Lists.{both}
use Rattle.tables.specs.Layout.{joined, tone_of, sounding_of, pitch_of}
use Rattle.validity.specs.Valid.{same, sound_right, tone_right, each_right}

-- ---- a part of what is right

module _ (ok : ℕ → ℤ → Bool) where
  each_take : (n : ℕ) (ks : List ℕ) (zs : List ℤ) → each_right ok ks zs ≡ true → each_right ok (take n ks) (take n zs) ≡ true
  unfolding each_right
  each_take zero ks zs h = refl
  each_take (suc n) [] zs h = refl
  each_take (suc n) (k ∷ ks) [] h = absurd (false≢true h)
  each_take (suc n) (k ∷ ks) (z ∷ zs) h = let a = both (ok k z) (each_right ok ks zs) h in rw (a.0, each_take n ks zs a.1)

  each_drop : (n : ℕ) (ks : List ℕ) (zs : List ℤ) → each_right ok ks zs ≡ true → each_right ok (drop n ks) (drop n zs) ≡ true
  unfolding each_right
  each_drop zero ks zs h = h
  each_drop (suc n) [] zs h = refl
  each_drop (suc n) (k ∷ ks) [] h = absurd (false≢true h)
  each_drop (suc n) (k ∷ ks) (z ∷ zs) h = each_drop n ks zs (both (ok k z) (each_right ok ks zs) h).1

  pub each_slice : (from to n : ℕ) (ks : List ℕ) (zs : List ℤ) → to ≤ n → each_right ok (take n ks) (take n zs) ≡ true
      → each_right ok (slice from to ks) (slice from to zs) ≡ true
  each_slice from to n ks zs h e =
      each_drop from (take to ks) (take to zs)
      (rw (← (take-take to n ks h), ← (take-take to n zs h)) (each_take to (take n ks) (take n zs) e))

-- ---- tones

sound_within : (x : Tone) → sound_right x ≡ true → beyond (heard x) ≡ false
sound_within Muted h = refl
sound_within (At p) h = ap not h

tone_within : (k : ℕ) (z : ℤ) → tone_right k z ≡ true → beyond (heard (tone_of k z)) ≡ false
tone_within k z h = let x = tone_of k z in sound_within x (both (eqb k (sounding_of x) && same (pitch_of x) z) (sound_right x) h).1

pub tones_right : (ks : List ℕ) (zs : List ℤ) → each_right tone_right ks zs ≡ true → any_beyond (map heard (joined tone_of ks zs)) ≡ false
unfolding each_right joined any_beyond
tones_right [] zs h = refl
tones_right (k ∷ ks) [] h = refl
tones_right (k ∷ ks) (z ∷ zs) h = let a = both (tone_right k z) (each_right tone_right ks zs) h in rw (tone_within k z a.0, tones_right ks zs a.1)
