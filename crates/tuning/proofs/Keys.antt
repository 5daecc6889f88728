-- Where a key of a tuning stands, and the sounds of keys in a row, at any scale. Assumes nothing.
use mathlib.Core.Path.{◌≡◌, refl, sym, ap, ap₂, ◌∙◌}
use Prim.Native.Nat.{ℕ, zero, suc, ◌+◌, ◌<◌}
use native.Mathlib.Nat.{add-zero}
use native.Mathlib.Omega.{arith}
use lib.IntN.{ℤ, pos, sub_ℕ, ◌+ℤ◌, ◌*ℤ◌}
use lib.ListN.{length, get_or}
use Rattle.integers.proofs.Signed.{signed, sum, times, minus}
use Rattle.integers.proofs.Floor.{floor_law, floor_range, floor_unique}
use Rattle.tuning.specs.Scale.{Scale, muted}
use Rattle.tuning.specs.Tuning.{Tuning, width, raised, tone_at, key_position, key_periods, sound_of, keys_from}

-- q and r of a key
pub record At (S : Scale) (s : Tuning S) (x : ℕ) (periods : ℤ) (position : ℕ) : Type 0 where
  pub q : key_periods S s x ≡ periods
  pub r : key_position S s x ≡ position

module _ (S : Scale) where
  -- ---- the sounds of n keys from x on

  pub keys_length : (s : Tuning S) (x n : ℕ) → length (keys_from S s x n) ≡ n
  keys_length s x zero = refl
  keys_length s x (suc n) = ap suc (keys_length s (suc x) n)

  pub keys_at : (s : Tuning S) (x n i : ℕ) → i < n → get_or (keys_from S s x n) i muted ≡ sound_of S s (x + i)
  keys_at s x zero i h = let z : ⊥ = omega arith in absurd z
  keys_at s x (suc n) zero h = ap (sound_of S s) (sym (add-zero x))
  keys_at s x (suc n) (suc i) h = keys_at s (suc x) n i (omega arith) ∙ ap (sound_of S s) (omega arith)

  -- ---- "Key x has x - a = q·w + r with r from 0 to w-1; its pitch is t(r) + q·P, silent if t(r) is muted."

  module _ (s : Tuning S) where
    pub place_law : 0 < width S s → (x : ℕ) → sub_ℕ x s.anchor ≡ key_periods S s x *ℤ pos (width S s) +ℤ pos (key_position S s x)
    place_law wide x = floor_law (sub_ℕ x s.anchor) (width S s) wide

    pub place_low : 0 < width S s → (x : ℕ) → key_position S s x < width S s
    place_low wide x = floor_range (sub_ℕ x s.anchor) (width S s) wide

    at_only : (x : ℕ) (q : ℤ) (r : ℕ) → r < width S s → sub_ℕ x s.anchor ≡ q *ℤ pos (width S s) +ℤ pos r → At S s x q r
    at_only x q r h e = let f = floor_unique (sub_ℕ x s.anchor) q (width S s) r h e in record { q = f.0; r = f.1 }

    -- the positions are the keys from the anchor on, and the key after the last one is on position 0 again, a period up
    pub at_position : (i : ℕ) → i < width S s → At S s (s.anchor + i) (pos 0) i
    at_position i h =
        let w = width S s in
        at_only (s.anchor + i) (pos 0) i h (omega (signed, minus (s.anchor + i) s.anchor, sum (pos 0 *ℤ pos w) (pos i), times (pos 0) w))

    pub at_next : 0 < width S s → At S s (s.anchor + width S s) (pos 1) 0
    at_next h =
        let w = width S s in
        at_only (s.anchor + w) (pos 1) 0 h (omega (signed, minus (s.anchor + w) s.anchor, sum (pos 1 *ℤ pos w) (pos 0), times (pos 1) w))

    pub sound_at_step : (x : ℕ) {q : ℤ} {r : ℕ} → At S s x q r → sound_of S s x ≡ raised S (S.times q s.period) (tone_at S s r)
    sound_at_step x a = ap₂ (λ (z : ℤ) (k : ℕ). raised S (S.times z s.period) (tone_at S s k)) a.q a.r

    pub key_sound : (x : ℕ) (q : ℤ) (r : ℕ) → r < width S s → sub_ℕ x s.anchor ≡ q *ℤ pos (width S s) +ℤ pos r
        → sound_of S s x ≡ raised S (S.times q s.period) (tone_at S s r)
    key_sound x q r h e = sound_at_step x (at_only x q r h e)
