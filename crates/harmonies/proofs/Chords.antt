-- How the loop over a set of keys goes on, and that both halves together are the chord.
use mathlib.Core.Path.{◌≡◌, refl, sym, ap, ap₂, ◌∙◌}
use mathlib.Core.Bool.{Bool, true, false, cond, ◌&&◌, ◌||◌, or_assoc, or_comm}
use Prim.Native.Nat.{ℕ, suc, ◌+◌, ◌/◌, ◌%◌, ◌^◌, ◌<◌, ◌≤◌}
use native.Mathlib.Nat.{mod-eq_of_lt, mod-add-mod, add-zero, zero-add}
use native.Mathlib.Omega.{arith}
use lib.Dec.{eqb}
use Rattle.sets.specs.Sets.{has, added, any}
use Rattle.sets.proofs.Tests.{eqb_sym, any_ext, any_none, any_first, any_split}
use Rattle.sets.proofs.Members.{half, has_zero, has_beyond, has_added, has_set_of, set_below, same_sets}
use Rattle.tuning.specs.Tuning.{position_in}
use Rattle.keys.specs.declared.HeldKeys.{HeldKeys}
use Rattle.harmonies.specs.Harmonies.{is_down, is_held_at, chord_of}
use Rattle.harmonies.specs.Inner.{DownFrom, reaches, Joined}
use Rattle.harmonies.proofs.Places.{position_above}

-- ---- one key of the set after the other

pub lowest : (keys : ℕ) → has keys 0 ≡ eqb (keys % 2) 1
unfolding has
lowest keys = refl

-- the lowest, then the rest
lowest_first : (n keys : ℕ) (f : ℕ → Bool) → keys < 2 ^ suc n
    → any (suc n) (λ i. has keys i && f i) ≡ has keys 0 && f 0 || any (suc n) (λ i. has (keys / 2) i && f (suc i))
unfolding has any
lowest_first n keys f h =
    any_first n (λ i. has keys i && f i)
    ∙ ap (λ (b : Bool). has keys 0 && f 0 || (b && f (suc n) || any n (λ i. has (keys / 2) i && f (suc i))))
    (sym (has_beyond n (keys / 2) n (half n keys h) (omega arith)))

module _ (keys r w s : ℕ) (h : keys < 2 ^ 64) (l : r < w) where
  next_reaches : reaches keys r w s ≡ has keys 0 && eqb s r || reaches (keys / 2) ((r + 1) % w) w s
  next_reaches =
      lowest_first 63 keys (λ i. eqb ((r + i) % w) s) h
      ∙ ap₂ (λ (a b : Bool). has keys 0 && a || b)
      (ap (λ (n : ℕ). eqb n s) (ap (λ (n : ℕ). n % w) (add-zero r) ∙ mod-eq_of_lt l) ∙ eqb_sym r s)
      (any_ext 64 _ _ (λ i m. ap (λ (n : ℕ). has (keys / 2) i && eqb n s) (ap (λ (n : ℕ). n % w) (omega arith) ∙ sym (mod-add-mod (r + 1) w i))))

  -- what the chord has and what the keys still reach stays
  pub stays : (chord : ℕ) (b : Bool) → has keys 0 ≡ b
      → has (cond b (added chord r) chord) s || reaches (keys / 2) ((r + 1) % w) w s ≡ has chord s || reaches keys r w s
  stays chord true e =
      ap (λ (c : Bool). c || reaches (keys / 2) ((r + 1) % w) w s) (has_added chord r s ∙ or_comm (eqb s r) (has chord s))
      ∙ or_assoc (has chord s) (eqb s r) _
      ∙ ap (λ (c : Bool). has chord s || c) (sym (next_reaches ∙ ap (λ (c : Bool). c && eqb s r || reaches (keys / 2) ((r + 1) % w) w s) e))
  stays chord false e = ap (λ (c : Bool). has chord s || c) (sym (next_reaches ∙ ap (λ (c : Bool). c && eqb s r || reaches (keys / 2) ((r + 1) % w) w s) e))

pub none_reached : (r w s : ℕ) → reaches 0 r w s ≡ false
none_reached r w s = any_none 64 _ (λ i m. ap (λ (b : Bool). b && eqb ((r + i) % w) s) (has_zero i))

-- ---- both halves

module _ (h : HeldKeys) (a w : ℕ) (ha : a ≤ 127) (hw : 1 ≤ w) where
  -- the positions that the keys of one half reach
  half_reaches : (from keys s : ℕ) → DownFrom h from keys
      → reaches keys (position_in a w from) w s ≡ any 64 (λ i. is_down h (from + i) && eqb (position_in a w (from + i)) s)
  half_reaches from keys s d = any_ext 64 _ _ (λ i m. ap₂ (λ (b : Bool) (n : ℕ). b && eqb n s) (d i m) (sym (position_above a w ha hw from i)))

  pub both_halves : {lower upper low high : ℕ} → DownFrom h 0 lower → DownFrom h 64 upper
      → Joined 0 lower (position_in a w 0) w low → Joined low upper (position_in a w 64) w high → high ≡ chord_of h a w
  both_halves {lower} {upper} {low} {high} d e i j =
      same_sets 60 high (chord_of h a w) j.within (set_below 60 (is_held_at h a w)) (λ s l. members s ∙ sym (has_set_of 60 (is_held_at h a w) s l))
    where
      lower_half : (s : ℕ) → has low s ≡ any 64 (λ x. is_down h x && eqb (position_in a w x) s)
      lower_half s =
          i.members s
          ∙ ap₂ ◌||◌ (has_zero s) (half_reaches 0 lower s d)
          ∙ any_ext 64 _ _ (λ k m. ap (λ (x : ℕ). is_down h x && eqb (position_in a w x) s) (zero-add k))

      members : (s : ℕ) → has high s ≡ is_held_at h a w s
      members s =
          j.members s
          ∙ ap₂ ◌||◌ (lower_half s) (half_reaches 64 upper s e)
          ∙ sym (any_split 64 64 (λ x. is_down h x && eqb (position_in a w x) s))
