-- The position of a key: a remainder of natural numbers, and that of keys above it.
use mathlib.Core.Path.{◌≡◌, refl, sym, ap, ◌∙◌}
use mathlib.Core.Bool.{Bool, true, false, cond}
use Prim.Native.Nat.{ℕ, suc, ◌+◌, ◌-◌, ◌*◌, ◌/◌, ◌%◌, ◌<◌, ◌≤◌}
use native.Mathlib.Nat.{mod-lt, mod-eq_of_lt, mod-add-mod, add-mul-mod_self_left, div-add-mod, div-le_self, mul-sub}
use native.Mathlib.Omega.{arith}
use borrow.Author.Tests.{ltb-true, ltb-false}
use lib.Dec.{ltb}
use lib.IntN.{pos, negsuc}
use Rattle.integers.specs.Floor.{floor_mod}
use Rattle.tuning.specs.Tuning.{position_in}

module _ (a w : ℕ) (ha : a ≤ 127) (hw : 1 ≤ w) where
  above : (x : ℕ) → a ≤ x → (x - a) % w ≡ (x + (w * 128 - a)) % w
  above x h = sym (ap (λ (n : ℕ). n % w) (omega arith) ∙ add-mul-mod_self_left (x - a) w 128)

  under : (x : ℕ) → x < a → w - suc ((a - suc x) % w) ≡ (x + (w * 128 - a)) % w
  under x h =
      let m = a - suc x in
      let q = m / w in
      let p = m % w in
      let small : p < w = mod-lt m (omega arith) in
      let few : q ≤ 127 = omega (arith, div-le_self m w) in
      let split : w * q + p ≡ m = div-add-mod m w in
      let wide : w * (127 - q) ≡ w * 127 - w * q = mul-sub w 127 q in
      let most : w * q ≤ m = omega (arith, split) in
      sym (ap (λ (n : ℕ). n % w) (omega (arith, split, wide, small, most)) ∙ add-mul-mod_self_left (w - suc p) w (127 - q) ∙ mod-eq_of_lt (omega arith))

  -- from the anchor 128 widths lower
  pub position_plain : (x : ℕ) → position_in a w x ≡ (x + (w * 128 - a)) % w
  position_plain x = go (ltb x a) refl
    where
      go : (t : Bool) → ltb x a ≡ t → floor_mod (cond t (negsuc (a - suc x)) (pos (x - a))) w ≡ (x + (w * 128 - a)) % w
      go true e = under x (ltb-true x a e)
      go false e = above x (ltb-false x a e)

  pub position_low : (x : ℕ) → position_in a w x < w
  position_low x = rw (position_plain x) (mod-lt (x + (w * 128 - a)) (omega arith))

  -- of the key i above x
  pub position_above : (x i : ℕ) → position_in a w (x + i) ≡ (position_in a w x + i) % w
  position_above x i =
      let k = w * 128 - a in
      position_plain (x + i)
      ∙ ap (λ (n : ℕ). n % w) (omega arith)
      ∙ sym (mod-add-mod (x + k) w i)
      ∙ ap (λ (n : ℕ). (n + i) % w) (sym (position_plain x))
