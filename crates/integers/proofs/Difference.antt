-- Whole numbers as differences of natural numbers, and the laws of products that follow.
use mathlib.Core.Path.{◌≡◌, ap}
use Prim.Native.Nat.{ℕ, suc, ◌+◌, ◌*◌}
use native.Mathlib.Nat.{one-mul}
use native.Mathlib.Omega.{arith}
use lib.IntN.{ℤ, pos, negsuc, ◌+ℤ◌, ◌-ℤ◌, ◌*ℤ◌}
use Rattle.integers.specs.Parts.{up, dn}
use Rattle.integers.proofs.Signed.{signed, sum, diff, up_neg, dn_neg}

-- z is a - b
pub record Is (z : ℤ) (a b : ℕ) : Type 0 where
  pub eq : up z + b ≡ dn z + a

pub is_self : (z : ℤ) → Is z (up z) (dn z)
is_self (pos n) = record { eq = omega arith }
is_self (negsuc n) = record { eq = omega arith }

pub is_add : (y z : ℤ) {a b a' b' : ℕ} → Is y a b → Is z a' b' → Is (y +ℤ z) (a + a') (b + b')
is_add y z h k = record { eq = omega (arith, h.eq, k.eq, (sum y z).val) }

pub is_diff : (y z : ℤ) {a b a' b' : ℕ} → Is y a b → Is z a' b' → Is (y -ℤ z) (a + b') (b + a')
is_diff y z h k = record { eq = omega (arith, h.eq, k.eq, (diff y z).val) }

pub is_pos : (n : ℕ) → Is (pos n) n 0
is_pos n = record { eq = omega arith }

pub is_scale : (k : ℕ) (z : ℤ) {a b : ℕ} → Is z a b → Is (pos k *ℤ z) (k * a) (k * b)
is_scale k (pos n) {a} {b} h =
    let e : k * (n + b) ≡ k * (0 + a) = ap (λ (x : ℕ). k * x) h.eq in
    record { eq = omega arith }
is_scale k (negsuc n) {a} {b} h =
    let e : k * (0 + b) ≡ k * (suc n + a) = ap (λ (x : ℕ). k * x) h.eq in
    record { eq = omega (arith, up_neg (pos (k * suc n)), dn_neg (pos (k * suc n))) }

pub is_flip : (k : ℕ) (z : ℤ) {a b : ℕ} → Is z a b → Is (negsuc k *ℤ z) (suc k * b) (suc k * a)
is_flip k (pos n) {a} {b} h =
    let e : suc k * (n + b) ≡ suc k * (0 + a) = ap (λ (x : ℕ). suc k * x) h.eq in
    record { eq = omega (arith, up_neg (pos (suc k * n)), dn_neg (pos (suc k * n))) }
is_flip k (negsuc n) {a} {b} h =
    let e : suc k * (0 + b) ≡ suc k * (suc n + a) = ap (λ (x : ℕ). suc k * x) h.eq in
    record { eq = omega arith }

-- ---- equations over ℤ, by naturals

pub equal : (y z : ℤ) {a b a' b' : ℕ} → Is y a b → Is z a' b' → a + b' ≡ a' + b → y ≡ z
equal y z h k e = omega (signed, h.eq, k.eq)

pub is_mul : (y z : ℤ) {a b c d : ℕ} → Is y a b → Is z c d → Is (y *ℤ z) (a * c + b * d) (a * d + b * c)
is_mul (pos k) z {a} {b} {c} {d} h i =
    let e : (k + b) * c ≡ (0 + a) * c = ap (λ (x : ℕ). x * c) h.eq in
    let f : (k + b) * d ≡ (0 + a) * d = ap (λ (x : ℕ). x * d) h.eq in
    record { eq = omega (arith, (is_scale k z i).eq) }
is_mul (negsuc k) z {a} {b} {c} {d} h i =
    let e : (0 + b) * c ≡ (suc k + a) * c = ap (λ (x : ℕ). x * c) h.eq in
    let f : (0 + b) * d ≡ (suc k + a) * d = ap (λ (x : ℕ). x * d) h.eq in
    record { eq = omega (arith, (is_flip k z i).eq) }

pub add_mulℤ : (x y z : ℤ) → (x +ℤ y) *ℤ z ≡ x *ℤ z +ℤ y *ℤ z
add_mulℤ x y z =
    let ix = is_self x in
    let iy = is_self y in
    let iz = is_self z in
    equal ((x +ℤ y) *ℤ z) (x *ℤ z +ℤ y *ℤ z) (is_mul (x +ℤ y) z (is_add x y ix iy) iz) (is_add (x *ℤ z) (y *ℤ z) (is_mul x z ix iz) (is_mul y z iy iz)) (omega arith)

pub mul_addℤ : (x y z : ℤ) → x *ℤ (y +ℤ z) ≡ x *ℤ y +ℤ x *ℤ z
mul_addℤ x y z =
    let ix = is_self x in
    let iy = is_self y in
    let iz = is_self z in
    equal (x *ℤ (y +ℤ z)) (x *ℤ y +ℤ x *ℤ z) (is_mul x (y +ℤ z) ix (is_add y z iy iz)) (is_add (x *ℤ y) (x *ℤ z) (is_mul x y ix iy) (is_mul x z ix iz)) (omega arith)

pub mul_assocℤ : (x y z : ℤ) → (x *ℤ y) *ℤ z ≡ x *ℤ (y *ℤ z)
mul_assocℤ x y z =
    let ix = is_self x in
    let iy = is_self y in
    let iz = is_self z in
    equal ((x *ℤ y) *ℤ z) (x *ℤ (y *ℤ z)) (is_mul (x *ℤ y) z (is_mul x y ix iy) iz) (is_mul x (y *ℤ z) ix (is_mul y z iy iz)) (omega arith)

pub swap_addℤ : (a b c d : ℤ) → (a +ℤ b) +ℤ (c +ℤ d) ≡ (a +ℤ c) +ℤ (b +ℤ d)
swap_addℤ a b c d =
    let ia = is_self a in
    let ib = is_self b in
    let ic = is_self c in
    let id = is_self d in
    equal ((a +ℤ b) +ℤ (c +ℤ d)) ((a +ℤ c) +ℤ (b +ℤ d)) (is_add (a +ℤ b) (c +ℤ d) (is_add a b ia ib) (is_add c d ic id)) (is_add (a +ℤ c) (b +ℤ d) (is_add a c ia ic) (is_add b d ib id)) (omega arith)

pub one_mulℤ : (x : ℤ) → pos 1 *ℤ x ≡ x
one_mulℤ (pos n) = ap pos (one-mul n)
one_mulℤ (negsuc n) = rw (one-mul (suc n))
