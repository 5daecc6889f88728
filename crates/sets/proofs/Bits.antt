-- How the code compares sets: one is part of another, one lies below a bound.
use mathlib.Core.Path.{◌≡◌, refl, sym, ap, ap₂, ◌∙◌}
use mathlib.Core.Bool.{Bool, true, false, ◌&&◌}
use Prim.Native.Nat.{ℕ, zero, suc, ◌+◌, ◌*◌, ◌/◌, ◌%◌, ◌^◌, min, ◌<◌}
use native.Mathlib.Nat.{pow-suc, zero-div, div-one, div-div-eq-div-mul, mul_comm, zero-min}
use native.Mathlib.Omega.{arith}
use borrow.Author.Tests.{ne_eqb, le-ltb, lt-ltb}
use lib.Bits.{bit_and, and_step}
use lib.Dec.{eqb, ltb, leb-suc-suc}
use Rattle.sets.specs.Sets.{has, all, implies}
use Rattle.sets.proofs.Tests.{same_equal, all_ext}
use Rattle.sets.proofs.Members.{half, parity, whole}

-- ---- one set is part of another

digit : (X A p q : ℕ) → p < 2 → q < 2 → implies (eqb p 1) (eqb q 1) && eqb X A ≡ eqb (X * 2 + min p q) (A * 2 + p)
digit X A zero q h k =
    same_equal X A (X * 2 + 0) (A * 2 + 0) (λ e. omega (arith, e)) (λ e. omega (arith, e)) ∙ ap (λ (m : ℕ). eqb (X * 2 + m) (A * 2 + 0)) (sym (zero-min q))
digit X A (suc zero) zero h k = sym (ne_eqb (X * 2 + 0) (A * 2 + 1) (λ e. omega (arith, e)))
digit X A (suc zero) (suc zero) h k = same_equal X A (X * 2 + 1) (A * 2 + 1) (λ e. omega (arith, e)) (λ e. omega (arith, e))
digit X A (suc zero) (suc (suc q)) h k = let e : ⊥ = omega arith in absurd e
digit X A (suc (suc p)) q h k = let e : ⊥ = omega arith in absurd e

pub part_of : (n a b : ℕ) → a < 2 ^ n → all n (λ r. implies (has a r) (has b r)) ≡ eqb (bit_and a b) a
unfolding all has
part_of zero zero b h = refl
part_of zero (suc a) b h = let e : ⊥ = omega arith in absurd e
part_of (suc n) a b h =
    ap (λ (t : Bool). implies (eqb (a % 2) 1) (eqb (b % 2) 1) && t) (part_of n (a / 2) (b / 2) (half n a h))
    ∙ digit (bit_and (a / 2) (b / 2)) (a / 2) (a % 2) (b % 2) (parity a) (parity b)
    ∙ ap₂ eqb (sym (and_step a b)) (whole a)

-- ---- all of a set lies below a bound

none : (A p : ℕ) → p < 2 → implies (eqb p 1) false && eqb A 0 ≡ eqb (A * 2 + p) 0
none A zero h = same_equal A 0 (A * 2 + 0) 0 (λ e. omega (arith, e)) (λ e. omega (arith, e))
none A (suc zero) h = sym (ne_eqb (A * 2 + 1) 0 (λ e. omega (arith, e)))
none A (suc (suc p)) h = let e : ⊥ = omega arith in absurd e

implies_true : (a : Bool) → implies a true ≡ true
implies_true true = refl
implies_true false = refl

pub below : (n w a : ℕ) → a < 2 ^ n → all n (λ r. implies (has a r) (ltb r w)) ≡ eqb (a / 2 ^ w) 0
unfolding all has
below zero w zero h = sym (ap (λ (x : ℕ). eqb x 0) (zero-div (2 ^ w)))
below zero w (suc a) h = let e : ⊥ = omega arith in absurd e
below (suc n) zero a h =
    ap₂ (λ (s t : Bool). implies (eqb (a % 2) 1) s && t) (le-ltb 0 0 (omega arith))
    (all_ext n _ (λ r. implies (has (a / 2) r) (ltb r 0)) (λ r. ap (implies (has (a / 2) r)) (le-ltb (suc r) 0 (omega arith) ∙ sym (le-ltb r 0 (omega arith))))
    ∙ below n zero (a / 2) (half n a h))
    ∙ ap (λ (x : ℕ). implies (eqb (a % 2) 1) false && eqb x 0) (div-one (a / 2))
    ∙ none (a / 2) (a % 2) (parity a)
    ∙ ap (λ (x : ℕ). eqb x 0) (whole a ∙ sym (div-one a))
below (suc n) (suc w) a h =
    ap₂ (λ (s t : Bool). s && t) (ap (implies (eqb (a % 2) 1)) (lt-ltb 0 (suc w) (omega arith)) ∙ implies_true (eqb (a % 2) 1))
    (all_ext n _ (λ r. implies (has (a / 2) r) (ltb r w)) (λ r. ap (implies (has (a / 2) r)) (leb-suc-suc (suc r) w)) ∙ below n w (a / 2) (half n a h))
    ∙ ap (λ (x : ℕ). eqb x 0) (div-div-eq-div-mul a 2 (2 ^ w) ∙ ap (λ (x : ℕ). a / x) (mul_comm 2 (2 ^ w) ∙ sym (pow-suc 2 w)))
