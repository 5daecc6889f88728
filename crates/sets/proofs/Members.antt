-- Which numbers a set has: after one is added or removed, of two sets joined, of a set made by a test; and sets with the same members are equal.
use mathlib.Core.Path.{◌≡◌, refl, sym, ap, ap₂, ◌∙◌}
use mathlib.Core.Bool.{Bool, true, false, cond, not, ◌&&◌, ◌||◌}
use Prim.Native.Nat.{ℕ, zero, suc, ◌+◌, ◌-◌, ◌*◌, ◌/◌, ◌%◌, ◌^◌, max, ◌<◌, ◌≤◌}
use native.Mathlib.Nat.{max-zero, pow-suc, div-add-mod', mod-lt, div-one, div-div-eq-div-mul, mul_comm}
use native.Mathlib.Omega.{arith}
use borrow.Author.Tests.{eqb-true, eqb-false, eq-eqb, ne_eqb}
use lib.Bits.{bit_or, or_step, or_zero_r, or_lt}
use lib.Dec.{eqb, eqb-suc-suc, eqb-suc-zero, eqb-zero-suc}
use lib.Pow.{pow-lt}
use Rattle.sets.specs.Sets.{has, added, removed, set_of}
use Rattle.sets.proofs.Tests.{never}

-- ---- halves

pub half : (n a : ℕ) → a < 2 ^ suc n → a / 2 < 2 ^ n
half n a h = omega (arith, pow-suc 2 n)

pub parity : (a : ℕ) → a % 2 < 2
parity a = mod-lt a (omega arith)

pub whole : (a : ℕ) → a / 2 * 2 + a % 2 ≡ a
whole a = div-add-mod' a 2

-- a number from its lowest bit and the rest
rest : (x b : ℕ) → b < 2 → (x * 2 + b) / 2 ≡ x
rest x b h = omega arith

lowest : (x b : ℕ) → b < 2 → (x * 2 + b) % 2 ≡ b
lowest x b h = omega arith

-- bit r, as the shifted number's lowest
pub has_shift : (n r : ℕ) → has n r ≡ eqb (n / 2 ^ r % 2) 1
unfolding has
has_shift n zero = sym (ap (λ (x : ℕ). eqb (x % 2) 1) (div-one n))
has_shift n (suc r) =
    has_shift (n / 2) r ∙ ap (λ (x : ℕ). eqb (x % 2) 1) (div-div-eq-div-mul n 2 (2 ^ r) ∙ ap (λ (x : ℕ). n / x) (mul_comm 2 (2 ^ r) ∙ sym (pow-suc 2 r)))

pub has_zero : (r : ℕ) → has 0 r ≡ false
unfolding has
has_zero zero = refl
has_zero (suc r) = has_zero r

-- a set below 2^k has nothing from k on
pub has_beyond : (k n r : ℕ) → n < 2 ^ k → k ≤ r → has n r ≡ false
unfolding has
has_beyond zero zero r h l = has_zero r
has_beyond zero (suc n) r h l = let e : ⊥ = omega arith in absurd e
has_beyond (suc k) n zero h l = let e : ⊥ = omega arith in absurd e
has_beyond (suc k) n (suc r) h l = has_beyond k (n / 2) r (half k n h) (omega arith)

-- what is in a set is no more than it
pub has_least : (n r : ℕ) → has n r ≡ true → 2 ^ r ≤ n
unfolding has
has_least n zero h = omega (arith, eqb-true (n % 2) 1 h)
has_least n (suc r) h = omega (arith, has_least (n / 2) r h, pow-suc 2 r)

-- sets with the same members are equal
pub same_sets : (k a b : ℕ) → a < 2 ^ k → b < 2 ^ k → ((r : ℕ) → r < k → has a r ≡ has b r) → a ≡ b
unfolding has
same_sets zero a b h l e = omega arith
same_sets (suc k) a b h l e =
    let high : a / 2 ≡ b / 2 = same_sets k (a / 2) (b / 2) (half k a h) (half k b l) (λ r m. e (suc r) (omega arith)) in
    let low : a % 2 ≡ b % 2 = bit (a % 2) (b % 2) (parity a) (parity b) (e 0 (omega arith)) in
    sym (whole a) ∙ ap₂ (λ (x y : ℕ). x * 2 + y) high low ∙ whole b
  where
    bit : (p q : ℕ) → p < 2 → q < 2 → eqb p 1 ≡ eqb q 1 → p ≡ q
    bit zero zero x y f = refl
    bit zero (suc zero) x y f = never refl (sym f)
    bit (suc zero) zero x y f = never refl f
    bit (suc zero) (suc zero) x y f = refl
    bit (suc (suc p)) q x y f = let z : ⊥ = omega arith in absurd z
    bit zero (suc (suc q)) x y f = let z : ⊥ = omega arith in absurd z
    bit (suc zero) (suc (suc q)) x y f = let z : ⊥ = omega arith in absurd z

-- ---- one number more

added_low : (n : ℕ) → added n 0 ≡ n / 2 * 2 + 1
unfolding added has
added_low n = go (eqb (n % 2) 1) refl
  where
    go : (t : Bool) → eqb (n % 2) 1 ≡ t → cond t n (n + 1) ≡ n / 2 * 2 + 1
    go true e = omega (arith, eqb-true (n % 2) 1 e)
    go false e = let odd : n % 2 ≡ 1 → ⊥ = eqb-false (n % 2) 1 e in omega arith

added_step : (n r : ℕ) → added n (suc r) ≡ added (n / 2) r * 2 + n % 2
unfolding added has
added_step n r = go (has (n / 2) r)
  where
    go : (t : Bool) → cond t n (n + 2 ^ suc r) ≡ cond t (n / 2) (n / 2 + 2 ^ r) * 2 + n % 2
    go true = sym (whole n)
    go false = omega (arith, pow-suc 2 r, whole n)

pub has_added : (n r s : ℕ) → has (added n r) s ≡ eqb s r || has n s
unfolding has
has_added n zero zero = ap (λ (x : ℕ). eqb (x % 2) 1) (added_low n) ∙ eq-eqb ((n / 2 * 2 + 1) % 2) 1 (omega arith)
has_added n zero (suc s) =
    ap (λ (x : ℕ). has x s) (ap (λ (x : ℕ). x / 2) (added_low n) ∙ omega arith) ∙ ap (λ (b : Bool). b || has (n / 2) s) (sym (eqb-suc-zero s))
has_added n (suc r) zero =
    ap (λ (x : ℕ). eqb x 1) (ap (λ (x : ℕ). x % 2) (added_step n r) ∙ lowest (added (n / 2) r) (n % 2) (parity n))
    ∙ ap (λ (b : Bool). b || eqb (n % 2) 1) (sym (eqb-zero-suc r))
has_added n (suc r) (suc s) =
    ap (λ (x : ℕ). has x s) (ap (λ (x : ℕ). x / 2) (added_step n r) ∙ rest (added (n / 2) r) (n % 2) (parity n))
    ∙ has_added (n / 2) r s
    ∙ ap (λ (b : Bool). b || has (n / 2) s) (sym (eqb-suc-suc s r))

pub has_added_same : (n r : ℕ) → has (added n r) r ≡ true
has_added_same n r = has_added n r r ∙ ap (λ (b : Bool). b || has n r) (eq-eqb r r refl)

pub has_added_other : (n r s : ℕ) → (s ≡ r → ⊥) → has (added n r) s ≡ has n s
has_added_other n r s h = has_added n r s ∙ ap (λ (b : Bool). b || has n s) (ne_eqb s r h)

-- ---- one number less

removed_low : (n : ℕ) → removed n 0 ≡ n / 2 * 2
unfolding removed has
removed_low n = go (eqb (n % 2) 1) refl
  where
    go : (t : Bool) → eqb (n % 2) 1 ≡ t → cond t (n - 1) n ≡ n / 2 * 2
    go true e = omega (arith, eqb-true (n % 2) 1 e)
    go false e = let odd : n % 2 ≡ 1 → ⊥ = eqb-false (n % 2) 1 e in omega arith

removed_step : (n r : ℕ) → removed n (suc r) ≡ removed (n / 2) r * 2 + n % 2
unfolding removed has
removed_step n r = go (has (n / 2) r) refl
  where
    go : (t : Bool) → has (n / 2) r ≡ t → cond t (n - 2 ^ suc r) n ≡ cond t (n / 2 - 2 ^ r) (n / 2) * 2 + n % 2
    go true e = omega (arith, pow-suc 2 r, whole n, has_least (n / 2) r e)
    go false e = sym (whole n)

pub has_removed : (n r s : ℕ) → has (removed n r) s ≡ not (eqb s r) && has n s
unfolding has
has_removed n zero zero = ap (λ (x : ℕ). eqb (x % 2) 1) (removed_low n) ∙ ne_eqb (n / 2 * 2 % 2) 1 (λ e. omega (arith, e))
has_removed n zero (suc s) =
    ap (λ (x : ℕ). has x s) (ap (λ (x : ℕ). x / 2) (removed_low n) ∙ omega arith) ∙ ap (λ (b : Bool). not b && has (n / 2) s) (sym (eqb-suc-zero s))
has_removed n (suc r) zero =
    ap (λ (x : ℕ). eqb x 1) (ap (λ (x : ℕ). x % 2) (removed_step n r) ∙ lowest (removed (n / 2) r) (n % 2) (parity n))
    ∙ ap (λ (b : Bool). not b && eqb (n % 2) 1) (sym (eqb-zero-suc r))
has_removed n (suc r) (suc s) =
    ap (λ (x : ℕ). has x s) (ap (λ (x : ℕ). x / 2) (removed_step n r) ∙ rest (removed (n / 2) r) (n % 2) (parity n))
    ∙ has_removed (n / 2) r s
    ∙ ap (λ (b : Bool). not b && has (n / 2) s) (sym (eqb-suc-suc s r))

pub has_removed_same : (n r : ℕ) → has (removed n r) r ≡ false
has_removed_same n r = has_removed n r r ∙ ap (λ (b : Bool). not b && has n r) (eq-eqb r r refl)

pub has_removed_other : (n r s : ℕ) → (s ≡ r → ⊥) → has (removed n r) s ≡ has n s
has_removed_other n r s h = has_removed n r s ∙ ap (λ (b : Bool). not b && has n s) (ne_eqb s r h)

-- ---- two sets joined

pub has_or : (a b r : ℕ) → has (bit_or a b) r ≡ has a r || has b r
unfolding has
has_or a b zero = ap (λ (x : ℕ). eqb (x % 2) 1) (or_step a b) ∙ go (bit_or (a / 2) (b / 2)) (a % 2) (b % 2) (parity a) (parity b)
  where
    go : (x p q : ℕ) → p < 2 → q < 2 → eqb ((x * 2 + max p q) % 2) 1 ≡ eqb p 1 || eqb q 1
    go x zero zero h k = ap (λ (y : ℕ). eqb y 1) (lowest x 0 h)
    go x zero (suc zero) h k = ap (λ (y : ℕ). eqb y 1) (lowest x 1 k)
    go x (suc zero) zero h k = ap (λ (y : ℕ). eqb y 1) (lowest x 1 h)
    go x (suc zero) (suc zero) h k = ap (λ (y : ℕ). eqb y 1) (lowest x 1 h)
    go x (suc (suc p)) q h k = let z : ⊥ = omega arith in absurd z
    go x zero (suc (suc q)) h k = let z : ⊥ = omega arith in absurd z
    go x (suc zero) (suc (suc q)) h k = let z : ⊥ = omega arith in absurd z
has_or a b (suc r) =
    ap (λ (x : ℕ). has x r) (ap (λ (x : ℕ). x / 2) (or_step a b) ∙ rest (bit_or (a / 2) (b / 2)) _ (omega (arith, parity a, parity b)))
    ∙ has_or (a / 2) (b / 2) r

-- one number more, as the code adds it
pub added_or : (n r : ℕ) → bit_or n (2 ^ r) ≡ added n r
added_or n zero = or_step n 1 ∙ ap₂ (λ (x y : ℕ). x * 2 + y) (or_zero_r (n / 2)) (omega (arith, parity n)) ∙ sym (added_low n)
added_or n (suc r) =
    or_step n (2 ^ suc r)
    ∙ ap₂ (λ (x y : ℕ). bit_or (n / 2) x * 2 + max (n % 2) y) (omega (arith, pow-suc 2 r)) (omega (arith, pow-suc 2 r))
    ∙ ap₂ (λ (x y : ℕ). x * 2 + y) (added_or (n / 2) r) (max-zero (n % 2))
    ∙ sym (added_step n r)

pub added_below : (k n r : ℕ) → n < 2 ^ k → r < k → added n r < 2 ^ k
added_below k n r h l = rw (← added_or n r) (or_lt k n (2 ^ r) h (pow-lt {i = r} {j = k} l))

pub removed_below : (n r : ℕ) → removed n r ≤ n
unfolding removed
removed_below n r = go (has n r)
  where
    go : (t : Bool) → cond t (n - 2 ^ r) n ≤ n
    go true = omega arith
    go false = omega arith

-- one number less, as the code takes it away
pub removed_added : (n r : ℕ) → added n r - 2 ^ r ≡ removed n r
unfolding added removed
removed_added n r = go (has n r)
  where
    go : (t : Bool) → cond t n (n + 2 ^ r) - 2 ^ r ≡ cond t (n - 2 ^ r) n
    go true = refl
    go false = omega arith

pub added_least : (n r : ℕ) → 2 ^ r ≤ added n r
added_least n r = has_least (added n r) r (has_added_same n r)

-- ---- the set of those that pass a test

bit_low : (b : Bool) (m : ℕ) → (cond b 1 0 + m * 2) % 2 ≡ cond b 1 0
bit_low true m = omega arith
bit_low false m = omega arith

bit_high : (b : Bool) (m : ℕ) → (cond b 1 0 + m * 2) / 2 ≡ m
bit_high true m = omega arith
bit_high false m = omega arith

pub set_below : (n : ℕ) (f : ℕ → Bool) → set_of n f < 2 ^ n
unfolding set_of
set_below zero f = omega arith
set_below (suc n) f = go (f 0) (set_of n (λ r. f (suc r))) (set_below n (λ r. f (suc r)))
  where
    go : (b : Bool) (m : ℕ) → m < 2 ^ n → cond b 1 0 + m * 2 < 2 ^ suc n
    go true m h = omega (arith, pow-suc 2 n)
    go false m h = omega (arith, pow-suc 2 n)

pub has_set_of : (n : ℕ) (f : ℕ → Bool) (r : ℕ) → r < n → has (set_of n f) r ≡ f r
unfolding set_of has
has_set_of zero f r h = let e : ⊥ = omega arith in absurd e
has_set_of (suc n) f zero h = ap (λ (x : ℕ). eqb x 1) (bit_low (f 0) _) ∙ go (f 0)
  where
    go : (b : Bool) → eqb (cond b 1 0) 1 ≡ b
    go true = refl
    go false = refl
has_set_of (suc n) f (suc r) h = ap (λ (x : ℕ). has x r) (bit_high (f 0) _) ∙ has_set_of n (λ s. f (suc s)) r (omega arith)
