-- Laws of powers of natural numbers, and inequalities with powers of two on both sides.
use mathlib.Core.Path.{◌≡◌, refl, ap}
use Prim.Native.Nat.{ℕ, zero, suc, ◌+◌, ◌*◌, ◌^◌, ◌≤◌, ◌<◌}
use native.Mathlib.Nat.{pow-suc, pow-zero, mul-le-mul, mul-le-mul_left, mul-le-mul_right, mul_comm, one-le-pow, mul-mul-mul_comm, pow-le-pow_left, pow-lt-pow_left, lt_of_not-le, not-le_of_lt, le_of_mul-le-mul_left, mul-zero, mul-suc, mul-lt-mul_of_pos_right, lt_of_mul-lt-mul_left}
use native.Mathlib.Decide.{dec_le}
use native.Mathlib.Omega.{arith}
use lib.Pow.{pow-add, pow_mono, pow-lt, pow_pos}

-- (M+1)^j · t ≤ (M+1) · M^j where j + t = M+1
pub bernoulli : (M j t : ℕ) → j + t ≡ suc M → suc M ^ j * t ≤ suc M * M ^ j
bernoulli M zero t e = rw (pow-zero, pow-zero) (omega arith)
bernoulli M (suc j) t e =
    let x : ℕ = suc M ^ j in
    let ih : x * suc t ≤ suc M * M ^ j = bernoulli M j (suc t) (omega arith) in
    let a : suc M * t ≤ M * suc t = omega arith in
    let b : x * (suc M * t) ≤ x * (M * suc t) = mul-le-mul_left x a in
    let d : M * (x * suc t) ≤ M * (suc M * M ^ j) = mul-le-mul_left M ih in
    rw (pow-suc (suc M) j, pow-suc M j) (omega arith)

-- (M+1)^j < 2·M^j where 2j < M+1
pub nearly : (M j t : ℕ) → zero < M → j + t ≡ suc M → j < t → suc M ^ j < 2 * M ^ j
nearly M j t p e h =
    let x : ℕ = suc M ^ j in
    let y : ℕ = M ^ j in
    let b : x * t ≤ suc M * y = bernoulli M j t e in
    let g : suc M * y < (t + t) * y = mul-lt-mul_of_pos_right (omega arith) (one-le-pow j M p) in
    lt_of_mul-lt-mul_left t (omega arith)

-- The laws of powers that the kit lacks.
pub mul_pow : (a b k : ℕ) → (a * b) ^ k ≡ a ^ k * b ^ k
mul_pow a b zero = rw (pow-zero, pow-zero, pow-zero)
mul_pow a b (suc k) = rw (pow-suc (a * b) k, pow-suc a k, pow-suc b k, mul_pow a b k) (mul-mul-mul_comm (a ^ k) (b ^ k) a b)

pub pow_mul : (a j k : ℕ) → a ^ (j * k) ≡ (a ^ j) ^ k
pow_mul a j zero = rw (mul-zero, pow-zero, pow-zero)
pow_mul a j (suc k) = rw (pow-suc (a ^ j) k, mul-suc j k, pow-add a (j * k) j, pow_mul a j k)

pub pow_swap : (a j k : ℕ) → (a ^ j) ^ k ≡ (a ^ k) ^ j
pow_swap a j k = rw (← (pow_mul a j k), ← (pow_mul a k j), mul_comm j k)

pub one_pow : (k : ℕ) → 1 ^ k ≡ 1
one_pow zero = refl
one_pow (suc k) = rw (pow-suc 1 k, one_pow k)

-- 2^a·x ≤ 2^b·y, in which a difference of exponents a - b may be negative: 2^(a-b) ≤ y/x.
-- A record, so that a law at written-out numbers is not computed.
pub record Under (a b x y : ℕ) : Type 0 where
  pub le : 2 ^ a * x ≤ 2 ^ b * y

pub under_mul : {a b x y a' b' x' y' : ℕ} → Under a b x y → Under a' b' x' y' → Under (a + a') (b + b') (x * x') (y * y')
under_mul {a} {b} {x} {y} {a'} {b'} {x'} {y'} h h' =
    record {
      le =
          rw (
            pow-add 2 a a',
            pow-add 2 b b',
            mul-mul-mul_comm (2 ^ a) (2 ^ a') x x',
            mul-mul-mul_comm (2 ^ b) (2 ^ b') y y',
          )
          (mul-le-mul h.le h'.le);
    }

pub under_pow : {a b x y : ℕ} (k : ℕ) → Under a b x y → Under (a * k) (b * k) (x ^ k) (y ^ k)
under_pow {a} {b} {x} {y} k h =
    record {
      le =
          rw (pow_mul 2 a k, pow_mul 2 b k, ← (mul_pow (2 ^ a) x k), ← (mul_pow (2 ^ b) y k)) (pow-le-pow_left h.le k);
    }

root_le : {x y : ℕ} (k : ℕ) → zero < k → x ^ k ≤ y ^ k → x ≤ y
root_le {x} {y} k p h =
    elim (dec_le x y) [
      | yes l ↦ l
      | no n ↦ absurd (not-le_of_lt (pow-lt-pow_left (lt_of_not-le n) (λ z. omega arith)) h)
    ]

pub under_root : {a b x y : ℕ} (k : ℕ) → zero < k → Under (a * k) (b * k) (x ^ k) (y ^ k) → Under a b x y
under_root {a} {b} {x} {y} k p h =
    record {
      le =
          root_le
          k
          p
          (rw (mul_pow (2 ^ a) x k, mul_pow (2 ^ b) y k, ← (pow_mul 2 a k), ← (pow_mul 2 b k)) h.le);
    }

-- A smaller difference of exponents.
pub under_less : {a b x y a' b' : ℕ} → a' + b ≤ a + b' → Under a b x y → Under a' b' x y
under_less {a} {b} {x} {y} {a'} {b'} e h =
    let A : ℕ = 2 ^ a in
    let B : ℕ = 2 ^ b in
    let A' : ℕ = 2 ^ a' in
    let B' : ℕ = 2 ^ b' in
    let f : A' * B ≤ A * B' = rw (← (pow-add 2 a' b), ← (pow-add 2 a b')) (pow_mono e) in
    let g : A' * B * x ≤ A * B' * x = mul-le-mul_right x f in
    let i : B' * (A * x) ≤ B' * (B * y) = mul-le-mul_left B' h.le in
    record { le = le_of_mul-le-mul_left {k = B} (omega arith) (pow_pos b) }

-- The same fraction y/x, written otherwise; and a power of it.
pub under_ratio : {a b x y : ℕ} (x' y' : ℕ) → zero < x → y * x' ≡ y' * x → Under a b x y → Under a b x' y'
under_ratio {a} {b} {x} {y} x' y' p e h =
    let A : ℕ = 2 ^ a in
    let B : ℕ = 2 ^ b in
    let f : x' * (A * x) ≤ x' * (B * y) = mul-le-mul_left x' h.le in
    let g : B * (y * x') ≡ B * (y' * x) = ap (λ (t : ℕ). B * t) e in
    record { le = le_of_mul-le-mul_left {k = x} (omega arith) p }

pub under_ratio_pow : {a b : ℕ} (k x y x' y' : ℕ) → zero < x → y * x' ≡ y' * x → Under a b (x ^ k) (y ^ k) → Under a b (x' ^ k) (y' ^ k)
under_ratio_pow k x y x' y' p e h = under_ratio (x' ^ k) (y' ^ k) (one-le-pow k x p) (rw (← (mul_pow y x' k), ← (mul_pow y' x k), e)) h

-- 2^a ≤ y/x ≤ 2^b
pub under_both : {a b x y : ℕ} → zero < x → Under a 0 x y → Under 0 b y x → a ≤ b
under_both {a} {b} {x} {y} p h k =
    elim (dec_le a b) [
      | yes l ↦ l
      | no n ↦ let f : 2 ^ b * x < 2 ^ a * x = mul-lt-mul_of_pos_right (pow-lt (lt_of_not-le n)) p in absurd (omega (arith, h.le, k.le))
    ]
