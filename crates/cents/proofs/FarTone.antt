-- Fewer than 51 hundredths of a thousandth for each power would be too few: a frequency of 1153 hertz lies farther than fifty above its measure.
use mathlib.Core.Path.{◌≡◌, refl}
use Prim.Native.Nat.{ℕ, zero, ◌+◌, ◌*◌, ◌^◌, ◌≤◌, ◌<◌}
use native.Mathlib.Nat.{one-le-pow}
use native.Mathlib.Omega.{arith}
use borrow.Author.Tests.{leb-true}
use lib.IntN.{pos}
use Rattle.integers.proofs.Powers.{Under, pow_swap, under_pow, under_less, under_ratio_pow, under_both}
use Rattle.cents.specs.Distance.{hundredfold, InHundredths, fewest}
use Rattle.cents.proofs.Near.{parted}

-- where 2^b ≤ (x/y)^a and (x/y)^E ≤ 2^c, b/a is at most c/E
slopes : (E a b c x y : ℕ) → zero < y → Under b 0 (y ^ a) (x ^ a) → Under 0 c (x ^ E) (y ^ E) → b * E ≤ c * a
slopes E a b c x y p h k =
    let z : Under (0 * a) (c * a) ((x ^ a) ^ E) ((y ^ a) ^ E) = rw (pow_swap x a E, pow_swap y a E) (under_pow a k) in
    under_both (one-le-pow E (y ^ a) (one-le-pow a y p)) (under_less (omega arith) (under_pow E h)) (under_less (omega arith) z)

-- a number u/v = x/y that stands once, and whose logarithm of base 2 is at least b/a: more than h hundredths above d
beyond : (h a b d x y : ℕ) {u v : ℕ} → zero < y → zero < u → v * x ≡ y * u → Under b 0 (y ^ a) (x ^ a) → (100 * d + h) * a < b * hundredfold
    → InHundredths h 1 1 u v (pos d) → ⊥
beyond h a b d x y {u} {v} p q same least far s =
    let most : Under 0 (100 * d + h) (u ^ hundredfold) (v ^ hundredfold) = under_less (omega arith) (parted (pos d) s).1 in
    let l = slopes hundredfold a b (100 * d + h) x y p least (under_ratio_pow hundredfold u v x y q same most) in
    omega arith

-- 2^(56150/40401) ≤ 1153/440
least_1153 : Under 56150 0 (440 ^ 40401) (1153 ^ 40401)
least_1153 = record { le = leb-true (2 ^ 56150 * 440 ^ 40401) (2 ^ 0 * 1153 ^ 40401) refl }

-- in ten-thousandths, as the comparison has it
pub too_far : (h : ℕ) → h < fewest → InHundredths h 1 1 11530000 4400000 (pos 1667780) → ⊥
too_far h few = beyond h 40401 56150 1667780 1153 440 (omega arith) (omega arith) refl least_1153 (omega arith)
