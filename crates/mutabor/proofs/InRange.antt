-- Numbers of a program that keeps "Numbers allowed" pass the tests of valid tables. Assumes nothing.
use mathlib.Core.Path.{◌≡◌, refl}
use mathlib.Core.Bool.{Bool, true, false, cond}
use Prim.Native.Nat.{ℕ, ◌+◌, ◌-◌, ◌≤◌}
use native.Mathlib.Omega.{arith}
use borrow.Author.Tests.{leb-false, le-leb}
use lib.Dec.{leb, leb-zero}
use lib.IntN.{ℤ, pos, negsuc}
use Rattle.limits.specs.Limits.{most_amount, first_letter, last_letter}
use Rattle.tuning.specs.Desk.{is_anchor}
use Rattle.tuning.specs.declared.Operator.TheVariants.{Plus, Minus, Times, Divide}
use Rattle.tuning.specs.declared.Amount.{Amount}
use Rattle.tuning.specs.declared.Amount.TheVariants.{Kept, Absolute, Relative}
use Rattle.tables.specs.Layout.{farthest_sum}
use Rattle.validity.specs.Valid.{is_sum, is_anchor_amount, is_width_amount, is_capital, is_part}
use Rattle.program.specs.Allowed.{AnchorAmount, WidthAmount, Letter}
use Rattle.tuning.specs.Capped.{capped}

-- a sum as the tables hold it
pub sum_right : (z : ℤ) → is_sum (capped z) ≡ true
sum_right (pos n) = go (leb farthest_sum n) refl
  where
    go : (b : Bool) → leb farthest_sum n ≡ b → is_sum (cond b (pos farthest_sum) (pos n)) ≡ true
    go true e = refl
    go false e = rw (le-leb n farthest_sum (omega (arith, leb-false farthest_sum n e)))
sum_right (negsuc n) = go (leb (farthest_sum - 1) n) refl
  where
    go : (b : Bool) → leb (farthest_sum - 1) n ≡ b → is_sum (cond b (negsuc (farthest_sum - 1)) (negsuc n)) ≡ true
    go true e = refl
    go false e = rw (le-leb n (farthest_sum - 1) (omega (arith, leb-false (farthest_sum - 1) n e)))

pub key_right : (a : ℕ) → a ≤ 127 → is_anchor (pos a) ≡ true
key_right a h = rw (leb-zero a, le-leb a 127 h)

pub anchor_right : (m : Amount) → AnchorAmount m → is_anchor_amount m ≡ true
anchor_right Kept h = refl
anchor_right (Absolute n) h = le-leb n most_amount h
anchor_right (Relative Plus n) h = le-leb n most_amount h
anchor_right (Relative Minus n) h = le-leb n most_amount h
anchor_right (Relative Times n) h = absurd h
anchor_right (Relative Divide n) h = absurd h

pub width_right : (m : Amount) → WidthAmount m → is_width_amount m ≡ true
width_right Kept h = refl
width_right (Absolute n) h = le-leb n most_amount h
width_right (Relative Plus n) h = le-leb n most_amount h
width_right (Relative Minus n) h = le-leb n most_amount h
width_right (Relative Times n) h = le-leb n most_amount h
width_right (Relative Divide n) h = le-leb n most_amount h

pub letter_right : (c : ℕ) → Letter c → is_capital c ≡ true
letter_right c h = rw (le-leb first_letter c h.least, le-leb c last_letter h.most)

pub part_right : (least most from n : ℕ) → least ≤ n → n ≤ most → is_part least most from (from + n) ≡ true
part_right least most from n h k = rw (le-leb (from + least) (from + n) (omega arith), le-leb (from + n) (from + most) (omega arith))
