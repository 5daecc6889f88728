-- Laws of capped sums: the three cases. Assumes nothing.
use mathlib.Core.Path.{◌≡◌, refl}
use mathlib.Core.Bool.{Bool, true, false, cond}
use Prim.Native.Nat.{◌≤◌}
use lib.IntN.{ℤ, pos, negsuc, nat_abs}
use lib.Signed.{le_z}
use native.Mathlib.Omega.{arith}
use Rattle.integers.proofs.Signed.{signed, abs}
use Rattle.tuning.specs.Capped.{capped}

module _ (z : ℤ) where
  pub capped_low : le_z z (negsuc 200_000_000) ≡ true → negsuc 200_000_000 ≡ capped z
  capped_low e = rw e

  pub capped_high : le_z z (negsuc 200_000_000) ≡ false → le_z (pos 200_000_001) z ≡ true → pos 200_000_001 ≡ capped z
  capped_high e f = rw (e, f)

  pub capped_plain : le_z z (negsuc 200_000_000) ≡ false → le_z (pos 200_000_001) z ≡ false → z ≡ capped z
  capped_plain e f = rw (e, f)

  -- what is between the caps
  pub between_caps : le_z z (negsuc 200_000_000) ≡ false → le_z (pos 200_000_001) z ≡ false → nat_abs z ≤ 200_000_000
  between_caps e f = omega (signed, abs z)

pub capped_small : (z : ℤ) → nat_abs (capped z) ≤ 200_000_001
capped_small z = go (le_z z (negsuc 200_000_000)) (le_z (pos 200_000_001) z) refl refl
  where
    go : (a b : Bool) → le_z z (negsuc 200_000_000) ≡ a → le_z (pos 200_000_001) z ≡ b → nat_abs (cond a (negsuc 200_000_000) (cond b (pos 200_000_001) z)) ≤ 200_000_001
    go true b e f = omega arith
    go false true e f = omega arith
    go false false e f = omega (arith, between_caps z e f)
