-- Two's complement of 32 bits.
use Prim.Native.Nat.{◌^◌, ◌<◌}
use mathlib.Core.Path.{◌≡◌, refl}
use native.Mathlib.Omega.{arith}
use lib.IntN.{ℤ, pos, negsuc}
use mir.Syntax.{w32}
use mir.Val.{SFits, of_z}
use Rattle.integers.proofs.Signed.{signed, abs}
use Rattle.hexadecimal.specs.Numbers.{twos}

-- what the library's conversion gives
pub twos_is : (z : ℤ) → of_z w32 z ≡ twos z
unfolding twos
twos_is (pos n) = refl
twos_is (negsuc n) = refl

-- it has 32 bits
pub twos_small : (z : ℤ) → SFits w32 z → twos z < 2 ^ 32
unfolding twos
twos_small (pos n) h = omega (signed, abs (pos n))
twos_small (negsuc n) h = omega arith
