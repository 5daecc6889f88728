-- Key steps that are not negative are a natural number, and the keys that they lead to. Assumes nothing.
use mathlib.Core.Path.{◌≡◌, ◌∙◌}
use mathlib.Core.Bool.{true}
use Prim.Native.Nat.{ℕ, ◌+◌, ◌≤◌, ◌<◌}
use native.Mathlib.Omega.{arith}
use borrow.Author.Tests.{le-leb}
use lib.IntN.{ℤ, pos, nat_abs}
use lib.Signed.{le_z}
use mir.Syntax.{w32}
use mir.Val.{to_z}
use mir.ValLaws.{to_z_pos}
use Rattle.cents.specs.Passages.{key_shift, key_distance}
use Rattle.integers.proofs.Signed.{signed, abs, minus, sum}

pub natural : (n : ℕ) → le_z (pos 0) (pos n) ≡ true
natural n = le-leb 0 n (omega arith)

module _ (z : ℤ) (least : le_z (pos 0) z ≡ true) where
  pub whole : z ≡ pos (nat_abs z)
  whole = omega (signed, abs z)

-- the key i keys above another
pub key_above : (a i : ℕ) → i ≤ 255 → key_shift a (to_z w32 i) ≡ pos (a + i)
key_above a i h = rw (to_z_pos w32 i (omega arith))

pub key_fits : (a i : ℕ) → i ≤ 255 → a + i ≤ 255 → (le_z (pos 0) (key_shift a (to_z w32 i)) ≡ true) × (nat_abs (key_shift a (to_z w32 i)) ≤ 255)
key_fits a i h k = rw (key_above a i h) (natural (a + i), k)

pub shifted_key : {r : ℕ} (a i : ℕ) → i ≤ 255 → pos r ≡ key_shift a (to_z w32 i) → r ≡ a + i
shifted_key a i h e = omega (signed, e ∙ key_above a i h)

-- ---- a key as so many keys above the first

pub from_first : (a : ℕ) → key_distance a 0 ≡ pos a
from_first a = omega (signed, minus a 0)

pub above_first : (z : ℤ) → key_shift 0 z ≡ z
above_first z = omega (signed, sum (pos 0) z)

-- the difference of two bytes is small
pub apart_size : (a b : ℕ) → a < 256 → b < 256 → nat_abs (key_distance a b) ≤ 255
apart_size a b h k = omega (signed, minus a b, abs (key_distance a b))
