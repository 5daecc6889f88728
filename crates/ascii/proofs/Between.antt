-- A byte that lies in a range.
use Prim.Native.Nat.{ℕ, ◌≤◌}
use mathlib.Core.Path.{◌≡◌, refl}
use mathlib.Core.Bool.{Bool, true, false, ◌&&◌, false≢true}
use borrow.Author.Tests.{leb-true}
use lib.Dec.{leb}
use Rattle.ascii.specs.Ascii.{between}

-- two tests that both hold
pub each : (s t : Bool) → (s && t) ≡ true → (s ≡ true) × (t ≡ true)
each true t e = (refl, e)
each false t e = absurd (false≢true e)

pub in_range_holds : (low high b : ℕ) → between low high b ≡ true → (low ≤ b) × (b ≤ high)
in_range_holds low high b e =
    let k = each (leb low b) (leb b high) e in
    (leb-true low b k.0, leb-true b high k.1)
