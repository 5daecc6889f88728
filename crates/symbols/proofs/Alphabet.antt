-- Where the bytes of a kind lie.
-- Assumes nothing.
use Prim.Native.Char.{Char}
use Prim.Native.Nat.{ℕ, ◌+◌, ◌<◌, ◌≤◌}
use mathlib.Core.Path.{◌≡◌, refl}
use mathlib.Core.Bool.{Bool, true, false, ◌||◌, and-eq-true_iff}
use native.Mathlib.Omega.{arith}
use borrow.Author.Tests.{leb-true, lt-leb, le-leb}
use lib.Dec.{leb}
use Rattle.ascii.specs.Ascii.{byte}
use Rattle.symbols.specs.Bytes.{among, is_digit, is_hex_digit, is_capital, small}

between_bounds : (low high : Char) (b : ℕ) → among low high b ≡ true → (byte low ≤ b) × (b ≤ byte high)
between_bounds low high b e =
    let h = (and-eq-true_iff (leb (byte low) b) (leb b (byte high))).0 e in
    (leb-true _ _ h.0, leb-true _ _ h.1)

pub capital_bounds : (b : ℕ) → is_capital b ≡ true → (byte "A" ≤ b) × (b ≤ byte "Z")
unfolding is_capital
capital_bounds b = between_bounds "A" "Z" b

pub digit_bounds : (b : ℕ) → is_digit b ≡ true → (byte "0" ≤ b) × (b ≤ byte "9")
unfolding is_digit
digit_bounds b = between_bounds "0" "9" b

small_letter : (b : ℕ) → byte "Z" < b → small b ≡ b
unfolding small is_capital
small_letter b h = rw (le-leb (byte "A") b (omega arith), lt-leb b (byte "Z") h)

small_capital : (b : ℕ) → byte "A" ≤ b → b ≤ byte "Z" → small b ≡ b + 32
unfolding small is_capital
small_capital b h k = rw (le-leb (byte "A") b h, le-leb b (byte "Z") k)

pub hex_bounds : (b : ℕ) → is_digit b ≡ false → is_hex_digit b ≡ true → (byte "a" ≤ small b) × (small b ≤ byte "f")
unfolding is_hex_digit
hex_bounds b d x = go (among "a" "f" b) refl (rw d at x)
  where
    go : (t : Bool) → among "a" "f" b ≡ t → (t || among "A" "F" b) ≡ true → (byte "a" ≤ small b) × (small b ≤ byte "f")
    go true e y =
        let k = between_bounds "a" "f" b e in
        let s = small_letter b (omega arith) in
        (omega arith, omega arith)
    go false e y =
        let k = between_bounds "A" "F" b y in
        let s = small_capital b (omega arith) (omega arith) in
        (omega arith, omega arith)
