-- What is written is read back: digits, numbers of four bytes, two's complements.
-- Assumes nothing.
use Prim.Native.Nat.{ℕ, suc, ◌+◌, ◌-◌, ◌*◌, ◌/◌, ◌%◌, ◌^◌, ◌<◌}
use mathlib.Core.Path.{◌≡◌, refl, ap}
use mathlib.Core.Bool.{Bool, true, false, cond}
use mathlib.Core.List.{List, [], ◌∷◌}
use Rattle.std.specs.Prelude.{Some}
use native.Mathlib.Nat.{zero-add, div-add-mod, div-div-eq-div-mul, mod-eq_of_lt}
use native.Mathlib.Omega.{arith}
use borrow.Author.Tests.{ltb-true, ltb-false, lt-ltb, le-ltb, le-leb, lt-leb}
use lib.Dec.{ltb}
use lib.IntN.{ℤ, pos, negsuc}
use mir.Syntax.{w32}
use mir.Val.{SFits}
use Rattle.integers.proofs.Signed.{signed, abs}
use Rattle.ascii.specs.Ascii.{byte}
use Rattle.hexadecimal.specs.Digits.{radix, hex_of, hexes, digit_of, byte_of, bytes_of}
use Rattle.hexadecimal.specs.Numbers.{twos, four_of, number_of, signed_of}

-- ---- digits

digit_back : (n : ℕ) → n < radix → digit_of (hex_of n) ≡ Some n
unfolding digit_of hex_of
digit_back n h = go (ltb n 10) refl
  where
    go : (b : Bool) → ltb n 10 ≡ b → digit_of (cond b (byte "0" + n) (byte "A" + (n - 10))) ≡ Some n
    go true e =
        let l = ltb-true n 10 e in
        rw (le-leb (byte "0") (byte "0" + n) (omega arith), le-leb (byte "0" + n) (byte "9") (omega arith)) (ap Some (omega arith))
    go false e =
        let l = ltb-false n 10 e in
        let d = byte "A" + (n - 10) in
        rw (le-leb (byte "0") d (omega arith), lt-leb d (byte "9") (omega arith), le-leb (byte "A") d (omega arith), le-leb d (byte "F") (omega arith))
        (ap Some (omega arith))

byte_back : (b : ℕ) → b < 256 → byte_of (hex_of (b / radix)) (hex_of (b % radix)) ≡ Some b
unfolding byte_of
byte_back b h = rw (digit_back (b / radix) (omega arith), digit_back (b % radix) (omega arith)) (ap Some (omega arith))

abbrev pub Bytes : List ℕ → Type 0
Bytes [] = Unit
Bytes (b ∷ bs) = (b < 256) × Bytes bs

pub bytes_back : (bs : List ℕ) → Bytes bs → bytes_of (hexes bs) ≡ Some bs
unfolding bytes_of hexes
bytes_back [] h = refl
bytes_back (b ∷ bs) h = rw (byte_back b h.0, bytes_back bs h.1)

-- ---- numbers

pub four_back : (n : ℕ) → n < 2 ^ 32 → number_of 0 (four_of n) ≡ n
unfolding number_of four_of
four_back n h =
    let top : n / 256 ^ 3 % 256 ≡ n / 256 ^ 3 = mod-eq_of_lt (omega arith) in
    let high : 256 * (n / 256 ^ 3) + n / 256 ^ 2 % 256 ≡ n / 256 ^ 2 = rw (← div-div-eq-div-mul n (256 ^ 2) 256) (div-add-mod (n / 256 ^ 2) 256) in
    let low : 256 * (n / 256 ^ 2) + n / 256 % 256 ≡ n / 256 = rw (← div-div-eq-div-mul n 256 256) (div-add-mod (n / 256) 256) in
    rw (zero-add, top, high, low) (div-add-mod n 256)

pub four_bytes : (n : ℕ) → Bytes (four_of n)
unfolding four_of
four_bytes n = (omega arith, (omega arith, (omega arith, (omega arith, tt))))

pub twos_back : (z : ℤ) → SFits w32 z → signed_of (twos z) ≡ z
unfolding twos signed_of
twos_back (pos n) h = rw (lt-ltb n (2 ^ 31) (omega (signed, abs (pos n))))
twos_back (negsuc n) h =
    let l : suc n - 1 < 2 ^ 31 = omega arith in
    rw (le-ltb (2 ^ 32 - suc n) (2 ^ 31) (omega arith)) (ap negsuc (omega arith))
