-- Document 01, section "Frames": "capital hexadecimal digits", two for each byte, written and read.
use Rattle.std.specs.Prelude.{ℕ, ◌+◌, ◌-◌, ◌*◌, ◌/◌, ◌%◌, cond, List, [], ◌∷◌, ltb, Option, None, Some}
use Rattle.ascii.specs.Ascii.{byte, between}

abbrev pub radix : ℕ
radix = 16

-- ---- written

-- a capital hexadecimal digit
unfoldable pub hex_of : ℕ → ℕ
hex_of n = cond (ltb n 10) (byte "0" + n) (byte "A" + (n - 10))

-- each byte as two digits, the high one first
unfoldable pub hexes : List ℕ → List ℕ
hexes [] = []
hexes (b ∷ bs) = hex_of (b / radix) ∷ hex_of (b % radix) ∷ hexes bs

-- ---- read

-- the number that a digit writes; a byte that is no capital hexadecimal digit writes none
unfoldable pub digit_of : ℕ → Option ℕ
digit_of b =
    cond (between (byte "0") (byte "9") b) (Some (b - byte "0"))
    (cond (between (byte "A") (byte "F") b) (Some (b - byte "A" + 10))
    None)

-- what two things make, where both are there
abbrev pub of_both : {A B C : Type 0} → (A → B → C) → Option A → Option B → Option C
of_both f (Some a) (Some b) = Some (f a b)
of_both f (Some a) None = None
of_both f None b = None

-- the byte that two digits write, the high one first
unfoldable pub byte_of : ℕ → ℕ → Option ℕ
byte_of high low = of_both (λ h l. radix * h + l) (digit_of high) (digit_of low)

-- the bytes that a line of any length writes, two digits each; a line of an odd number of digits, or with a byte that is no digit, writes none
unfoldable pub bytes_of : List ℕ → Option (List ℕ)
bytes_of [] = Some []
bytes_of (high ∷ []) = None
bytes_of (high ∷ low ∷ line) = of_both (λ b bs. b ∷ bs) (byte_of high low) (bytes_of line)
