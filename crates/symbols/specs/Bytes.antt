-- The bytes of a text, named by the characters that they are.
use Rattle.std.specs.Prelude.{ℕ, ◌+◌, ◌-◌, List, [], ◌∷◌, Bool, true, false, cond, ◌&&◌, ◌||◌, eqb}
use Prim.Native.Char.{Char}
use Rattle.ascii.specs.Ascii.{byte, between}

-- from one character to another
abbrev pub among : Char → Char → ℕ → Bool
among low high b = between (byte low) (byte high) b

abbrev pub quote : ℕ
quote = byte "\""

abbrev pub point : ℕ
point = byte "."

abbrev pub hash : ℕ
hash = byte "#"

-- "Blanks, tabs, vertical tabs, line and page feeds, carriage returns (house)"
unfoldable pub is_blank : ℕ → Bool
is_blank b =
    eqb b (byte " ")
    || eqb b (byte "\t")
    || eqb b (byte "\u{b}")
    || eqb b (byte "\n")
    || eqb b (byte "\u{c}")
    || eqb b (byte "\r")

-- "decimal digits"
unfoldable pub is_digit : ℕ → Bool
is_digit b = among "0" "9" b

-- "hexadecimal digit"
unfoldable pub is_hex_digit : ℕ → Bool
is_hex_digit b = is_digit b || among "a" "f" b || among "A" "F" b

unfoldable pub is_capital : ℕ → Bool
is_capital b = among "A" "Z" b

-- "`_` and `'` are letters"
unfoldable pub is_letter : ℕ → Bool
is_letter b = among "a" "z" b || is_capital b || eqb b (byte "_") || eqb b (byte "'")

-- "A name is letters and digits"
unfoldable pub in_name : ℕ → Bool
in_name b = is_letter b || is_digit b

-- "capitals count as small"
unfoldable pub small : ℕ → ℕ
small b = cond (is_capital b) (b + (byte "a" - byte "A")) b

-- the bytes at the front that are of one kind
unfoldable pub take_while : (ℕ → Bool) → List ℕ → List ℕ
take_while p [] = []
take_while p (b ∷ rest) = elim (p b) [ true ↦ b ∷ take_while p rest | false ↦ [] ]

-- two lists of bytes are the same (`same_eq` of proofs/Letters.antt: just where they are equal)
unfoldable pub same : List ℕ → List ℕ → Bool
same [] [] = true
same [] (y ∷ ys) = false
same (x ∷ xs) [] = false
same (x ∷ xs) (y ∷ ys) = eqb x y && same xs ys
