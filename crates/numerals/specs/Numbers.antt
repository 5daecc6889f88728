-- The values of numbers (document 01, "Symbols of the text" and "Numbers allowed").
use Rattle.std.specs.Prelude.{ℕ, ◌+◌, ◌-◌, ◌*◌, ◌^◌, List, [], ◌∷◌, cond, ◌&&◌, not, length, drop, ltb, leb, eqb, Option, None, Some}
use Rattle.ascii.specs.Ascii.{byte}
use Rattle.limits.specs.Limits.{least_part, most_part, most_places}
use Rattle.symbols.specs.Bytes.{hash, point, is_digit, is_hex_digit, small, take_while}

-- the value of a digit: 0 to 9, and a to f as 10 to 15 (0 of any other byte, which no number has)
unfoldable pub digit_of : ℕ → ℕ
digit_of b = cond (is_digit b) (b - byte "0") (cond (is_hex_digit b) (small b - byte "a" + 10) 0)

-- the number that digits spell in a base, read on after the number `v`
unfoldable pub numeral_after : ℕ → ℕ → List ℕ → ℕ
numeral_after base v [] = v
numeral_after base v (b ∷ rest) = numeral_after base (v * base + digit_of b) rest

unfoldable pub numeral : ℕ → List ℕ → ℕ
numeral base digits = numeral_after base 0 digits

-- the digits before the point: all, where there is none
unfoldable pub before_point : List ℕ → List ℕ
before_point number = take_while (λ b. not (eqb b point)) number

-- the digits after the point
unfoldable pub places : List ℕ → List ℕ
places number = drop (length (before_point number) + 1) number

-- a number from `low` to `high`, or "number out of range"
unfoldable pub ranged : ℕ → ℕ → ℕ → Option ℕ
ranged low high x = cond (leb low x && leb x high) (Some x) None

-- "ratio parts, radicand, frequency: 0.0001 to 429496.7295", in ten-thousandths
unfoldable pub ten_thousandths : ℕ → Option ℕ
ten_thousandths x = ranged least_part most_part x

-- "at most four places"
unfoldable pub point_of : List ℕ → List ℕ → Option ℕ
point_of whole part =
    cond (ltb most_places (length part)) None
    (ten_thousandths (numeral 10 whole * 10 ^ most_places + numeral 10 part * 10 ^ (most_places - length part)))

-- the number of these bytes as a ratio part, a radicand or a frequency
unfoldable pub decimal_of : List ℕ → Option ℕ
decimal_of [] = None
decimal_of (b ∷ rest) =
    cond (eqb b hash) (ten_thousandths (numeral 16 rest * 10 ^ most_places)) (point_of (before_point (b ∷ rest)) (places (b ∷ rest)))

-- the number of these bytes as a whole number from `low` to `high`: "a point where whole is asked" is outside
unfoldable pub whole_of : ℕ → ℕ → List ℕ → Option ℕ
whole_of low high [] = None
whole_of low high (b ∷ rest) =
    cond (eqb b hash) (ranged low high (numeral 16 rest))
    (cond (ltb (length (before_point (b ∷ rest))) (length (b ∷ rest))) None (ranged low high (numeral 10 (b ∷ rest))))
