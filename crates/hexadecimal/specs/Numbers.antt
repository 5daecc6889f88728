-- Document 01, section "Frames": "Pitch and period are four bytes, high first, two's complement".
use Rattle.std.specs.Prelude.{ℕ, suc, ◌+◌, ◌-◌, ◌*◌, ◌/◌, ◌%◌, ◌^◌, cond, List, [], ◌∷◌, ltb, ℤ, pos, negsuc}

-- "two's complement", of 32 bits; negsuc n is -(n + 1)
unfoldable pub twos : ℤ → ℕ
twos (pos n) = n
twos (negsuc n) = 2 ^ 32 - suc n

-- "four bytes, high first"
unfoldable pub four_of : ℕ → List ℕ
four_of n = n / 256 ^ 3 % 256 ∷ n / 256 ^ 2 % 256 ∷ n / 256 % 256 ∷ n % 256 ∷ []

-- ---- read back (`four_back` and `twos_back` of proofs/RoundTrip.antt)

-- the number of bytes, high first
unfoldable pub number_of : ℕ → List ℕ → ℕ
number_of n [] = n
number_of n (b ∷ bs) = number_of (256 * n + b) bs

-- the signed number of a two's complement
unfoldable pub signed_of : ℕ → ℤ
signed_of n = cond (ltb n (2 ^ 31)) (pos n) (negsuc (2 ^ 32 - suc n))
