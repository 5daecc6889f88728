-- What the contract of a private function cites: no part of the rules.
use Rattle.std.specs.Prelude.{ℕ, ◌+◌, ◌-◌, ◌*◌, ◌%◌, List, [], ◌∷◌, length, get_or}

-- where the only word stands among `words` that a spelled name can be: by its first letter, its last and its length
unfoldable pub rows : List ℕ
rows =
    7 ∷ 25 ∷ 25 ∷ 5 ∷ 4 ∷ 25 ∷ 25 ∷ 25 ∷ 25 ∷ 24 ∷ 21 ∷ 23 ∷ 25 ∷ 10 ∷ 18 ∷ 25
    ∷ 25 ∷ 25 ∷ 20 ∷ 25 ∷ 25 ∷ 25 ∷ 13 ∷ 22 ∷ 25 ∷ 25 ∷ 25 ∷ 25 ∷ 25 ∷ 25 ∷ 25 ∷ 25
    ∷ 25 ∷ 25 ∷ 25 ∷ 17 ∷ 25 ∷ 25 ∷ 6 ∷ 16 ∷ 0 ∷ 1 ∷ 25 ∷ 8 ∷ 25 ∷ 15 ∷ 2 ∷ 11
    ∷ 25 ∷ 25 ∷ 25 ∷ 25 ∷ 25 ∷ 25 ∷ 14 ∷ 25 ∷ 25 ∷ 19 ∷ 25 ∷ 9 ∷ 12 ∷ 25 ∷ 25 ∷ 3
    ∷ []

unfoldable pub row_of : List ℕ → ℕ
row_of name = get_or rows ((8 * get_or name 0 0 + 2 * get_or name (length name - 1) 0 + length name % 64) % 64) 0
