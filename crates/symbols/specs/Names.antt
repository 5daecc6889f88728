-- Names of the text, and letters (document 01, "Symbols of the text" and "Declarations").
use Rattle.std.specs.Prelude.{ℕ, ◌-◌, List, [], ◌∷◌, map, cond, drop, Option, None, Some}
use Rattle.ascii.specs.Ascii.{byte}
use Rattle.symbols.specs.Bytes.{among, in_name, small, take_while}

-- "capitals count as small"
unfoldable pub spelled : List ℕ → List ℕ
spelled name = map small name

-- the name that stands at a place, as it is spelled
unfoldable pub name_at : List ℕ → ℕ → List ℕ
name_at text at = spelled (take_while in_name (drop at text))

-- "A letter is a one-letter name from a to z": its capital, as frames have it
unfoldable pub letter_of : List ℕ → Option ℕ
letter_of [] = None
letter_of (b ∷ []) = cond (among "a" "z" (small b)) (Some (small b - (byte "a" - byte "A"))) None
letter_of (b ∷ c ∷ more) = None
