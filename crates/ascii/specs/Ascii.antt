-- Bytes named by the characters that they are.
use Rattle.std.specs.Prelude.{ℕ, Bool, ◌&&◌, List, [], ◌∷◌, leb}
use Prim.Native.Char.{Char, code}
use Prim.Native.String.{String, [] as []ˢ, ◌∷◌ as ◌∷ˢ◌}

-- the byte that a character is
abbrev pub byte : Char → ℕ
byte c = code c

abbrev pub bytes : String → List ℕ
bytes []ˢ = []
bytes (c ∷ˢ s) = byte c ∷ bytes s

-- low to high, both included
abbrev pub between : ℕ → ℕ → ℕ → Bool
between low high b = leb low b && leb b high
