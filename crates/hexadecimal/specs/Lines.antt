-- Document 01, section "Frames": the line of an answer, and the lent buffer that holds it.
use Rattle.std.specs.Prelude.{ℕ, ◌*◌, List, [], ◌∷◌, ◌++◌, length, drop}
use Rattle.std.proofs.lemmas.List.Edits.{sets}
use Rattle.ascii.specs.Ascii.{byte}
use Rattle.hexadecimal.specs.Digits.{hexes}

-- a buffer in which an answer's bytes are written from its byte `at` on, so many as the buffer has room for
unfoldable pub written : List ℕ → ℕ → List ℕ → List ℕ
written buf at bs = sets buf (2 * at) (hexes bs)

abbrev pub line_feed : ℕ
line_feed = byte "\n"

-- the line of an answer
abbrev pub line_of : List ℕ → List ℕ
line_of bs = hexes bs ++ line_feed ∷ []

-- a buffer that begins with the line: "Bytes after the answer's line feed keep what they held."
abbrev pub begun_with : List ℕ → List ℕ → List ℕ
begun_with line buffer = line ++ drop (length line) buffer
