-- The same stream as a list of frames, each with the buffer that is lent for its answer: the form in which the claims about streams take it.
use Rattle.std.specs.Prelude.{◌≡◌, true, false, List, [], ◌∷◌, ◌++◌, map, ℕ, eqb}
use Rattle.hexadecimal.specs.Lines.{line_feed}
use Rattle.answers.specs.Answer.{smallest_buffer}
use Rattle.tables.specs.Layout.{Tables}
use Rattle.protocol.specs.declared.Desk.{Desk}
use Rattle.protocol.specs.Streams.{Lent, desk_after, lines_of}
use Rattle.stream.specs.Feed.{feed, streamed}

-- "a last line without one counts, unless it is empty"
abbrev pub last_line : List ℕ → List (List ℕ)
last_line [] = []
last_line (b ∷ bs) = (b ∷ bs) ∷ []

-- the lines of a stream, where `line` are the bytes that the first one has already
unfoldable pub lines_from : List ℕ → List ℕ → List (List ℕ)
lines_from line [] = last_line line
lines_from line (b ∷ bs) = elim (eqb b line_feed) [ true ↦ line ∷ lines_from [] bs | false ↦ lines_from (line ++ b ∷ []) bs ]

abbrev pub lent_for : List ℕ → Lent
lent_for line = record { frame = line; room = smallest_buffer }

abbrev pub frames_from : List ℕ → List ℕ → List Lent
frames_from line bs = map lent_for (lines_from line bs)

-- lines one behind the other
unfoldable pub joined : List (List ℕ) → List ℕ
joined [] = []
joined (l ∷ ls) = l ++ joined ls

-- a stream of bytes leaves the desk that the stream of its frames leaves, and writes the lines of their answers one behind the other
unfoldable pub StreamOfFrames : Type 0
StreamOfFrames =
    (t : Tables) (d : Desk) (bs : List ℕ)
    → let fs = frames_from [] bs in streamed t (feed d [] []) bs ≡ feed (desk_after t d fs) [] (joined (lines_of t d fs))
