-- A worked stream of document 02, 5/13: keys that go down and up in both houses, a harmony that starts a logic, a key that is held already, and one that is
-- not held. The lines are those of the second program (reference/).
use Rattle.std.specs.Prelude.{◌≡◌, List, [], ◌∷◌, map, ℕ}
use Rattle.ascii.specs.Ascii.{bytes}
use Rattle.tuning.specs.Tuning.{width}
use Rattle.program.specs.Chords.{text, program}
use Rattle.protocol.specs.Steps.{Made}
use Rattle.protocol.specs.Streams.{Lent}
use Rattle.exact.specs.Book.{entries}
use Rattle.exact.specs.CaseS.{lent}
use Rattle.exact.specs.TwoLogics.{call, Worked}
use Rattle.exact.specs.Claim.{book_after}

-- { 0, 4, *7 } at anchor 60 and width 12. Key 60 goes down, in the other house too: nothing matches. Key 64: the harmony, and so Up, to the anchor 67. Key 64
-- again: held already. Key 64 up in the other house: not held there. Key 64 up: key 60 is at position 5 now, and nothing matches
abbrev pub frames : List Lent
frames = map lent ("01053C" ∷ "02053C" ∷ "010540" ∷ "010540" ∷ "020640" ∷ "010640" ∷ [])

abbrev pub lines : List (List ℕ)
lines =
    map bytes
    ("01053C003C0C00124F80\n"
    ∷ "02053C003C0C00124F80\n"
    ∷ "01054000430C00124F80\n"
    ∷ "01054011430C00124F80\n"
    ∷ "02064012430C00124F80\n"
    ∷ "01064000430C00124F80\n"
    ∷ [])

-- the one call
abbrev pub calls : List Made
calls = call 1 0 ∷ []

-- what is answered, what is called, and what the book then has
pub record Whole : Type 0 where
  pub worked : Worked text program frames lines calls
  pub anchor : (book_after program frames).anchor ≡ 67
  pub width : width entries (book_after program frames) ≡ 12
