-- A stream of bytes, and the answers to it. Document 01, "Frames": "One frame a line, .. line feed, which the desk is not handed; a last line
-- without one counts, unless it is empty."
use Rattle.std.specs.Prelude.{◌≡◌, cond, List, [], ◌∷◌, ◌++◌, ℕ, eqb}
use Rattle.hexadecimal.specs.Lines.{line_feed}
use Rattle.answers.specs.Answer.{smallest_buffer}
use Rattle.tables.specs.Layout.{Tables}
use Rattle.protocol.specs.declared.Desk.{Desk}
use Rattle.protocol.specs.Answers.{answer_of}

-- how far a stream has come: the desk, the bytes of a line that has not ended, and what was answered
pub record Fed : Type 0 where
  pub desk : Desk
  pub line : List ℕ
  pub out : List ℕ

abbrev pub feed : Desk → List ℕ → List ℕ → Fed
feed d line out = record { desk = d; line = line; out = out }

-- "One frame a line": a line that has ended is answered, from the desk that the line before it left; then the next line begins
abbrev pub line_ended : Tables → Fed → Fed
line_ended t f = let o = answer_of t f.desk f.line smallest_buffer in feed o.desk [] (f.out ++ o.line)

-- a byte: "line feed, which the desk is not handed", ends a line; any other byte belongs to it
unfoldable pub fed_byte : Tables → Fed → ℕ → Fed
fed_byte t f b = cond (eqb b line_feed) (line_ended t f) (feed f.desk (f.line ++ b ∷ []) f.out)

unfoldable pub fed : Tables → Fed → List ℕ → Fed
fed t f [] = f
fed t f (b ∷ bs) = fed t (fed_byte t f b) bs

-- "a last line without one counts, unless it is empty"
unfoldable pub finished : Tables → Fed → Fed
finished t f = elim f.line [ [] ↦ f | b ∷ bs ↦ line_ended t f ]

-- all bytes that are still to come, and the end of the stream
abbrev pub streamed : Tables → Fed → List ℕ → Fed
streamed t f bs = finished t (fed t f bs)

-- from g with the bytes cs a stream comes to the same as from f with the bytes bs, whatever bytes follow
abbrev pub SameStream : Tables → Fed → List ℕ → Fed → List ℕ → Type 0
SameStream t f bs g cs = (more : List ℕ) → streamed t g (cs ++ more) ≡ streamed t f (bs ++ more)
