-- Document 02, 10/13, from its other side: 51 hundredths of a thousandth suffice for each power, and with fewer the claim would be false. A text with a tone of
-- 1153 hertz shows it. The lines are those of the second program (reference/).
use Rattle.std.specs.Prelude.{◌≡◌, List, [], ◌∷◌, map, ℕ, ◌<◌}
use Rattle.ascii.specs.Ascii.{bytes}
use Rattle.cents.specs.Distance.{InHundredths, fewest}
use Rattle.tuning.specs.Tuning.{sound_of}
use Rattle.program.specs.FarTone.{text, program}
use Rattle.program.specs.Text.{accepted, read_text}
use Rattle.filling.specs.Tables.{tables_of}
use Rattle.protocol.specs.Answers.{start_desk}
use Rattle.protocol.specs.Streams.{Lent, lines_of}
use Rattle.exact.specs.Entry.{Entry, AtMultiples}
use Rattle.exact.specs.Book.{entries}
use Rattle.exact.specs.Claim.{book_after, StreamNear}
use Rattle.exact.specs.CaseS.{lent, entry_in}

-- M: One. Key 69
abbrev pub frames : List Lent
frames = map lent ("01014D" ∷ "010245" ∷ [])

abbrev pub lines : List (List ℕ)
lines = bytes "01014D00450100124F80\n" ∷ bytes "010245000082BBE4\n" ∷ []

pub record Whole : Type 0 where
  pub read : read_text text ≡ accepted program
  pub answered : lines_of (tables_of program) start_desk frames ≡ lines

-- what key 69 then has in the book
unfoldable pub entry69 : Entry
entry69 = entry_in program (sound_of entries (book_after program frames) 69)

-- no fewer hundredths suffice: with them the desk and the book do not agree after these frames
unfoldable pub NoFewer : Type 0
NoFewer = (h : ℕ) → h < fewest → StreamNear (AtMultiples (InHundredths h)) program frames → ⊥
