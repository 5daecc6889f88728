-- Case S of document 01 as a stream: its text and its frames.
use Rattle.std.specs.Prelude.{◌≡◌, List, [], ◌∷◌, map, ℕ, ◌*◌, ◌^◌, ◌≤◌}
use Prim.Native.String.{String}
use Rattle.ascii.specs.Ascii.{bytes}
use Rattle.tuning.specs.Scale.{Sound, muted, sounds}
use Rattle.tuning.specs.Tuning.{sound_of}
use Rattle.frames.specs.Cases.{case_lines}
use Rattle.answers.specs.Answer.{smallest_buffer}
use Rattle.program.specs.Program.{Program}
use Rattle.program.specs.CaseS.{text, program}
use Rattle.program.specs.Text.{accepted, read_text}
use Rattle.filling.specs.Tables.{tables_of}
use Rattle.protocol.specs.Answers.{start_desk}
use Rattle.protocol.specs.Streams.{Lent, lines_of}
use Rattle.exact.specs.Entry.{Entry}
use Rattle.exact.specs.Book.{Powers, entries, numbers_of, written}
use Rattle.exact.specs.Actions.{declared_in}
use Rattle.exact.specs.Claim.{book_after}

-- the column "In", each line with the smallest buffer that serves for its answer
abbrev pub lent : String → Lent
lent line = record { frame = bytes line; room = smallest_buffer }

abbrev pub frames : List Lent
frames = map lent case_lines

-- the column "Out", each line with its line feed
abbrev pub lines : List (List ℕ)
lines =
    bytes "01014D00450200124F80\n" ∷ bytes "0102450000694920\n" ∷ bytes "01015500460200124F80\n" ∷ bytes "02015500470200124F80\n"
    ∷ bytes "02024700007EB526\n" ∷ bytes "01015815470200124F80\n" ∷ bytes "FF16\n" ∷ []

-- "Case S, whole": the text is read as the program, and each frame is answered by its line
pub record Whole : Type 0 where
  pub read : read_text text ≡ accepted program
  pub answered : lines_of (tables_of program) start_desk frames ≡ lines

-- the entry of a sound under a program, of which a muted one has none
abbrev pub entry_in : Program → Sound Powers → Entry
entry_in p muted = []
entry_in p (sounds e) = written (numbers_of (declared_in p)) e

-- what key 71 then has in the book
unfoldable pub entry71 : Entry
entry71 = entry_in program (sound_of entries (book_after program frames) 71)

-- a power of p/q, between two powers of 2
pub record Between (least most p q power : ℕ) : Type 0 where
  pub low : 2 ^ least * q ^ power ≤ p ^ power
  pub high : p ^ power ≤ 2 ^ most * q ^ power

-- of that key d is 1,403,910 and w is 3: 2^1403907 ≤ (9/4)^1200000 ≤ 2^1403913
abbrev pub Within71 : Type 0
Within71 = Between 1403907 1403913 9 4 1200000

-- document 02, 10/13: 2^140390847 ≤ (9/4)^120000000 ≤ 2^140391153
abbrev pub Sharper71 : Type 0
Sharper71 = Between 140390847 140391153 9 4 120000000
