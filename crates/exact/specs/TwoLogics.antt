-- A second worked stream: both houses, two logics, a letter that calls one thing under the one and another under the other, an order that calls a logic, and
-- a call that is refused. The lines are those of the second program (reference/).
use Rattle.std.specs.Prelude.{◌≡◌, List, [], ◌∷◌, map, ℕ}
use Rattle.ascii.specs.Ascii.{bytes}
use Rattle.tuning.specs.Tuning.{width}
use Rattle.program.specs.Program.{Program}
use Rattle.program.specs.TwoLogics.{text, program}
use Rattle.program.specs.Text.{accepted, read_text}
use Rattle.filling.specs.Tables.{tables_of}
use Rattle.protocol.specs.Steps.{Made}
use Rattle.protocol.specs.Answers.{start_desk}
use Rattle.protocol.specs.Streams.{Lent, made_in, lines_of}
use Rattle.exact.specs.Book.{entries}
use Rattle.exact.specs.CaseS.{lent}
use Rattle.exact.specs.Claim.{book_after}

-- M: Two. U, from the other house: Up. W: Wide, refused. Key 70. N: One. U again: Down. V: L, and so Two. D: Down. W: refused again. Key 69. All tones
abbrev pub frames : List Lent
frames =
    map lent
    ("01014D" ∷ "020155" ∷ "010157" ∷ "020246" ∷ "01014E" ∷ "020155" ∷ "010156" ∷ "020144" ∷ "010157" ∷ "010245" ∷ "020300" ∷ [])

abbrev pub lines : List (List ℕ)
lines =
    map bytes
    ("01014D00450200124F80\n"
    ∷ "02015500460200124F80\n"
    ∷ "0101570B460200124F80\n"
    ∷ "020246000073FF23\n"
    ∷ "01014E003C01000AB603\n"
    ∷ "020155003B01000AB603\n"
    ∷ "01015600450200124F80\n"
    ∷ "02014400440200124F80\n"
    ∷ "0101570B440200124F80\n"
    ∷ "01024500006C65A6\n"
    ∷ "02030000440200124F800061AFA3006C65A6\n"
    ∷ [])

-- the calls, each with its declaration and its number
abbrev pub call : ℕ → ℕ → Made
call k n = record { called = k; number = n }

abbrev pub calls : List Made
calls = call 4 0 ∷ call 6 0 ∷ call 8 11 ∷ call 5 0 ∷ call 7 0 ∷ call 4 0 ∷ call 7 0 ∷ call 8 11 ∷ []

-- a text, the program that it is read as, frames, the line that answers each, and the calls that they make
pub record Worked (text : List ℕ) (program : Program) (frames : List Lent) (lines : List (List ℕ)) (calls : List Made) : Type 0 where
  pub read : read_text text ≡ accepted program
  pub answered : lines_of (tables_of program) start_desk frames ≡ lines
  pub made : made_in (tables_of program) start_desk frames ≡ calls

-- and what the book then has: it took the calls with number 0 and no others
pub record Whole : Type 0 where
  pub worked : Worked text program frames lines calls
  pub anchor : (book_after program frames).anchor ≡ 68
  pub width : width entries (book_after program frames) ≡ 2
