-- Worked streams of document 02, 3/13: rows of letters. The lines are those of the second program (reference/).
use Rattle.std.specs.Prelude.{◌≡◌, List, [], ◌∷◌, map, ℕ, replicate}
use Rattle.ascii.specs.Ascii.{bytes}
use Rattle.tuning.specs.Tuning.{Tuning, width}
use Rattle.program.specs.CaseS as case_s
use Rattle.program.specs.FarStart as far_start
use Rattle.protocol.specs.Steps.{Made}
use Rattle.protocol.specs.Streams.{Lent}
use Rattle.exact.specs.Book.{entries}
use Rattle.exact.specs.CaseS.{lent}
use Rattle.exact.specs.TwoLogics.{call, Worked}
use Rattle.exact.specs.Claim.{book_after}

-- the letters of case S in one frame: M, U, U, and X, which is bound to nothing. Key 71 then stands where it stands when they are sent singly. A row of one
-- letter. Then bad rows: count 0, 33 counted, a letter too few, a letter that is none, a letter too many
abbrev pub case_s_frames : List Lent
case_s_frames =
    map lent
    ("0104044D555558"
    ∷ "020247"
    ∷ "01040155"
    ∷ "010400"
    ∷ "0104214D"
    ∷ "01040255"
    ∷ "0104025561"
    ∷ "010402555555"
    ∷ [])

abbrev pub case_s_lines : List (List ℕ)
case_s_lines =
    map bytes
    ("0104044D55555800000015470200124F80\n"
    ∷ "02024700007EB526\n"
    ∷ "0104015500480200124F80\n"
    ∷ "FF16\n"
    ∷ "FF16\n"
    ∷ "FF16\n"
    ∷ "FF16\n"
    ∷ "FF16\n"
    ∷ [])

-- Two, and Up three times
abbrev pub case_s_calls : List Made
case_s_calls = call 4 0 ∷ call 5 0 ∷ call 5 0 ∷ call 5 0 ∷ []

-- a press that is refused does not end a row: L, whose start is refused, U, and both again. Then a row of 32 letters, and one of 33
abbrev pub far_start_frames : List Lent
far_start_frames =
    map lent
    ("0104044C554C55"
    ∷ "0104205555555555555555555555555555555555555555555555555555555555555555"
    ∷ "010421555555555555555555555555555555555555555555555555555555555555555555"
    ∷ [])

abbrev pub far_start_lines : List (List ℕ)
far_start_lines =
    map bytes
    ("0104044C554C550A000A003E0C00124F80\n"
    ∷ "010420555555555555555555555555555555555555555555555555555555555555555500000000000000000000000000000000000000000000000000000000000000005E0C00124F80\n"
    ∷ "FF16\n"
    ∷ [])

abbrev pub far_start_calls : List Made
far_start_calls = call 0 10 ∷ call 1 0 ∷ call 0 10 ∷ call 1 0 ∷ replicate 32 (call 1 0)

-- the book is fed all calls of a row, and takes those with number 0
abbrev pub case_s_book : Tuning entries
case_s_book = book_after case_s.program case_s_frames

abbrev pub far_start_book : Tuning entries
far_start_book = book_after far_start.program far_start_frames

pub record Whole : Type 0 where
  pub case_s : Worked case_s.text case_s.program case_s_frames case_s_lines case_s_calls
  pub far_start : Worked far_start.text far_start.program far_start_frames far_start_lines far_start_calls
  pub anchor : case_s_book.anchor ≡ 72
  pub width : width entries case_s_book ≡ 2
  pub raised : far_start_book.anchor ≡ 94
