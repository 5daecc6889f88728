-- Document 02, 3/13: "The state and numbers must equal those of the same presses sent singly."
use Rattle.std.specs.Prelude.{◌≡◌, true, ℕ, ◌≤◌, length, Some}
use mathlib.Core.List.{List, [], ◌∷◌, ◌++◌, map, get_last_d}
use Rattle.status.specs.Status.{done}
use Rattle.tuning.specs.State.{places, held}
use Rattle.tables.specs.Layout.{Tables}
use Rattle.frames.specs.Frames.{is_house, letter_kind, letter_row_kind, is_count, are_capitals, Frame, bad, letter, key, dump, move, letter_row, frame_of}
use Rattle.hexadecimal.specs.Digits.{hexes, bytes_of}
use Rattle.hexadecimal.specs.Lines.{line_of}
use Rattle.answers.specs.Answer.{letter_row_bytes, smallest_buffer}
use Rattle.protocol.specs.declared.Desk.{Desk}
use Rattle.protocol.specs.Answers.{bad_outcome, valid_desk, answer_of}
use Rattle.protocol.specs.Streams.{Lent, desk_after, made_in, numbers_in}

-- ---- which lines are rows: "A frame of kind 04 shall carry a count from 1 to 32 and that many letters."

pub record RightRow (house : ℕ) (cs : List ℕ) : Type 0 where
  pub from : is_house house ≡ true
  pub count : is_count (length cs) ≡ true
  pub letters : are_capitals cs ≡ true

abbrev pub row_line : ℕ → List ℕ → List ℕ
row_line house cs = hexes (house ∷ letter_row_kind ∷ length cs ∷ cs)

unfoldable pub RowsAreRead : Type 0
RowsAreRead = (house : ℕ) (cs : List ℕ) → RightRow house cs → frame_of (row_line house cs) ≡ letter_row house cs

-- "22 for a wrong count or letter, before any press is tried": any other line of kind 04 is a bad frame, which leaves the desk as it was and calls nothing
unfoldable pub WrongRows : Type 0
WrongRows =
    (t : Tables) (d : Desk) → valid_desk t d ≡ true → (line : List ℕ) (house : ℕ) (rest : List ℕ) → bytes_of line ≡ Some (house ∷ letter_row_kind ∷ rest)
    → ((cs : List ℕ) → rest ≡ length cs ∷ cs → RightRow house cs → ⊥) → (room : ℕ) → smallest_buffer ≤ room → answer_of t d line room ≡ bad_outcome d

-- ---- a row, and its presses sent singly

-- a press sent singly is a frame of kind 01 of the same house; each has a buffer as long as the row's
abbrev pub single : ℕ → ℕ → ℕ → Lent
single house room c = record { frame = hexes (house ∷ letter_kind ∷ c ∷ []); room = room }

abbrev pub singly : ℕ → ℕ → List ℕ → List Lent
singly house room cs = map (single house room) cs

-- the desk, which is the state, the active logic and the held keys, the calls that were made with their numbers, the number, and in the answer "each press's
-- number, then anchor, width and period"; the last where a line is written at all
pub record SameAsSingly (t : Tables) (d : Desk) (line : List ℕ) (house : ℕ) (cs : List ℕ) (room : ℕ) : Type 0 where
  pub desk : (answer_of t d line room).desk ≡ desk_after t d (singly house room cs)
  pub made : (answer_of t d line room).made ≡ made_in t d (singly house room cs)
  pub number : (answer_of t d line room).number ≡ get_last_d (numbers_in t d (singly house room cs)) done
  pub answer : smallest_buffer ≤ room → valid_desk t d ≡ true
      → (answer_of t d line room).line
      ≡ line_of (letter_row_bytes house cs (numbers_in t d (singly house room cs)) (held (desk_after t d (singly house room cs)).tuning))

-- whatever the tables, the desk, the row and the length of the buffer are
unfoldable pub RowsAreSingles : Type 0
RowsAreSingles =
    (t : Tables) (d : Desk) → length d.tuning.tones ≡ places → (line : List ℕ) (house : ℕ) (cs : List ℕ) → frame_of line ≡ letter_row house cs → (room : ℕ)
    → SameAsSingly t d line house cs room

-- ---- and so along a stream: with each row's presses sent singly it leaves the same desk, and makes the same calls with the same numbers

abbrev pub sent_as : Lent → Frame → List Lent
sent_as l bad = l ∷ []
sent_as l (letter house c) = l ∷ []
sent_as l (key house k) = l ∷ []
sent_as l (dump house) = l ∷ []
sent_as l (move way house k) = l ∷ []
sent_as l (letter_row house cs) = singly house l.room cs

unfoldable pub all_singly : List Lent → List Lent
all_singly [] = []
all_singly (l ∷ ls) = sent_as l (frame_of l.frame) ++ all_singly ls

pub record SentSingly (t : Tables) (d : Desk) (ls : List Lent) : Type 0 where
  pub desk : desk_after t d ls ≡ desk_after t d (all_singly ls)
  pub made : made_in t d ls ≡ made_in t d (all_singly ls)

unfoldable pub StreamsOfRows : Type 0
StreamsOfRows = (t : Tables) (d : Desk) → length d.tuning.tones ≡ places → (ls : List Lent) → SentSingly t d ls
