-- "answer buffer under 512 bytes" (19) stays the only buffer that is too small: no frame's answer is longer, neither that of a row of 32 letters (document 02, 3/13), which
-- has 147 bytes, nor any other. The longest is the dump of sixty tones, with 501.
use Rattle.std.specs.Prelude.{◌≡◌, List, ℕ, ◌≤◌, length}
use Rattle.tuning.specs.State.{places}
use Rattle.tables.specs.Layout.{Tables}
use Rattle.frames.specs.Frames.{letter_row, frame_of}
use Rattle.protocol.specs.declared.Desk.{Desk}
use Rattle.protocol.specs.Answers.{answer_of}

abbrev pub longest_row_answer : ℕ
longest_row_answer = 147

abbrev pub longest_answer : ℕ
longest_answer = 501

-- whatever the tables, the desk, the frame and the buffer are
pub record Fits (t : Tables) (d : Desk) (frame : List ℕ) (room : ℕ) : Type 0 where
  pub any : length (answer_of t d frame room).line ≤ longest_answer
  pub row : (house : ℕ) (cs : List ℕ) → frame_of frame ≡ letter_row house cs → length (answer_of t d frame room).line ≤ longest_row_answer

unfoldable pub AnswersFit : Type 0
AnswersFit = (t : Tables) (d : Desk) → length d.tuning.tones ≡ places → (frame : List ℕ) (room : ℕ) → Fits t d frame room
