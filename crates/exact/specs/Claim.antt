-- Demand 3: what is claimed of a stream as a whole.
use Rattle.std.specs.Prelude.{◌≡◌, true, false, List, [], ◌∷◌, ℕ, ◌≤◌, ℤ, Option, Some, None}
use Rattle.status.specs.Status.{done, key_unplayable, key_silent}
use Rattle.tuning.specs.Scale.{Sound, muted, sounds}
use Rattle.tuning.specs.Tuning.{Tuning, Action, start, sound_of}
use Rattle.tuning.specs.Desk.{is_playable}
use Rattle.tuning.specs.State.{held}
use Rattle.program.specs.Program.{Program}
use Rattle.program.specs.Text.{accepted, read_text}
use Rattle.filling.specs.Tables.{tables_of}
use Rattle.frames.specs.Frames.{first_house, second_house, last_key, key_kind}
use Rattle.hexadecimal.specs.Digits.{hexes}
use Rattle.answers.specs.Answer.{smallest_buffer}
use Rattle.answers.specs.Told.{KeyTold, told_by}
use Rattle.protocol.specs.Steps.{Made}
use Rattle.protocol.specs.Answers.{start_desk, Outcome, sound_at, key_number, answer_of}
use Rattle.protocol.specs.Unplayable.{told_of}
use Rattle.protocol.specs.Streams.{Lent, desk_after, made_in}
use Rattle.exact.specs.Entry.{Nearness, Within, Sharper}
use Rattle.exact.specs.Book as book
use Rattle.exact.specs.Book.{Declared, Powers, entries, book_from}
use Rattle.exact.specs.Agreement.{KeyAgrees, Agrees}
use Rattle.exact.specs.Actions.{declared_in, book_action}

-- "The exact book of demand 3 is fed the text and, frame by frame, each call that these rules make of a tone system or retuning, with its number."
abbrev pub if_called : Option (Action entries) → ℕ → List book.Made → List book.Made
if_called None number rest = rest
if_called (Some c) number rest = record { call = c; number = number } ∷ rest

unfoldable pub fed_by : Program → List Made → List book.Made
fed_by p [] = []
fed_by p (m ∷ ms) = if_called (book_action p m.called) m.number (fed_by p ms)

-- "It starts with 60, 12, at position i 440 once and the root i - 9 times, as period the root 12 times": the exact book after a stream
unfoldable pub book_after : Program → List Lent → Tuning entries
book_after p stream = book_from (start entries) (fed_by p (made_in (tables_of p) start_desk stream))

-- what is claimed: for any text that the reader accepts as the program p, and any stream, the desk that started
-- anew and was handed on from frame to frame agrees with the book. A stream has frames of any kind. Document 02, 5/13, of those of kind 05 and 06: "Demand 3
-- takes these frames in its streams." The book knows no held keys: it is fed the calls that such frames make. 3/13, of those of kind 04: it is fed all calls of
-- a row, in their order
abbrev pub StreamNear : Nearness → Program → List Lent → Type 0
StreamNear near p stream = Agrees near (declared_in p) (held (desk_after (tables_of p) start_desk stream).tuning) (book_after p stream)

abbrev pub StreamAgrees : Program → List Lent → Type 0
StreamAgrees = StreamNear Within

-- document 02, 10/13: the same claim in the tighter comparison
abbrev pub StreamSharper : Program → List Lent → Type 0
StreamSharper = StreamNear Sharper

-- what a frame of kind 02 is answered after a stream, whichever house asks, and however long the buffer is from 512 bytes on
abbrev pub key_frame : ℕ → ℕ → List ℕ
key_frame house key = hexes (house ∷ key_kind ∷ key ∷ [])

abbrev pub key_answer : Program → List Lent → ℕ → ℕ → ℕ → Outcome
key_answer p stream house key room = answer_of (tables_of p) (desk_after (tables_of p) start_desk stream) (key_frame house key) room

-- "With d the pitch that kind 02 then answers": by its number, and by the number and the pitch that the bytes of its line tell, it is the sound of which
-- `StreamNear` speaks; document 02, 6/13: "only from 0 to 12,799,999"
pub record KeyAnswered (p : Program) (stream : List Lent) (house key room : ℕ) : Type 0 where
  pub number : (key_answer p stream house key room).number ≡ key_number (sound_at (desk_after (tables_of p) start_desk stream) key)
  pub told : told_by (key_answer p stream house key room).line ≡ Some (told_of (sound_at (desk_after (tables_of p) start_desk stream) key))

-- an answer beside the book's sound of the key. Document 02, 6/13: "Demand 3's distance speaks of keys that do give a pitch." It is 20 exactly where the book is
-- silent; and a pitch that is not given, since no instrument has it, is as near as one that is
pub data AnswerNear (near : Nearness) (ds : List (Option Declared)) (book : Sound Powers) : KeyTold → Type 0 where
  told_silent : KeyAgrees near ds book muted → AnswerNear near ds book (record { number = key_silent; sound = muted })
  told_unplayable : {z : ℤ} → is_playable z ≡ false → KeyAgrees near ds book (sounds z) → AnswerNear near ds book (record { number = key_unplayable; sound = muted })
  told_pitch : {z : ℤ} → is_playable z ≡ true → KeyAgrees near ds book (sounds z) → AnswerNear near ds book (record { number = done; sound = sounds z })

-- and it is the answer's bytes that say so
pub record AnswerAgrees (near : Nearness) (p : Program) (stream : List Lent) (house key room : ℕ) : Type 0 where
  pub told : KeyTold
  pub line : told_by (key_answer p stream house key room).line ≡ Some told
  pub agrees : AnswerNear near (declared_in p) (sound_of entries (book_after p stream) key) told

-- the claim about one stream: of the desk as it is held, and of the answer's bytes
pub record Demand3 (near : Nearness) (p : Program) (stream : List Lent) : Type 0 where
  pub state : StreamNear near p stream
  pub answer : (house key room : ℕ) → first_house ≤ house → house ≤ second_house → key ≤ last_key → smallest_buffer ≤ room
      → AnswerAgrees near p stream house key room

-- and about all
abbrev pub Claimed : Nearness → Type 0
Claimed near = (text : List ℕ) (p : Program) → read_text text ≡ accepted p → (stream : List Lent) → Demand3 near p stream

-- **demand 3**: "Over any stream under an accepted text, the desk and the exact book have the same anchor, width and silent keys, and each sounding key
-- differs from its exact frequency by at most a thousandth of a cent for each power of a declared number" -- and it is the answer's bytes that say so
unfoldable pub DemandThree : Type 0
DemandThree = Claimed Within

-- **document 02, 10/13**: "51 hundredths of a thousandth suffice for each power"
unfoldable pub TighterDistance : Type 0
TighterDistance = Claimed Sharper
