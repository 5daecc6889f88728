-- What a frame does: the desk after it, the number, the calls that were made, and the answer's line. Document 01, "Frames", and "Numbers returned".
use Rattle.std.specs.Prelude.{◌≡◌, Bool, true, cond, ◌&&◌, ℕ, ltb, ℤ, length, Option, Some, None}
use mathlib.Core.List.{List, [], get_last_d}
use Rattle.status.specs.Status.{done, key_unplayable, buffer_too_small, key_silent, bad_frame, table_damaged}
use Rattle.tuning.specs.Scale.{Sound, muted, sounds}
use Rattle.tuning.specs.Tuning.{sound_of, start}
use Rattle.tuning.specs.Desk.{cents, is_playable, playable}
use Rattle.tuning.specs.State.{held, coded, valid_state}
use Rattle.keys.specs.Keys.{no_keys}
use Rattle.tables.specs.Layout.{Tables}
use Rattle.validity.specs.Valid.{is_logic, refers_to, valid_tables}
use Rattle.frames.specs.Frames.{Frame, bad, letter, key, dump, move, letter_row, frame_of}
use Rattle.frames.specs.declared.Way.{Way}
use Rattle.hexadecimal.specs.Lines.{line_of, begun_with}
use Rattle.answers.specs.Answer.{letter_bytes, move_bytes, letter_row_bytes, key_bytes, dump_bytes, bad_bytes, smallest_buffer}
use Rattle.protocol.specs.declared.Desk.{Desk}
use Rattle.protocol.specs.declared.Answered.{Answered}
use Rattle.protocol.specs.Steps.{Made, Step, letter_step, pressed_in_turn, move_step}

-- "At the start: .. no logic active."; no key is held
abbrev pub start_desk : Desk
start_desk = record { tuning = coded (start cents); active = None; keys = no_keys }

-- ---- what a frame does, by its kind; the line is empty where nothing is written

pub record Outcome : Type 0 where
  pub desk : Desk
  pub number : ℕ
  pub made : List Made
  pub line : List ℕ

-- a step, answered by a line
abbrev pub answered : Step → List ℕ → Outcome
answered s line = record { desk = s.desk; number = s.number; made = s.made; line = line }

unfoldable pub letter_outcome : Tables → Desk → ℕ → ℕ → Outcome
letter_outcome t d house c =
    let s = letter_step t house d c in answered s (line_of (letter_bytes house c s.number (held s.desk.tuning)))

-- "It answers as a letter does"
unfoldable pub move_outcome : Tables → Desk → Way → ℕ → ℕ → Outcome
move_outcome t d way house k =
    let s = move_step t way house d k in answered s (line_of (move_bytes way house k s.number (held s.desk.tuning)))

-- document 02, 3/13: "Its answer is the frame, then each press's number, then anchor, width and period." The number that a call for a row returns is the
-- last press's
unfoldable pub letter_row_outcome : Tables → Desk → ℕ → List ℕ → Outcome
letter_row_outcome t d house cs =
    let p = pressed_in_turn t house d cs in
    record {
      desk = p.desk;
      number = get_last_d p.numbers done;
      made = p.made;
      line = line_of (letter_row_bytes house cs p.numbers (held p.desk.tuning));
    }

-- what a key sounds, however high or low
abbrev pub sound_at : Desk → ℕ → Sound ℤ
sound_at d k = sound_of cents (held d.tuning) k

-- "key asked is silent; pitch bytes 80000000"; document 02, 6/13: "15 after 20"
abbrev pub key_number : Sound ℤ → ℕ
key_number muted = key_silent
key_number (sounds z) = cond (is_playable z) done key_unplayable

-- "A key answer shall give a pitch only from 0 to 12,799,999": else "pitch bytes 80000000, state unchanged"
unfoldable pub key_outcome : Desk → ℕ → ℕ → Outcome
key_outcome d house k =
    let t = sound_at d k in
    record { desk = d; number = key_number t; made = []; line = line_of (key_bytes house k (key_number t) (playable t)) }

-- "03: anchor, width, period, each tone"
abbrev pub dump_outcome : Desk → ℕ → Outcome
dump_outcome d house = record { desk = d; number = done; made = []; line = line_of (dump_bytes house (held d.tuning)) }

-- "Anything else is a bad frame, answered `FF16`."
abbrev pub bad_outcome : Desk → Outcome
bad_outcome d = record { desk = d; number = bad_frame; made = []; line = line_of bad_bytes }

unfoldable pub frame_outcome : Tables → Desk → Frame → Outcome
frame_outcome t d (letter house c) = letter_outcome t d house c
frame_outcome t d (key house k) = key_outcome d house k
frame_outcome t d (dump house) = dump_outcome d house
frame_outcome t d (move way house k) = move_outcome t d way house k
frame_outcome t d (letter_row house cs) = letter_row_outcome t d house cs
frame_outcome t d bad = bad_outcome d

-- ---- the whole answer

-- "a state's number out of range": the state's numbers, and the active logic is none or a logic of the tables
abbrev pub active_right : Tables → Option ℕ → Bool
active_right t None = true
active_right t (Some i) = refers_to is_logic t i

abbrev pub valid_desk : Tables → Desk → Bool
valid_desk t d = valid_tables t && valid_state d.tuning && active_right t d.active

-- nothing changes, nothing is written, nothing is called
abbrev pub unchanged : Desk → ℕ → Outcome
unchanged d n = record { desk = d; number = n; made = []; line = [] }

-- "For a frame: 19, 23, 22, then the rest." `room` is the length of the buffer that is lent.
unfoldable pub answer_of : Tables → Desk → List ℕ → ℕ → Outcome
answer_of t d frame room =
    cond (ltb room smallest_buffer) (unchanged d buffer_too_small)
    (cond (valid_desk t d) (frame_outcome t d (frame_of frame)) (unchanged d table_damaged))

-- the whole result of a call, with the lent buffer before it and after it: "Bytes after the answer's line feed keep what they held."
pub record Gives (o : Outcome) (r : Answered) (before after : List ℕ) : Type 0 where
  pub desk : r.desk ≡ o.desk
  pub number : r.number ≡ o.number
  pub size : r.length ≡ length o.line
  pub buffer : after ≡ begun_with o.line before
