-- Document 02, 6/13, of any tables, desk, frame and buffer: where 15 is answered, what that leaves, and which pitches an answer gives.
use Rattle.std.specs.Prelude.{◌≡◌, true, false, List, [], ℕ, ◌≤◌, ◌<◌, ℤ, Some}
use Rattle.status.specs.Status.{done, key_unplayable}
use Rattle.tuning.specs.Scale.{Sound, muted, sounds}
use Rattle.tuning.specs.Desk.{is_playable, playable}
use Rattle.tables.specs.Layout.{Tables}
use Rattle.frames.specs.Frames.{key, frame_of}
use Rattle.hexadecimal.specs.Lines.{line_of}
use Rattle.answers.specs.Answer.{key_bytes, smallest_buffer}
use Rattle.answers.specs.Told.{KeyTold, told_by}
use Rattle.protocol.specs.declared.Desk.{Desk}
use Rattle.protocol.specs.Answers.{Outcome, sound_at, key_number, key_outcome, valid_desk, answer_of}

-- "Below or above it, the key counts as unplayable": a frame asks a key that sounds there
pub record AsksUnplayable (d : Desk) (frame : List ℕ) : Type 0 where
  pub house : ℕ
  pub asked : ℕ
  pub pitch : ℤ
  pub read : frame_of frame ≡ key house asked
  pub sounding : sound_at d asked ≡ sounds pitch
  pub beyond : is_playable pitch ≡ false

-- what that comes to: "15 after 20, pitch bytes 80000000, state unchanged"; and nothing is called
abbrev pub unplayable_outcome : Desk → ℕ → ℕ → Outcome
unplayable_outcome d house k = record { desk = d; number = key_unplayable; made = []; line = line_of (key_bytes house k key_unplayable muted) }

pub record Unplayable (d : Desk) (frame : List ℕ) (o : Outcome) : Type 0 where
  pub asks : AsksUnplayable d frame
  pub whole : o ≡ unplayable_outcome d asks.house asks.asked

-- 15 is answered there, after 19, 23, 22 and 20, and nowhere else
pub record Fifteen (t : Tables) (d : Desk) (frame : List ℕ) (room : ℕ) : Type 0 where
  pub there : smallest_buffer ≤ room → valid_desk t d ≡ true → AsksUnplayable d frame → (answer_of t d frame room).number ≡ key_unplayable
  pub only : (answer_of t d frame room).number ≡ key_unplayable → Unplayable d frame (answer_of t d frame room)

unfoldable pub WhereFifteen : Type 0
WhereFifteen = (t : Tables) (d : Desk) (frame : List ℕ) (room : ℕ) → Fifteen t d frame room

-- what the line of a key's answer tells of the sound
abbrev pub told_of : Sound ℤ → KeyTold
told_of t = record { number = key_number t; sound = playable t }

-- "A key answer shall give a pitch only from 0 to 12,799,999": a pitch that is read from the bytes of its line is one of these, it is what the key sounds, and its
-- number is 0
pub record GivesPitch (d : Desk) (k : ℕ) (told : KeyTold) (z : ℤ) : Type 0 where
  pub within : is_playable z ≡ true
  pub sounding : sound_at d k ≡ sounds z
  pub number : told.number ≡ done

unfoldable pub PitchGiven : Type 0
PitchGiven =
    (d : Desk) (house k : ℕ) → house < 256 → k < 256 → (told : KeyTold) → told_by (key_outcome d house k).line ≡ Some told → (z : ℤ) → told.sound ≡ sounds z
    → GivesPitch d k told z
