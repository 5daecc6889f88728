-- The held keys are history: after a stream a key is held if the last of its key frames that was taken was a press. Document 02, 5/13: "Frames of kind 05
-- and 06 say that a key goes down or up in that house; the desk keeps the held keys of each."
use Rattle.std.specs.Prelude.{◌≡◌, Bool, true, false, cond, ◌&&◌, List, [], ◌∷◌, ℕ, eqb, ltb, length, is_ok}
use Rattle.frames.specs.Frames.{Frame, bad, letter, key, dump, move, letter_row, frame_of}
use Rattle.frames.specs.declared.Way.{Way}
use Rattle.frames.specs.declared.Way.TheVariants.{Down, Up}
use Rattle.keys.specs.Keys.{Place, word_count, is_held}
use Rattle.answers.specs.Answer.{smallest_buffer}
use Rattle.tables.specs.Layout.{Tables}
use Rattle.protocol.specs.declared.Desk.{Desk}
use Rattle.protocol.specs.Steps.{key_moved}
use Rattle.protocol.specs.Answers.{valid_desk, answer_of}
use Rattle.protocol.specs.Streams.{Lent, desk_after}

-- a key that went down or up
pub record Moved : Type 0 where
  pub way : Way
  pub house : ℕ
  pub key : ℕ

-- the key frame, where the frame is one and is taken: "17 for a key already held in that house, 18 for one not held"
abbrev pub move_by : Desk → Frame → List Moved
move_by d bad = []
move_by d (letter house c) = []
move_by d (key house k) = []
move_by d (dump house) = []
move_by d (letter_row house cs) = []
move_by d (move way house k) = cond (is_ok (key_moved way d.keys house k)) (record { way = way; house = house; key = k } ∷ []) []

-- none where 19 or 23 is given
abbrev pub moves_of : Tables → Desk → Lent → List Moved
moves_of t d l = cond (ltb l.room smallest_buffer) [] (cond (valid_desk t d) (move_by d (frame_of l.frame)) [])

-- whether a key is held once these have moved
abbrev pub is_down : Way → Bool
is_down Down = true
is_down Up = false

unfoldable pub held_by : List Moved → ℕ → ℕ → Bool → Bool
held_by [] house k b = b
held_by (m ∷ ms) house k b = held_by ms house k (cond (eqb m.house house && eqb m.key k) (is_down m.way) b)

-- along a stream, each frame from the desk that its forerunner left
unfoldable pub held_along : Tables → Desk → List Lent → ℕ → ℕ → Bool → Bool
held_along t d [] house k b = b
held_along t d (l ∷ ls) house k b = held_along t (answer_of t d l.frame l.room).desk ls house k (held_by (moves_of t d l) house k b)

-- `held_along_holds` of proofs/KeysHeld.antt; a desk of the code always has its four words of keys
unfoldable pub KeysAreHistory : Type 0
KeysAreHistory =
    (t : Tables) (d : Desk) → length d.keys.words ≡ word_count → (ls : List Lent) (house k : ℕ) → Place house k
    → is_held (desk_after t d ls).keys house k ≡ held_along t d ls house k (is_held d.keys house k)
