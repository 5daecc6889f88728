-- Demand 1: "a retuning not taken leaves anchor, width, tones and period unchanged". Document 01, "Numbers returned", column "Leaves": "state unchanged".
-- It is said of a call and of a press: document 02, 3/13, lets a frame have several presses, and one that is taken may stand before one that is not.
-- (The tones of a state are an array of sixty, so that `length .. ≡ places` holds of every value that the code has.)
use Rattle.std.specs.Prelude.{◌≡◌, ◌≢◌, true, List, [], ◌∷◌, ℕ, length}
use Rattle.status.specs.Status.{done}
use Rattle.tuning.specs.State.{places, valid_state}
use Rattle.tables.specs.Layout.{Tables}
use Rattle.frames.specs.declared.Way.{Way}
use Rattle.protocol.specs.declared.Desk.{Desk}
use Rattle.protocol.specs.Steps.{Made, Step, call_on, letter_step, move_step}
use Rattle.protocol.specs.Answers.{answer_of}

-- a call whose number is not 0 leaves the very tuning, whatever the tables, the house and the declaration are
unfoldable pub CallKeeps : Type 0
CallKeeps =
    (t : Tables) (house : ℕ) (d : Desk) → valid_state d.tuning ≡ true → length d.tuning.tones ≡ places → (k : ℕ)
    → (call_on t house d k).number ≢ done → (call_on t house d k).desk.tuning ≡ d.tuning

-- and so does a press: of a letter, sent singly or in a row, and of a key that goes down or up
abbrev pub KeptBy : Desk → Step → Type 0
KeptBy d s = s.number ≢ done → s.desk.tuning ≡ d.tuning

pub record KeptByPress (t : Tables) (house : ℕ) (d : Desk) : Type 0 where
  pub letter : (c : ℕ) → KeptBy d (letter_step t house d c)
  pub move : (way : Way) (k : ℕ) → KeptBy d (move_step t way house d k)

unfoldable pub PressKeeps : Type 0
PressKeeps = (t : Tables) (house : ℕ) (d : Desk) → valid_state d.tuning ≡ true → length d.tuning.tones ≡ places → KeptByPress t house d

-- a frame leaves it where none of the calls that it makes has the number 0, whatever the tables, the desk, its bytes and the length of its buffer are
abbrev pub NoneTaken : List Made → Type 0
NoneTaken [] = Unit
NoneTaken (m ∷ ms) = (m.number ≢ done) × NoneTaken ms

unfoldable pub FrameKeeps : Type 0
FrameKeeps =
    (t : Tables) (d : Desk) → length d.tuning.tones ≡ places → (frame : List ℕ) (room : ℕ)
    → NoneTaken (answer_of t d frame room).made → (answer_of t d frame room).desk.tuning ≡ d.tuning
