-- Calls, and what a trigger, a key or a row of letters does to the desk. Document 01, "Frames" and "Numbers returned"; document 02, 3/13 and 5/13.
use Rattle.std.specs.Prelude.{List, [], ◌∷◌, ◌++◌, ℕ, Option, Some, None, Result, Ok, Err}
use Rattle.status.specs.Status.{done, letter_unbound}
use Rattle.tuning.specs.Tuning.{Action, width}
use Rattle.tuning.specs.Desk.{cents}
use Rattle.tuning.specs.State.{held, replied}
use Rattle.tuning.specs.declared.State.{State}
use Rattle.keys.specs.declared.HeldKeys.{HeldKeys}
use Rattle.keys.specs.Keys.{went_down, went_up}
use Rattle.harmonies.specs.Harmonies.{chord_of}
use Rattle.tables.specs.Layout.{Tables}
use Rattle.frames.specs.declared.Way.{Way}
use Rattle.frames.specs.declared.Way.TheVariants.{Down, Up}
use Rattle.protocol.specs.declared.Desk.{Desk}
use Rattle.protocol.specs.declared.Chord.{Chord}
use Rattle.protocol.specs.Triggers.{Sought, itself, matching, action_at, struck}

-- ---- the desk with one part changed: the only lines that a new part of the desk adds to

abbrev pub with_tuning : State → Desk → Desk
with_tuning s d = record { tuning = s; active = d.active; keys = d.keys }

abbrev pub with_active : Option ℕ → Desk → Desk
with_active a d = record { tuning = d.tuning; active = a; keys = d.keys }

abbrev pub with_keys : HeldKeys → Desk → Desk
with_keys h d = record { tuning = d.tuning; active = d.active; keys = h }

-- ---- calls

-- a call's answer: the desk that it leaves, and its number
pub record Replied : Type 0 where
  pub desk : Desk
  pub number : ℕ

-- a call that a frame of this house makes
abbrev pub by_action : ℕ → Desk → Option (Action cents) → Replied
by_action house d None = record { desk = d; number = done }
by_action house d (Some c) = let r = replied d.tuning c in record { desk = with_tuning r.state d; number = r.number }

unfoldable pub call_on : Tables → ℕ → Desk → ℕ → Replied
call_on t house d k = by_action house d (action_at t k)

-- a call that was made: the declaration that was called, and the number that the call got
pub record Made : Type 0 where
  pub called : ℕ
  pub number : ℕ

-- the desk after calls in their order, and the calls with their numbers
unfoldable pub desk_from : Tables → ℕ → Desk → List ℕ → Desk
desk_from t house d [] = d
desk_from t house d (k ∷ ks) = desk_from t house (call_on t house d k).desk ks

unfoldable pub made_from : Tables → ℕ → Desk → List ℕ → List Made
made_from t house d [] = []
made_from t house d (k ∷ ks) = let r = call_on t house d k in record { called = k; number = r.number } ∷ made_from t house r.desk ks

-- "the number returned is that of the call"; of several the last; this where there is none
abbrev pub last_number : ℕ → List Made → ℕ
last_number unfound [] = unfound
last_number unfound (m ∷ ms) = last_number m.number ms

-- ---- a step: the desk that it leaves, its number, and the calls that were made

pub record Step : Type 0 where
  pub desk : Desk
  pub number : ℕ
  pub made : List Made

-- what is found for what is looked for is called; the number is `unfound` where nothing is found
unfoldable pub triggered : Tables → ℕ → Desk → Sought → ℕ → Step
triggered t house d x unfound =
    let p = struck t d.active x in
    let e = with_active p.active d in
    let ms = made_from t house e p.calls in
    record { desk = desk_from t house e p.calls; number = last_number unfound ms; made = ms }

-- "letter bound to nothing"
abbrev pub letter_step : Tables → ℕ → Desk → ℕ → Step
letter_step t house d letter = triggered t house d (itself letter) letter_unbound

-- ---- a row of letters

-- the desk that its presses leave, each press's number, and the calls that were made
pub record Pressed : Type 0 where
  pub desk : Desk
  pub numbers : List ℕ
  pub made : List Made

-- "several presses at a time": each is the press of its letter from the desk that the one before it left, whatever number that one had
unfoldable pub pressed_in_turn : Tables → ℕ → Desk → List ℕ → Pressed
pressed_in_turn t house d [] = record { desk = d; numbers = []; made = [] }
pressed_in_turn t house d (c ∷ cs) =
    let s = letter_step t house d c in
    let r = pressed_in_turn t house s.desk cs in
    record { desk = r.desk; numbers = s.number ∷ r.numbers; made = s.made ++ r.made }

-- ---- a key that goes down or up

-- "Held keys of both houses are projected by r into the present width."
abbrev pub chord_on : Desk → Chord
chord_on d = let s = held d.tuning in record { positions = chord_of d.keys s.anchor (width cents s); width = width cents s }

-- "Each key frame is analysed once, after the key has changed. It answers as a letter does, with 0 where nothing matches"
abbrev pub analysed : Tables → ℕ → Desk → Step
analysed t house d = triggered t house d (matching (chord_on d)) done

-- "a key goes down or up in that house": the held keys then; or "17 for a key already held in that house, 18 for one not held"
abbrev pub key_moved : Way → HeldKeys → ℕ → ℕ → Result HeldKeys ℕ
key_moved Down h house k = went_down h house k
key_moved Up h house k = went_up h house k

-- "each before any analysis"; "a call refused leaves the key as changed"
abbrev pub if_moved : Tables → ℕ → Desk → Result HeldKeys ℕ → Step
if_moved t house d (Ok h) = analysed t house (with_keys h d)
if_moved t house d (Err n) = record { desk = d; number = n; made = [] }

unfoldable pub move_step : Tables → Way → ℕ → Desk → ℕ → Step
move_step t way house d k = if_moved t house d (key_moved way d.keys house k)
