-- What the contracts of private functions cite: no part of the rules.
use Rattle.std.specs.Prelude.{◌≡◌, Bool, true, false, cond, ◌&&◌, ℕ, zero, suc, ◌-◌, ◌^◌, ◌≤◌, ◌<◌, eqb, leb, ℤ, length, take, get_or, Option, Some, None, Result, Ok, Err, All}
use Rattle.std.specs.Option.{option_map}
use mathlib.Core.List.{List, [], ◌∷◌, ◌++◌, map, zip_with, get_last_d}
use Rattle.orders.specs.declared.Kind.{Kind}
use Rattle.orders.specs.declared.Kind.TheVariants as kind
use Rattle.orders.specs.declared.Order.{Order}
use Rattle.orders.specs.Orders.{no_order}
use Rattle.status.specs.Status.{done}
use Rattle.tuning.specs.Tuning.{Tuning, Action}
use Rattle.tuning.specs.Desk.{cents}
use Rattle.tuning.specs.State.{replied, valid_state}
use Rattle.tuning.specs.declared.Reply.{Reply}
use Rattle.tuning.specs.declared.State.{State}
use Rattle.tables.specs.declared.Row.{Row as TableRow}
use Rattle.tables.specs.declared.Row.TheVariants.{Unused, Interval, Tone, System, Retuning, Logic, Harmony, Pattern}
use Rattle.integers.specs.Parts.{up}
use Rattle.tables.specs.declared.Numbers.{Numbers}
use Rattle.tables.specs.Layout.{Tables, logic_form, row_count, triggers_in, calls_in, read_at, row_of, row_at, full, AsLogic, no_logic_holds, a_logic, as_logic, AsHarmony, no_harmony, a_harmony, as_harmony, harmony_base}
use Rattle.tables.specs.Values.{FieldsFit}
use Rattle.validity.specs.Valid.{valid_tables}
use Rattle.validity.specs.Inner.{ValidSystem, ValidRetuning}
use Rattle.frames.specs.Frames.{last_key, letter_kind, way_kind, most_presses}
use Rattle.frames.specs.declared.Decoded.{Decoded}
use Rattle.frames.specs.declared.Decoded.TheVariants.{Bad, Letter, Key, Dump, Move, LetterRow}
use Rattle.keys.specs.Keys.{Place}
use Rattle.hexadecimal.specs.Lines.{begun_with}
use Rattle.answers.specs.Answer.{change_bytes, letter_row_bytes, smallest_buffer}
use Rattle.protocol.specs.declared.Desk.{Desk}
use Rattle.protocol.specs.declared.Told.{Told}
use Rattle.protocol.specs.declared.Stepped.{Stepped}
use Rattle.protocol.specs.declared.Search.{Search}
use Rattle.frames.specs.declared.Head.{Head}
use Rattle.protocol.specs.declared.presses.PressedAll.{PressedAll}
use Rattle.protocol.specs.declared.triggers.Press.{Press}
use Rattle.protocol.specs.declared.triggers.Called.{Called}
use Rattle.protocol.specs.declared.triggers.Called.TheVariants as called
use Rattle.protocol.specs.declared.board.Index.{Index}
use Rattle.protocol.specs.declared.Chord.{Chord}
use Rattle.limits.specs.Limits.{most_positions}
use Rattle.protocol.specs.Triggers.{Sought, answers_to, action_at, first_logic, first_order, order_of, else_order, matches_as}
use Rattle.protocol.specs.Steps.{call_on, Step, Pressed, with_active, with_keys, letter_step, move_step}
use Rattle.protocol.specs.Answers.{active_right, Outcome, unchanged, key_outcome, dump_outcome, bad_outcome}

-- ---- the code's values

-- the trigger of a row that is a logic
abbrev pub logic_trigger : Numbers → Option ℕ
logic_trigger n = cond (eqb n.form logic_form) (Some (up n.first)) None

-- the test for one trigger
abbrev pub is_trigger : ℕ → ℕ → Bool
is_trigger trigger code = eqb code trigger

-- a trigger that is a harmony
abbrev pub is_harmonic : ℕ → Bool
is_harmonic code = leb harmony_base code

-- an index of the logics: of each letter the first logic with it; and of each row, and of the place behind the last, the first row from it on that is a
-- logic whose trigger is a harmony
pub record Indexed (rows : List ℤ) (count : ℕ) (index : Index) : Type 0 where
  pub letter : (trigger : ℕ) → trigger < harmony_base → get_or index.letters trigger None ≡ first_logic rows (is_trigger trigger) 0 count
  pub chord : (i : ℕ) → i ≤ count → get_or index.chords i None ≡ first_logic rows is_harmonic i (count - i)

abbrev pub IndexOf : Tables → Index → Type 0
IndexOf t index = Indexed t.rows (row_count t) index

-- the first logic for what is looked for
abbrev pub logic_for : Tables → Sought → Option ℕ
logic_for t x = first_logic t.rows (answers_to t x) 0 (row_count t)

-- the kind of a declaration that can be called
abbrev pub kind_of : TableRow → Option Kind
kind_of Unused = None
kind_of (Interval d) = None
kind_of (Tone p) = None
kind_of (System a P from to) = Some kind.System
kind_of (Retuning r from to) = Some kind.Retuning
kind_of (Logic c s from to) = Some kind.Logic
kind_of (Harmony needed named) = None
kind_of Pattern = None

abbrev pub kind_at : List ℤ → ℕ → Option Kind
kind_at rows k = kind_of (row_of (read_at rows k))

-- a declaration that is called, as the code's enum that tells logics from others
abbrev pub by_kind : Option Kind → ℕ → Called
by_kind None k = called.Other k
by_kind (Some kind.System) k = called.Other k
by_kind (Some kind.Retuning) k = called.Other k
by_kind (Some kind.Logic) k = called.Logic k

abbrev pub called_in : List ℤ → Option ℕ → Option Called
called_in rows = option_map (λ (k : ℕ). by_kind (kind_at rows k) k)

-- what is found for what is looked for
abbrev pub called_by : Tables → Option ℕ → Sought → Option Called
called_by t a x = let p = answers_to t x in called_in t.rows (else_order t a p (first_logic t.rows p 0 (row_count t)))

-- orders as records: of each its trigger, the kind of the declaration that it calls, and that declaration's number
abbrev pub record_of : List ℤ → ℕ → ℕ → Order
record_of rows trigger k = record { trigger = trigger; kind = kind_at rows k; number = k }

abbrev pub records_of : List ℤ → List ℕ → List ℕ → List Order
records_of rows triggers calls = zip_with (record_of rows) triggers calls

-- how many are gathered together
abbrev pub part_size : ℕ
part_size = 16

-- those of no more than a part of the orders, and zeros after them
abbrev pub gathered : List ℤ → List ℕ → List ℕ → List Order
gathered rows triggers calls = full no_order part_size (records_of rows triggers calls)

-- the declarations that are called: at most one
abbrev pub calls_of : Result ℕ ℕ → List ℕ
calls_of (Err number) = []
calls_of (Ok k) = k ∷ []

-- a logic's start, as its row has it
abbrev pub start_call : ℕ → ℕ → ℕ
start_call k zero = k
start_call k (suc j) = j

-- what comes of what is found, as the code's struct has it
abbrev pub press_as : List ℤ → Option ℕ → Result Called ℕ → Press
press_as rows a (Err number) = record { active = a; called = Err number }
press_as rows a (Ok (called.Other k)) = record { active = a; called = Ok k }
press_as rows a (Ok (called.Logic k)) = record { active = Some k; called = Ok (start_call k (up (read_at rows k).second)) }

abbrev pub called_after : Tables → Desk → Result Called ℕ → List ℕ
called_after t d f = calls_of (press_as t.rows d.active f).called

-- what a call does to the tuning
abbrev pub tuned : State → Option (Action cents) → Reply
tuned s None = record { state = s; number = done }
tuned s (Some c) = replied s c

abbrev pub tuned_by : Tables → State → ℕ → Reply
tuned_by t s k = tuned s (action_at t k)

-- the same of what was found
abbrev pub found_tuned : Tables → State → Result ℕ ℕ → Reply
found_tuned t s (Err number) = record { state = s; number = number }
found_tuned t s (Ok k) = tuned_by t s k

-- what a call and a step leave, as the code's struct has it
abbrev pub calls_leave : Tables → ℕ → Desk → Result ℕ ℕ → Stepped
calls_leave t house d (Err number) = record { desk = d; number = number }
calls_leave t house d (Ok k) = let r = call_on t house d k in record { desk = r.desk; number = r.number }

abbrev pub struck_leaves : Tables → ℕ → Desk → Result Called ℕ → Stepped
struck_leaves t house d f = let p = press_as t.rows d.active f in calls_leave t house (with_active p.active d) p.called

abbrev pub step_leaves : Step → Stepped
step_leaves s = record { desk = s.desk; number = s.number }

-- ---- what is required of the tables

-- each order has both of its codes
abbrev pub Paired : List ℕ → Type 0
Paired [] = Unit
Paired (trigger ∷ []) = ⊥
Paired (trigger ∷ call ∷ orders) = Paired orders

-- a tone system or retuning has what a call of it needs
abbrev pub CallableRow : Tables → TableRow → Type 0
CallableRow t Unused = Unit
CallableRow t (Interval d) = Unit
CallableRow t (Tone p) = Unit
CallableRow t (System a P from to) = ValidSystem t a.0 P.0 from to
CallableRow t (Retuning r from to) = ValidRetuning t from to
CallableRow t (Logic c s from to) = Unit
CallableRow t (Harmony needed named) = Unit
CallableRow t Pattern = Unit

pub record Callable (t : Tables) (k : ℕ) : Type 0 where
  pub fields : FieldsFit (read_at t.rows k)
  pub row : CallableRow t (row_at t k)

abbrev pub CallableFound : Tables → Result ℕ ℕ → Type 0
CallableFound t (Err number) = Unit
CallableFound t (Ok k) = Callable t k

-- each of these is one of the rows
abbrev pub Within : Tables → List ℕ → Type 0
Within t [] = Unit
Within t (k ∷ ks) = (k < row_count t) × Within t ks

-- ---- of chords

-- whether a trigger is a harmony that a chord matches
abbrev pub sounds_in : List ℤ → Chord → ℕ → Bool
sounds_in rows x code = leb harmony_base code && matches_as x (as_harmony (row_of (read_at rows (code - harmony_base))))

-- the first of some triggers that is one
unfoldable pub first_of : (ℕ → Bool) → List ℕ → Option ℕ
first_of p [] = None
first_of p (c ∷ cs) = elim (p c) [ true ↦ Some c | false ↦ first_of p cs ]

-- a chord's positions and width are those of a state
pub record ChordFits (x : Chord) : Type 0 where
  pub positions : x.positions < 2 ^ most_positions
  pub width : x.width ≤ most_positions

-- the sets of a harmony are of key numbers to 59
abbrev pub SetsFit : AsHarmony → Type 0
SetsFit no_harmony = Unit
SetsFit (a_harmony n m) = (n < 2 ^ most_positions) × (m < 2 ^ most_positions)

-- so are those of a trigger that is a harmony
abbrev pub Audible : List ℤ → ℕ → Type 0
Audible rows code = harmony_base ≤ code → SetsFit (as_harmony (row_of (read_at rows (code - harmony_base))))

abbrev pub AudibleLogic : List ℤ → AsLogic → Type 0
AudibleLogic rows no_logic_holds = Unit
AudibleLogic rows (a_logic c s from to) = Audible rows c

-- and those of the triggers of logics
abbrev pub AudibleRows : List ℤ → ℕ → Type 0
AudibleRows rows count = (i : ℕ) → i < count → AudibleLogic rows (as_logic (row_of (read_at rows i)))

-- the orders of the active logic
pub record OrdersOf (t : Tables) (active : Option ℕ) (orders : List ℕ) : Type 0 where
  pub paired : Paired orders
  pub audible : All (Audible t.rows) (triggers_in orders)
  pub first : (p : ℕ → Bool) → first_order p (triggers_in orders) (calls_in orders) ≡ order_of t p active

-- ---- of frames

-- what is known once 19 and 23 are excluded
pub record Ready (t : Tables) (d : Desk) (buffer : List ℕ) : Type 0 where
  pub tables : valid_tables t ≡ true
  pub state : valid_state d.tuning ≡ true
  pub active : active_right t d.active ≡ true
  pub room : smallest_buffer ≤ length buffer

-- the key that is asked for, or moves, is one of the keyboard, and its house one of the two; a row is not too long
abbrev pub FrameInside : Decoded → Type 0
FrameInside Bad = Unit
FrameInside (Letter house letter) = Unit
FrameInside (Key house key) = key.0 ≤ last_key
FrameInside (Dump house) = Unit
FrameInside (Move way house key) = Place house key.0
FrameInside (LetterRow house count) = count ≤ most_presses

-- a frame may change the desk
abbrev pub may_change : Decoded → Bool
may_change Bad = false
may_change (Letter house letter) = true
may_change (Key house key) = false
may_change (Dump house) = false
may_change (Move way house key) = true
may_change (LetterRow house count) = true

abbrev pub head : ℕ → ℕ → ℕ → Head
head house kind value = record { house = house; kind = kind; value = value }

-- of a letter, and of a key that moves, the bytes that the answer repeats; of any other frame, zeros
abbrev pub head_of : Decoded → Head
head_of Bad = head 0 0 0
head_of (Letter house letter) = head house letter_kind letter
head_of (Key house key) = head 0 0 0
head_of (Dump house) = head 0 0 0
head_of (Move way house key) = head house (way_kind way) key.0
head_of (LetterRow house count) = head 0 0 0

-- and the step; any other frame has none
abbrev pub still : Desk → Step
still d = record { desk = d; number = done; made = [] }

abbrev pub step_of : Tables → Desk → Decoded → Step
step_of t d Bad = still d
step_of t d (Letter house letter) = letter_step t house d letter
step_of t d (Key house key) = still d
step_of t d (Dump house) = still d
step_of t d (Move way house key) = move_step t way house d key.0
step_of t d (LetterRow house count) = still d

-- what a search finds comes to a step once it is called, and can be called
pub record Finds (t : Tables) (house : ℕ) (d : Desk) (s : Step) (r : Search) : Type 0 where
  pub within : Within t (called_after t (with_keys r.keys d) r.found)
  pub leaves : struck_leaves t house (with_keys r.keys d) r.found ≡ step_leaves s

-- ---- of presses

-- how many a frame has, and which: of a row its letters, which stand at the start of an array, of any other the frame itself
abbrev pub press_count : Decoded → ℕ
press_count Bad = 1
press_count (Letter house letter) = 1
press_count (Key house key) = 1
press_count (Dump house) = 1
press_count (Move way house key) = 1
press_count (LetterRow house count) = count

abbrev pub press_at : Decoded → List ℕ → ℕ → Decoded
press_at Bad letters i = Bad
press_at (Letter house letter) letters i = Letter house letter
press_at (Key house key) letters i = Key house key
press_at (Dump house) letters i = Dump house
press_at (Move way house key) letters i = Move way house key
press_at (LetterRow house count) letters i = Letter house (get_or letters i 0)

abbrev pub presses_of : Decoded → List ℕ → List Decoded
presses_of Bad letters = Bad ∷ []
presses_of (Letter house letter) letters = Letter house letter ∷ []
presses_of (Key house key) letters = Key house key ∷ []
presses_of (Dump house) letters = Dump house ∷ []
presses_of (Move way house key) letters = Move way house key ∷ []
presses_of (LetterRow house count) letters = map (Letter house) (take count letters)

-- what they leave, one after the other
unfoldable pub steps_from : Tables → Desk → List Decoded → Pressed
steps_from t d [] = record { desk = d; numbers = []; made = [] }
steps_from t d (f ∷ fs) =
    let s = step_of t d f in
    let r = steps_from t s.desk fs in
    record { desk = r.desk; numbers = s.number ∷ r.numbers; made = s.made ++ r.made }

-- the same as the code's struct has it
pub record Presses (p : Pressed) (count : ℕ) (r : PressedAll) : Type 0 where
  pub desk : r.desk ≡ p.desk
  pub number : r.number ≡ get_last_d p.numbers done
  pub numbers : take count r.numbers ≡ p.numbers

-- the bytes of the answer: of a row with its letters and each number, of any other with its own
abbrev pub press_bytes : Decoded → ℕ → Tuning cents → List ℕ
press_bytes f number s = let h = head_of f in change_bytes h.house h.kind h.value number s

abbrev pub pressed_bytes : Decoded → List ℕ → List ℕ → ℕ → Tuning cents → List ℕ
pressed_bytes Bad letters numbers number s = press_bytes Bad number s
pressed_bytes (Letter house letter) letters numbers number s = press_bytes (Letter house letter) number s
pressed_bytes (Key house key) letters numbers number s = press_bytes (Key house key) number s
pressed_bytes (Dump house) letters numbers number s = press_bytes (Dump house) number s
pressed_bytes (Move way house key) letters numbers number s = press_bytes (Move way house key) number s
pressed_bytes (LetterRow house count) letters numbers number s = letter_row_bytes house letters numbers s

-- what a frame is told that may not change the desk; any other, nothing
abbrev pub told_outcome : Desk → Decoded → Outcome
told_outcome d Bad = bad_outcome d
told_outcome d (Letter house letter) = unchanged d done
told_outcome d (Key house key) = key_outcome d house key.0
told_outcome d (Dump house) = dump_outcome d house
told_outcome d (Move way house key) = unchanged d done
told_outcome d (LetterRow house count) = unchanged d done

-- its number is told, its line written, and the line's length told
pub record Tells (o : Outcome) (r : Told) (before after : List ℕ) : Type 0 where
  pub number : r.number ≡ o.number
  pub size : r.length ≡ length o.line
  pub buffer : after ≡ begun_with o.line before
