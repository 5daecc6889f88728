-- A right desk over valid tables stays right, whatever the stream: so 23 is never given after the start. Assumes nothing.
use mathlib.Core.Path.{◌≡◌, refl, subst}
use mathlib.Core.Bool.{true, ◌&&◌}
use mathlib.Core.List.{List, [], ◌∷◌}
use Rattle.std.specs.Prelude.{Option, Some, None, Result, Ok, Err}
use Prim.Native.Nat.{ℕ, ◌<◌}
use native.Mathlib.Decide.{dec_lt}
use native.Mathlib.Omega.{arith}
use borrow.Author.Tests.{lt-ltb}
use lib.ListN.{length}
use Rattle.status.specs.Status.{done, letter_unbound}
use Rattle.frames.specs.declared.Way.{Way}
use Rattle.keys.specs.declared.HeldKeys.{HeldKeys}
use Rattle.tuning.specs.Tuning.{Action, start}
use Rattle.tuning.specs.Desk.{cents}
use Rattle.tuning.specs.State.{places, valid_state}
use Rattle.tuning.proofs.Lists.{both}
use Rattle.tuning.proofs.Held.{length_coded}
use Rattle.tuning.proofs.Laws.{start_valid, start_state_valid}
use Rattle.tables.specs.declared.Row.{Row as TableRow}
use Rattle.tables.specs.declared.Row.TheVariants.{Unused, Interval, Tone, System, Retuning, Logic, Harmony, Pattern}
use Rattle.tables.specs.Layout.{Tables, row_count, row_at, as_logic}
use Rattle.validity.specs.Valid.{valid_tables}
use Rattle.frames.specs.Frames.{Frame, bad, letter, key, dump, frame_of, move, letter_row}
use Rattle.frames.specs.declared.Decoded.{Decoded}
use Rattle.frames.specs.declared.Decoded.TheVariants.{Bad, Letter, Key, Dump, Move, LetterRow}
use Rattle.answers.specs.Answer.{smallest_buffer}
use Rattle.protocol.specs.declared.Desk.{Desk}
use Rattle.protocol.specs.Triggers.{Sought, itself, action_at, calls_as, called, struck, matching}
use Rattle.protocol.specs.Steps.{with_active, with_keys, by_action, call_on, desk_from, triggered, letter_step, pressed_in_turn, chord_on, if_moved, key_moved, move_step}
use Rattle.protocol.specs.Answers.{start_desk, Outcome, letter_outcome, move_outcome, letter_row_outcome, key_outcome, frame_outcome, active_right, valid_desk, answer_of}
use Rattle.protocol.specs.Inner.{tuned, step_of, Within}
use Rattle.protocol.specs.Streams.{Lent, desk_after}
use Rattle.protocol.proofs.Struck.{named}
use Rattle.protocol.proofs.Pressable.{named_within, struck_within}
use Rattle.protocol.proofs.Callable.{Whole, call_valid}
use Rattle.protocol.proofs.Ways.{tables_right, too_small, taken}

module _ (t : Tables) (v : valid_tables t ≡ true) where
  -- a state of sixty places whose numbers are in their ranges, and no active logic, or one of the tables
  pub record Right (d : Desk) : Type 0 where
    pub tuning : Whole d.tuning
    pub active : active_right t d.active ≡ true

  pub right_valid : (d : Desk) → Right d → valid_desk t d ≡ true
  right_valid d r = rw (v, r.tuning.0, r.active)

  pub start_right : Right start_desk
  start_right = record { tuning = (start_state_valid, length_coded (start cents) start_valid.most); active = refl }

  -- what is active after a search is a logic
  module _ (a : Option ℕ) (h : active_right t a ≡ true) (x : Sought) where
    called_right : (k : ℕ) (r : TableRow) → row_at t k ≡ r → k < row_count t → active_right t (calls_as a k (as_logic r)).active ≡ true
    called_right k Unused e l = h
    called_right k (Interval d) e l = h
    called_right k (Tone p) e l = h
    called_right k (System b P from to) e l = h
    called_right k (Retuning r from to) e l = h
    called_right k (Logic c s from to) e l = rw (lt-ltb k (row_count t) l, e)
    called_right k (Harmony needed n) e l = h
    called_right k Pattern e l = h

    pub struck_right : active_right t (struck t a x).active ≡ true
    unfolding struck
    struck_right = go (named t a x) refl
      where
        go : (o : Option ℕ) → named t a x ≡ o → active_right t (called t a o).active ≡ true
        go None e = h
        go (Some k) e = called_right k (row_at t k) refl (named_within t v a h x e)

  -- a desk stays right along calls of rows
  call_right : (house : ℕ) (d : Desk) (k : ℕ) → k < row_count t → Right d → Right (call_on t house d k).desk
  unfolding call_on
  call_right house d k h r = go (action_at t k) (call_valid t v d.tuning k h r.tuning)
    where
      go : (o : Option (Action cents)) → Whole (tuned d.tuning o).state → Right (by_action house d o).desk
      go None w = r
      go (Some c) w = record { tuning = w; active = r.active }

  pub desk_valid : (house : ℕ) (d : Desk) (ks : List ℕ) → Within t ks → Right d → Right (desk_from t house d ks)
  unfolding desk_from
  desk_valid house d [] h r = r
  desk_valid house d (k ∷ ks) h r = desk_valid house (call_on t house d k).desk ks h.1 (call_right house d k h.0 r)

  pub step_right : (d : Desk) → Right d → (house : ℕ) (x : Sought) (unfound : ℕ) → Right (triggered t house d x unfound).desk
  unfolding triggered
  step_right d r house x unfound =
      desk_valid house (with_active (struck t d.active x).active d) (struck t d.active x).calls (struck_within t v d.active r.active x)
      (record { tuning = r.tuning; active = struck_right d.active r.active x })

  pub move_right_step : (d : Desk) → Right d → (way : Way) (house k : ℕ) → Right (move_step t way house d k).desk
  unfolding move_step
  move_right_step d r way house k = go (key_moved way d.keys house k)
    where
      go : (m : Result HeldKeys ℕ) → Right (if_moved t house d m).desk
      go (Ok h) = step_right (with_keys h d) (record { tuning = r.tuning; active = r.active }) house (matching (chord_on (with_keys h d))) done
      go (Err n) = r

  pub presses_right : (d : Desk) → Right d → (house : ℕ) (cs : List ℕ) → Right (pressed_in_turn t house d cs).desk
  unfolding pressed_in_turn
  presses_right d r house [] = r
  presses_right d r house (c ∷ cs) = presses_right (letter_step t house d c).desk (step_right d r house (itself c) letter_unbound) house cs

  module _ (d : Desk) (r : Right d) where
    pub change_right_step : (f : Decoded) → Right (step_of t d f).desk
    change_right_step Bad = r
    change_right_step (Letter house c) = step_right d r house (itself c) letter_unbound
    change_right_step (Key house k) = r
    change_right_step (Dump house) = r
    change_right_step (Move way house k) = move_right_step d r way house k.0
    change_right_step (LetterRow house count) = r

    pub frame_right : (f : Frame) → Right (frame_outcome t d f).desk
    unfolding frame_outcome letter_outcome move_outcome letter_row_outcome key_outcome
    frame_right bad = r
    frame_right (letter house c) = step_right d r house (itself c) letter_unbound
    frame_right (key house k) = r
    frame_right (dump house) = r
    frame_right (move way house k) = move_right_step d r way house k
    frame_right (letter_row house cs) = presses_right d r house cs

    pub answer_right : (frame : List ℕ) (room : ℕ) → Right (answer_of t d frame room).desk
    answer_right frame room =
        elim (dec_lt room smallest_buffer) [
          | yes h ↦ subst (λ (o : Outcome). Right o.desk) (too_small t d frame room h) r
          | no h ↦ subst (λ (o : Outcome). Right o.desk) (taken t d frame room (omega arith) refl (right_valid d r)) (frame_right (frame_of frame))
        ]

  pub stream_right : (d : Desk) → Right d → (ls : List Lent) → Right (desk_after t d ls)
  unfolding desk_after
  stream_right d r [] = r
  stream_right d r (l ∷ ls) = stream_right (answer_of t d l.frame l.room).desk (answer_right d r l.frame l.room) ls

-- the same of a desk that is known to be valid
pub valid_right : (t : Tables) (d : Desk) (h : valid_desk t d ≡ true) → length d.tuning.tones ≡ places → Right t (tables_right t d h) d
valid_right t d h n =
    let a = both (valid_tables t && valid_state d.tuning) (active_right t d.active) h in
    record { tuning = ((both (valid_tables t) (valid_state d.tuning) a.0).1, n); active = a.1 }

-- what is called from a valid desk is one of the rows
pub desk_within : (t : Tables) (d : Desk) (h : valid_desk t d ≡ true) → length d.tuning.tones ≡ places → (x : Sought) → Within t (struck t d.active x).calls
desk_within t d h n x = struck_within t (tables_right t d h) d.active (valid_right t d h n).active x
