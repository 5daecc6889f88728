-- What is not taken leaves the state: of a call, of a press, and of a frame. Assumes nothing.
use mathlib.Core.Path.{◌≡◌, refl, sym, ap, ◌∙◌, subst}
use mathlib.Core.Logic.{◌≢◌}
use mathlib.Core.Bool.{true}
use mathlib.Core.List.{List, [], ◌∷◌, ◌++◌}
use Rattle.std.specs.Prelude.{Option, Some, None, Result, Ok, Err}
use Prim.Native.Nat.{ℕ, zero, suc}
use lib.ListN.{length}
use Rattle.status.specs.Status.{done, letter_unbound}
use Rattle.tuning.specs.Tuning.{Action}
use Rattle.tuning.specs.Desk.{cents}
use Rattle.tuning.specs.State.{places, held, coded, valid_state}
use Rattle.tuning.proofs.Held.{coded_held}
use Rattle.tuning.proofs.Laws.{refused_keeps}
use Rattle.tables.specs.Layout.{Tables, AsLogic, no_logic_holds, a_logic, as_logic, row_at}
use Rattle.frames.specs.Frames.{Frame, bad, letter, key, dump, move, letter_row, frame_of}
use Rattle.frames.specs.declared.Way.{Way}
use Rattle.keys.specs.declared.HeldKeys.{HeldKeys}
use Rattle.protocol.specs.declared.Desk.{Desk}
use Rattle.protocol.specs.Triggers.{Sought, itself, matching, action_at, calls_as, called, struck}
use Rattle.protocol.specs.Steps.{with_active, with_keys, Made, by_action, call_on, desk_from, made_from, last_number, triggered, letter_step, pressed_in_turn, chord_on, if_moved, key_moved, move_step}
use Rattle.protocol.specs.Answers.{Outcome, letter_outcome, move_outcome, letter_row_outcome, key_outcome, frame_outcome}
use Rattle.protocol.specs.Kept.{CallKeeps, PressKeeps, NoneTaken, FrameKeeps}
use Rattle.protocol.proofs.Struck.{named}
use Rattle.protocol.proofs.Ways.{by_outcome, state_right}
use Rattle.protocol.proofs.Callable.{Whole}

one_kept : (house : ℕ) (d : Desk) → valid_state d.tuning ≡ true → length d.tuning.tones ≡ places → (o : Option (Action cents))
    → (by_action house d o).number ≢ 0 → (by_action house d o).desk.tuning ≡ d.tuning
one_kept house d v n None h = refl
one_kept house d v n (Some c) h = ap coded (refused_keeps (held d.tuning) c h) ∙ coded_held d.tuning v n

pub call_keeps : CallKeeps
unfolding CallKeeps call_on
call_keeps t house d v n k h = one_kept house d v n (action_at t k) h

module _ (t : Tables) (d : Desk) (n : length d.tuning.tones ≡ places) (v : valid_state d.tuning ≡ true) where
  -- a step makes at most one call
  module _ (house unfound : ℕ) where
    abbrev Keeps : Option ℕ → List ℕ → Type 0
    Keeps a ks = let e = with_active a d in last_number unfound (made_from t house e ks) ≢ 0 → (desk_from t house e ks).tuning ≡ d.tuning

    call_kept : (a : Option ℕ) (k : ℕ) → Keeps a (k ∷ [])
    unfolding desk_from made_from call_on
    call_kept a k h = one_kept house (with_active a d) v n (action_at t k) h

    no_call_holds : (a : Option ℕ) → Keeps a []
    unfolding desk_from
    no_call_holds a h = refl

    logic_kept : (k : ℕ) (l : AsLogic) → let z = calls_as d.active k l in Keeps z.active z.calls
    logic_kept k no_logic_holds = call_kept d.active k
    logic_kept k (a_logic c zero from to) = call_kept (Some k) k
    logic_kept k (a_logic c (suc j) from to) = call_kept (Some k) j

    called_kept : (o : Option ℕ) → let z = called t d.active o in Keeps z.active z.calls
    called_kept None = no_call_holds d.active
    called_kept (Some k) = logic_kept k (as_logic (row_at t k))

    step_kept : (x : Sought) → (triggered t house d x unfound).number ≢ 0 → (triggered t house d x unfound).desk.tuning ≡ d.tuning
    unfolding triggered struck
    step_kept x = called_kept (named t d.active x)

-- a key that goes down or up
move_kept : (t : Tables) (d : Desk) → length d.tuning.tones ≡ places → valid_state d.tuning ≡ true → (way : Way) (house k : ℕ)
    → (move_step t way house d k).number ≢ 0 → (move_step t way house d k).desk.tuning ≡ d.tuning
unfolding move_step
move_kept t d n v way house k = go (key_moved way d.keys house k)
  where
    go : (m : Result HeldKeys ℕ) → (if_moved t house d m).number ≢ 0 → (if_moved t house d m).desk.tuning ≡ d.tuning
    go (Ok h) = step_kept t (with_keys h d) n v house done (matching (chord_on (with_keys h d)))
    go (Err _) = λ e. refl

pub press_keeps : PressKeeps
unfolding PressKeeps
press_keeps t house d v n = record {
  letter = λ c. step_kept t d n v house letter_unbound (itself c);
  move = λ way k. move_kept t d n v way house k;
}

-- ---- a frame of whose calls none is taken

none_first : (l m : List Made) → NoneTaken (l ++ m) → NoneTaken l × NoneTaken m
none_first [] m h = (tt, h)
none_first (x ∷ l) m h = let r = none_first l m h.1 in ((h.0, r.0), r.1)

module _ (t : Tables) where
  calls_untaken : (house : ℕ) (d : Desk) → Whole d.tuning → (ks : List ℕ) → NoneTaken (made_from t house d ks) → (desk_from t house d ks).tuning ≡ d.tuning
  unfolding desk_from made_from CallKeeps
  calls_untaken house d w [] h = refl
  calls_untaken house d w (k ∷ ks) h =
      let e = call_keeps t house d w.0 w.1 k h.0 in
      calls_untaken house (call_on t house d k).desk (subst Whole (sym e) w) ks h.1 ∙ e

  step_untaken : (house : ℕ) (d : Desk) → Whole d.tuning → (x : Sought) (unfound : ℕ) → NoneTaken (triggered t house d x unfound).made
      → (triggered t house d x unfound).desk.tuning ≡ d.tuning
  unfolding triggered
  step_untaken house d w x unfound h = let z = struck t d.active x in calls_untaken house (with_active z.active d) w z.calls h

  move_untaken : (way : Way) (house : ℕ) (d : Desk) → Whole d.tuning → (k : ℕ) → NoneTaken (move_step t way house d k).made → (move_step t way house d k).desk.tuning ≡ d.tuning
  unfolding move_step
  move_untaken way house d w k = go (key_moved way d.keys house k)
    where
      go : (m : Result HeldKeys ℕ) → NoneTaken (if_moved t house d m).made → (if_moved t house d m).desk.tuning ≡ d.tuning
      go (Ok h) = step_untaken house (with_keys h d) w (matching (chord_on (with_keys h d))) done
      go (Err _) = λ e. refl

  presses_untaken : (house : ℕ) (d : Desk) → Whole d.tuning → (cs : List ℕ) → NoneTaken (pressed_in_turn t house d cs).made
      → (pressed_in_turn t house d cs).desk.tuning ≡ d.tuning
  unfolding pressed_in_turn
  presses_untaken house d w [] h = refl
  presses_untaken house d w (c ∷ cs) h =
      let s = letter_step t house d c in
      let r = none_first s.made (pressed_in_turn t house s.desk cs).made h in
      let e = step_untaken house d w (itself c) letter_unbound r.0 in
      presses_untaken house s.desk (subst Whole (sym e) w) cs r.1 ∙ e

  frame_untaken : (d : Desk) → Whole d.tuning → (f : Frame) → NoneTaken (frame_outcome t d f).made → (frame_outcome t d f).desk.tuning ≡ d.tuning
  unfolding frame_outcome letter_outcome move_outcome letter_row_outcome key_outcome
  frame_untaken d w bad h = refl
  frame_untaken d w (letter house c) h = step_untaken house d w (itself c) letter_unbound h
  frame_untaken d w (key house k) h = refl
  frame_untaken d w (dump house) h = refl
  frame_untaken d w (move way house k) h = move_untaken way house d w k h
  frame_untaken d w (letter_row house cs) h = presses_untaken house d w cs h

pub frame_keeps : FrameKeeps
unfolding FrameKeeps
frame_keeps t d n frame room =
    by_outcome t d frame room (λ (o : Outcome). NoneTaken o.made → o.desk.tuning ≡ d.tuning) (λ h. refl) (λ e h. refl)
    (λ e. frame_untaken t d (state_right t d e, n) (frame_of frame))
