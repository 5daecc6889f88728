-- The desk and the book along a stream, for any tables whose rows call what the program's declarations call: what is kept from call to call.
use mathlib.Core.Path.{◌≡◌, refl, sym, ap, subst}
use mathlib.Core.Bool.{Bool, true, false, cond}
use mathlib.Core.List.{List, [], ◌∷◌, ◌++◌}
use Rattle.std.specs.Prelude.{Option, Some, None, Result, Ok, Err}
use Prim.Native.Nat.{ℕ}
use lib.Dec.{eqb}
use lib.ListN.{length}
use Rattle.tuning.specs.Tuning.{Tuning, Action}
use Rattle.tuning.specs.Desk.{cents, Called, called}
use Rattle.tuning.specs.State.{places, held, coded, valid_state}
use Rattle.tuning.specs.declared.State.{State}
use Rattle.tuning.proofs.Held.{ValidTuning, held_coded, length_coded, valid_coded, valid_held}
use Rattle.tuning.proofs.Laws.{ValidAction, valid_stays}
use Rattle.tables.specs.Layout.{Tables}
use Rattle.program.specs.Program.{Program}
use Rattle.keys.specs.declared.HeldKeys.{HeldKeys}
use Rattle.frames.specs.declared.Way.{Way}
use Rattle.frames.specs.Frames.{Frame, bad, letter, key, dump, move, letter_row, frame_of}
use Rattle.status.specs.Status.{done, letter_unbound}
use Rattle.protocol.specs.declared.Desk.{Desk}
use Rattle.protocol.specs.Triggers.{Sought, itself, matching, action_at, struck}
use Rattle.protocol.specs.Steps.{with_active, with_keys, Made, by_action, call_on, desk_from, made_from, Step, triggered, letter_step, pressed_in_turn, chord_on, if_moved, key_moved, move_step}
use Rattle.protocol.specs.Answers.{Outcome, letter_outcome, move_outcome, letter_row_outcome, key_outcome, frame_outcome, answer_of}
use Rattle.protocol.specs.Streams.{Lent, desk_after, made_in}
use Rattle.protocol.proofs.Ways.{by_outcome}
use Rattle.exact.specs.Book as book
use Rattle.exact.specs.Book.{Declared, entries, book_from}
use Rattle.exact.specs.Actions.{declared_in, book_action}
use Rattle.exact.specs.Claim.{if_called, fed_by}
use Rattle.exact.proofs.Follows.{Agree, ActionBoth}
use Rattle.exact.proofs.Measured.{measure_follows}
use Rattle.exact.proofs.Calls.{call_follows, book_append}

-- ---- what the book is fed, in parts

fed_append : (p : Program) (l m : List Made) → fed_by p (l ++ m) ≡ fed_by p l ++ fed_by p m
unfolding fed_by
fed_append p [] m = refl
fed_append p (x ∷ l) m = go (book_action p x.called) (fed_append p l m)
  where
    go : (o : Option (Action entries)) → fed_by p (l ++ m) ≡ fed_by p l ++ fed_by p m
        → if_called o x.number (fed_by p (l ++ m)) ≡ if_called o x.number (fed_by p l) ++ fed_by p m
    go None e = e
    go (Some c) e = ap (λ (r : List book.Made). record { call = c; number = x.number } ∷ r) e

fed_first : (b : Tuning entries) (o : Option (Action entries)) (n : ℕ) (rest : List book.Made)
    → book_from (book_from b (if_called o n [])) rest ≡ book_from b (if_called o n rest)
unfolding book_from
fed_first b None n rest = refl
fed_first b (Some c) n rest = refl

-- ---- one call

-- what a row and the book call, on a state: nothing, or the call of an action that keeps states valid and that the book works out alike
pub data Matches (ds : List (Option Declared)) (s : Tuning cents) : Option (Action cents) → Option (Action entries) → Type 0 where
  no_call_holds : Matches ds s None None
  one_call : {c d : Action cents} {b : Action entries} → called s c ≡ called s d → ValidAction d → ActionBoth (measure_follows ds) b d
      → Matches ds s (Some c) (Some b)

-- the state is valid, with all its places, and each of its tones is where the book's entry is measured
pub record Kept (ds : List (Option Declared)) (s : State) (b : Tuning entries) : Type 0 where
  pub valid : valid_state s ≡ true
  pub full : length s.tones ≡ places
  pub agree : Agree (measure_follows ds) b (held s)

module _ (ds : List (Option Declared)) where
  pub coded_kept : (s : Tuning cents) (b : Tuning entries) → ValidTuning s → Agree (measure_follows ds) b s → Kept ds (coded s) b
  coded_kept s b v h = record { valid = valid_coded s v; full = length_coded s v.most; agree = rw (held_coded s) h }

  held_valid : (s : State) (b : Tuning entries) → Kept ds s b → ValidTuning (held s)
  held_valid s b h = valid_held s h.valid h.full

  call_kept : (house : ℕ) (desk : Desk) (b : Tuning entries) → Kept ds desk.tuning b → {x : Option (Action cents)} {y : Option (Action entries)}
      → Matches ds (held desk.tuning) x y
      → let r = by_action house desk x in Kept ds r.desk.tuning (book_from b (if_called y r.number []))
  unfolding book_from
  call_kept house desk b h no_call_holds = h
  call_kept house desk b h (one_call {c} {d} {b = a} e v k) =
      let s = desk.tuning in
      subst (λ (r : Called). Kept ds (coded r.state) (book_from b (record { call = a; number = r.number } ∷ []))) (sym e)
      (coded_kept (called (held s) d).state (book_from b (record { call = a; number = (called (held s) d).number } ∷ []))
      (valid_stays (held s) (held_valid s b h) d v) (call_follows ds (held s) b h.agree k))

-- ---- calls, frames, streams

-- every row of the tables calls what the declaration of its number calls
abbrev pub AllMatch : Tables → Program → Type 0
AllMatch t p = (s : Tuning cents) → ValidTuning s → (k : ℕ) → Matches (declared_in p) s (action_at t k) (book_action p k)

module _ (t : Tables) (p : Program) (matches : AllMatch t p) where
  calls_kept : (house : ℕ) (ks : List ℕ) (d : Desk) (b : Tuning entries) → Kept (declared_in p) d.tuning b
      → Kept (declared_in p) (desk_from t house d ks).tuning (book_from b (fed_by p (made_from t house d ks)))
  unfolding desk_from made_from call_on fed_by book_from
  calls_kept house [] d b h = h
  calls_kept house (k ∷ ks) d b h =
      let r = call_on t house d k in
      rw (← (fed_first b (book_action p k) r.number (fed_by p (made_from t house r.desk ks))))
      (calls_kept house ks r.desk (book_from b (if_called (book_action p k) r.number []))
      (call_kept (declared_in p) house d b h (matches (held d.tuning) (held_valid (declared_in p) d.tuning b h) k)))

  -- what is kept after a step
  abbrev Leaves : Tuning entries → Step → Type 0
  Leaves b s = Kept (declared_in p) s.desk.tuning (book_from b (fed_by p s.made))

  step_kept : (house : ℕ) (d : Desk) (x : Sought) (unfound : ℕ) (b : Tuning entries) → Kept (declared_in p) d.tuning b
      → Leaves b (triggered t house d x unfound)
  unfolding triggered
  step_kept house d x unfound b h = let z = struck t d.active x in calls_kept house z.calls (with_active z.active d) b h

  -- a key that goes down or up: the book knows no held keys, and follows the calls that were made
  move_kept : (way : Way) (house : ℕ) (d : Desk) (k : ℕ) (b : Tuning entries) → Kept (declared_in p) d.tuning b → Leaves b (move_step t way house d k)
  unfolding move_step fed_by book_from
  move_kept way house d k b h = go (key_moved way d.keys house k)
    where
      go : (m : Result HeldKeys ℕ) → Leaves b (if_moved t house d m)
      go (Ok ks) = step_kept house (with_keys ks d) (matching (chord_on (with_keys ks d))) done b h
      go (Err _) = h

  -- a row of letters: the book follows all calls of its presses, in their order
  presses_kept : (house : ℕ) (cs : List ℕ) (d : Desk) (b : Tuning entries) → Kept (declared_in p) d.tuning b
      → let r = pressed_in_turn t house d cs in Kept (declared_in p) r.desk.tuning (book_from b (fed_by p r.made))
  unfolding pressed_in_turn fed_by book_from
  presses_kept house [] d b h = h
  presses_kept house (c ∷ cs) d b h =
      let s = letter_step t house d c in
      let rest = (pressed_in_turn t house s.desk cs).made in
      rw (fed_append p s.made rest, book_append b (fed_by p s.made) (fed_by p rest))
      (presses_kept house cs s.desk (book_from b (fed_by p s.made)) (step_kept house d (itself c) letter_unbound b h))

  -- what is kept after a frame
  abbrev After : Tuning entries → Outcome → Type 0
  After b o = Kept (declared_in p) o.desk.tuning (book_from b (fed_by p o.made))

  frame_kept : (d : Desk) (b : Tuning entries) → Kept (declared_in p) d.tuning b → (f : Frame) → After b (frame_outcome t d f)
  unfolding frame_outcome letter_outcome move_outcome letter_row_outcome key_outcome fed_by book_from
  frame_kept d b h bad = h
  frame_kept d b h (letter house c) = step_kept house d (itself c) letter_unbound b h
  frame_kept d b h (key house k) = h
  frame_kept d b h (dump house) = h
  frame_kept d b h (move way house k) = move_kept way house d k b h
  frame_kept d b h (letter_row house cs) = presses_kept house cs d b h

  answer_kept : (d : Desk) (b : Tuning entries) → Kept (declared_in p) d.tuning b → (frame : List ℕ) (room : ℕ) → After b (answer_of t d frame room)
  unfolding fed_by book_from
  answer_kept d b h frame room = by_outcome t d frame room (After b) h (λ e. h) (λ e. frame_kept d b h (frame_of frame))

  pub stream_kept : (stream : List Lent) (d : Desk) (b : Tuning entries) → Kept (declared_in p) d.tuning b
      → Kept (declared_in p) (desk_after t d stream).tuning (book_from b (fed_by p (made_in t d stream)))
  unfolding desk_after made_in fed_by book_from
  stream_kept [] d b h = h
  stream_kept (l ∷ ls) d b h =
      let o = answer_of t d l.frame l.room in
      let rest = made_in t o.desk ls in
      rw (fed_append p o.made rest, book_append b (fed_by p o.made) (fed_by p rest))
      (stream_kept ls o.desk (book_from b (fed_by p o.made)) (answer_kept d b h l.frame l.room))
