-- The tables of an accepted text call by a trigger what its declarations call. Assumes nothing.
use mathlib.Core.Path.{◌≡◌, refl, sym, ap, ap₂, ◌∙◌}
use mathlib.Core.Bool.{Bool, true, false}
use mathlib.Core.List.{List, [], ◌∷◌, map}
use Rattle.std.specs.Prelude.{Option, Some, None}
use Prim.Native.Nat.{ℕ, zero, suc, ◌+◌, ◌-◌, ◌≤◌, ◌<◌}
use native.Mathlib.Decide.{dec_lt}
use native.Mathlib.Omega.{arith}
use borrow.Author.Tests.{ne_eqb, le-leb, lt-leb}
use lib.ListN.{length, drop, drop_of_length-le, get_or-eq_default}
use lib.Seq.{drop-cons}
use Rattle.tables.specs.declared.Row.{Row}
use Rattle.tables.specs.Layout as tables
use Rattle.tables.specs.Layout.{row_count, row_at, harmony_base}
use Rattle.program.specs.Program.{Declaration, ratio, root, sequence, frequency, from, system, anchor, width, fresh_period, onward_period, tones, pattern, logic, harmony}
use Rattle.program.specs.Program.{Trigger, by_letter, by_harmony, Order, as_logic, as_harmony, Placed, Program}
use Rattle.program.specs.Meaning.{nothing, declaration_at, value_of}
use Rattle.program.specs.Allowed.{Each, FitTrigger, FitOrder, Fits, Allowed}
use Rattle.program.proofs.AcceptedText.{fits_at}
use Rattle.program.proofs.AllowedText.{accepted_allowed}
use Rattle.filling.specs.Tables.{trigger_code, row_of, tables_of}
use Rattle.mutabor.proofs.Filled.{tones_before, changes_before, orders_before}
use Rattle.mutabor.proofs.Decoded.{rows_counted, row_decoded, past_decoded, logic_triggers, logic_calls}
use Rattle.ascii.proofs.Between.{each, in_range_holds}
use Rattle.frames.specs.Frames.{first_letter, last_letter, is_capital, are_capitals, inside}
use Rattle.frames.proofs.Ranges.{frame_inside, letter_ranges, row_ranges}
use Rattle.protocol.specs.Triggers as protocol
use Rattle.protocol.specs.declared.Chord.{Chord}
use Rattle.protocol.specs.Triggers.{Sought, itself, matching, matches_as, answers_to, Struck, first_logic, first_order, order_of, calls_as, called, else_order, struck}
use Rattle.exact.specs.TextLetters.{harmony_matches, sought_by, Asked, passes, logic_in, order_in, order_by, active_order, calls_in, unless_none, else_active, struck_in, AllAsked, FramesAsk, LettersOfText}

-- of a row: whether it is a logic whose trigger passes, and what a call of it calls
abbrev tested_row : (ℕ → Bool) → Row → Bool
tested_row q r = protocol.passes q (tables.as_logic r)

abbrev calls_row : Option ℕ → ℕ → Row → Struck
calls_row a k r = calls_as a k (tables.as_logic r)

-- of a row: whether it is a harmony that matches
abbrev matched_row : Chord → Row → Bool
matched_row x r = matches_as x (tables.as_harmony r)

module _ (p : Program) where
  past_declared : (k : ℕ) → length p ≤ k → declaration_at p k ≡ sequence []
  past_declared k h = ap (λ (d : Placed). d.is) (get_or-eq_default p nothing h)

  -- ---- harmonies
  matches_of : (x : Chord) (k t c o : ℕ) (d : Declaration) → matched_row x (row_of (value_of p) k t c o d) ≡ harmony_matches x (as_harmony d)
  matches_of x k t c o (ratio a b) = refl
  matches_of x k t c o (root a b) = refl
  matches_of x k t c o (sequence ts) = refl
  matches_of x k t c o (frequency f) = refl
  matches_of x k t c o (from j ts) = refl
  matches_of x k t c o (system a l ts) = refl
  matches_of x k t c o (anchor m) = refl
  matches_of x k t c o (width m) = refl
  matches_of x k t c o (fresh_period ts) = refl
  matches_of x k t c o (onward_period ts) = refl
  matches_of x k t c o (tones l) = refl
  matches_of x k t c o (logic y s os) = refl
  matches_of x k t c o pattern = refl
  matches_of x k t c o (harmony ks) = refl

  matched_by : (x : Chord) (k : ℕ) → matched_row x (row_at (tables_of p) k) ≡ harmony_matches x (as_harmony (declaration_at p k))
  matched_by x k =
      elim (dec_lt k (length p)) [
        | yes h ↦ ap (matched_row x) (row_decoded p k h) ∙ matches_of x k (tones_before p k) (changes_before p k) (orders_before p k) (declaration_at p k)
        | no h ↦ rw (past_decoded p k (omega arith), past_declared k (omega arith)) refl
      ]

  -- ---- triggers: the code in the tables answers where the trigger does
  answers : (x : Sought) → Asked x → (c : Trigger) → FitTrigger p c → answers_to (tables_of p) x (trigger_code c) ≡ sought_by p x c
  answers (itself x) l (by_letter c) w = refl
  answers (itself x) l (by_harmony k) w = ne_eqb (harmony_base + k) x (λ e. omega (arith, l.most))
  answers (matching x) l (by_letter c) w = rw (lt-leb harmony_base c (omega (arith, w.most)))
  answers (matching x) l (by_harmony k) w =
      let n : harmony_base + k - harmony_base ≡ k = omega arith in
      rw (le-leb harmony_base (harmony_base + k) (omega arith), n) (matched_by x k)

-- a test of codes, and one of triggers that says the same of every trigger that the text may have
module _ (p : Program) (allowed : Allowed p) (r : ℕ → Bool) (q : Trigger → Bool) (same : (c : Trigger) → FitTrigger p c → r (trigger_code c) ≡ q c) where
  -- ---- logics
  is_logic_step : (k t c o : ℕ) (d : Declaration) → Fits p d → tested_row r (row_of (value_of p) k t c o d) ≡ passes q (as_logic d)
  is_logic_step k t c o (ratio a b) w = refl
  is_logic_step k t c o (root a b) w = refl
  is_logic_step k t c o (sequence ts) w = refl
  is_logic_step k t c o (frequency f) w = refl
  is_logic_step k t c o (from j ts) w = refl
  is_logic_step k t c o (system a l ts) w = refl
  is_logic_step k t c o (anchor m) w = refl
  is_logic_step k t c o (width m) w = refl
  is_logic_step k t c o (fresh_period ts) w = refl
  is_logic_step k t c o (onward_period ts) w = refl
  is_logic_step k t c o (tones l) w = refl
  is_logic_step k t c o (logic x s os) w = same x w.trigger
  is_logic_step k t c o pattern w = refl
  is_logic_step k t c o (harmony ks) w = refl

  logics : (i n : ℕ) → i + n ≡ length p → first_logic (tables_of p).rows r i n ≡ logic_in q i (drop i p)
  unfolding first_logic logic_in
  logics i zero e = ap (logic_in q i) (sym (drop_of_length-le p {i = i} (omega arith)))
  logics i (suc n) e =
      let l : i < length p = omega arith in
      let here =
      ap (tested_row r) (row_decoded p i l)
      ∙ is_logic_step i (tones_before p i) (changes_before p i) (orders_before p i) (declaration_at p i) (fits_at allowed i l) in
      ap₂ (λ (b : Bool) (o : Option ℕ). elim b [ true ↦ Some i | false ↦ o ]) here (logics (suc i) n (omega arith))
      ∙ ap (logic_in q i) (sym (drop-cons p i nothing l))

  -- ---- orders
  first_order_step : (os : List Order) → Each (FitOrder p) os
      → first_order r (map (λ (x : Order). trigger_code x.trigger) os) (map (λ (x : Order). x.calls) os) ≡ order_in q os
  unfolding first_order order_in
  first_order_step [] w = refl
  first_order_step (o ∷ os) w =
      ap₂ (λ (b : Bool) (x : Option ℕ). elim b [ true ↦ Some o.calls | false ↦ x ]) (same o.trigger w.0.trigger) (first_order_step os w.1)

  orders_of_step : (k : ℕ) → k < length p → (d : Declaration) → declaration_at p k ≡ d → Fits p d
      → protocol.order_by (tables_of p) r (row_of (value_of p) k (tones_before p k) (changes_before p k) (orders_before p k) d) ≡ order_by q (as_logic d)
  unfolding order_in
  orders_of_step k h (ratio a b) e w = refl
  orders_of_step k h (root a b) e w = refl
  orders_of_step k h (sequence ts) e w = refl
  orders_of_step k h (frequency f) e w = refl
  orders_of_step k h (from j ts) e w = refl
  orders_of_step k h (system a l ts) e w = refl
  orders_of_step k h (anchor m) e w = refl
  orders_of_step k h (width m) e w = refl
  orders_of_step k h (fresh_period ts) e w = refl
  orders_of_step k h (onward_period ts) e w = refl
  orders_of_step k h (tones l) e w = refl
  orders_of_step k h (logic c s os) e w = rw (logic_triggers p k h c s os e, logic_calls p k h c s os e) (first_order_step os w.orders)
  orders_of_step k h pattern e w = refl
  orders_of_step k h (harmony ks) e w = refl

  order_of_step : (a : Option ℕ) → order_of (tables_of p) r a ≡ active_order p q a
  unfolding order_in
  order_of_step None = refl
  order_of_step (Some i) =
      elim (dec_lt i (length p)) [
        | yes h ↦ ap (protocol.order_by (tables_of p) r) (row_decoded p i h) ∙ orders_of_step i h (declaration_at p i) refl (fits_at allowed i h)
        | no h ↦ rw (past_decoded p i (omega arith), past_declared p i (omega arith)) refl
      ]

  by_logic : (a : Option ℕ) (o : Option ℕ) → else_order (tables_of p) a r o ≡ else_active p a q o
  by_logic a None = order_of_step a
  by_logic a (Some i) = refl

  found : (a : Option ℕ) → else_order (tables_of p) a r (first_logic (tables_of p).rows r 0 (row_count (tables_of p))) ≡ else_active p a q (logic_in q 0 p)
  found a =
      let n = rows_counted p in
      let first : first_logic (tables_of p).rows r 0 (row_count (tables_of p)) ≡ logic_in q 0 p = rw n (logics 0 (length p) (omega arith)) in
      ap (else_order (tables_of p) a r) first ∙ by_logic a (logic_in q 0 p)

module _ (p : Program) where
  -- ---- what is called
  calls_of_step : (a : Option ℕ) (k t c o : ℕ) (d : Declaration) → calls_row a k (row_of (value_of p) k t c o d) ≡ calls_in a k (as_logic d)
  calls_of_step a k t c o (ratio x b) = refl
  calls_of_step a k t c o (root x b) = refl
  calls_of_step a k t c o (sequence ts) = refl
  calls_of_step a k t c o (frequency f) = refl
  calls_of_step a k t c o (from j ts) = refl
  calls_of_step a k t c o (system x l ts) = refl
  calls_of_step a k t c o (anchor m) = refl
  calls_of_step a k t c o (width m) = refl
  calls_of_step a k t c o (fresh_period ts) = refl
  calls_of_step a k t c o (onward_period ts) = refl
  calls_of_step a k t c o (tones l) = refl
  calls_of_step a k t c o (logic x None os) = refl
  calls_of_step a k t c o (logic x (Some j) os) = refl
  calls_of_step a k t c o pattern = refl
  calls_of_step a k t c o (harmony ks) = refl

  called_by_step : (a : Option ℕ) (k : ℕ) → calls_row a k (row_at (tables_of p) k) ≡ calls_in a k (as_logic (declaration_at p k))
  called_by_step a k =
      elim (dec_lt k (length p)) [
        | yes h ↦ ap (calls_row a k) (row_decoded p k h) ∙ calls_of_step a k (tones_before p k) (changes_before p k) (orders_before p k) (declaration_at p k)
        | no h ↦ rw (past_decoded p k (omega arith), past_declared p k (omega arith)) refl
      ]

  by_name : (a : Option ℕ) (o : Option ℕ) → called (tables_of p) a o ≡ unless_none p a o
  by_name a None = refl
  by_name a (Some k) = called_by_step a k

  struck_here : Allowed p → (a : Option ℕ) (x : Sought) → Asked x → struck (tables_of p) a x ≡ struck_in p a (sought_by p x)
  unfolding struck struck_in
  struck_here allowed a x l =
      let q = sought_by p x in
      ap (called (tables_of p) a) (found p allowed (answers_to (tables_of p) x) q (answers p x l) a) ∙ by_name a (else_active p a q (logic_in q 0 p))

all_asked : (cs : List ℕ) → are_capitals cs ≡ true → AllAsked cs
unfolding are_capitals
all_asked [] e = tt
all_asked (c ∷ cs) e =
    let a = each (is_capital c) (are_capitals cs) e in
    let r = in_range_holds first_letter last_letter c a.0 in
    (record { least = r.0; most = r.1 }, all_asked cs a.1)

pub frames_ask : FramesAsk
unfolding FramesAsk
frames_ask line = record {
  one = λ house c e.
      let r = letter_ranges house c (sym (ap inside e) ∙ frame_inside line) in
      record { least = r.2; most = r.3 };
  row = λ house cs e. all_asked cs (row_ranges house cs (sym (ap inside e) ∙ frame_inside line)).capitals;
}

pub letters_of_text : LettersOfText
unfolding LettersOfText
letters_of_text text p e a x l = struck_here p (accepted_allowed text p e) a x l
