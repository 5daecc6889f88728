-- The tables of a program that keeps "Numbers allowed" and whose values are in range are valid: no frame is answered 23 on their account.
-- Assumes nothing.
use mathlib.Core.Path.{◌≡◌, refl, sym, ap, ◌∙◌, subst}
use mathlib.Core.Bool.{Bool, true, not, ◌&&◌, false}
use mathlib.Core.List.{List, [], ◌∷◌, map, flat_map}
use Rattle.std.specs.Prelude.{Option, Some, None, Ok}
use Prim.Native.Nat.{ℕ, ◌+◌, ◌*◌, ◌-◌, ◌<◌}
use native.Mathlib.Omega.{arith}
use borrow.Author.Tests.{le-leb, lt-ltb}
use lib.IntN.{ℤ, pos, ◌+ℤ◌}
use lib.ListN.{length, length-map, get_or}
use Rattle.names.specs.Parts as parts
use Rattle.names.specs.Names.{meant}
use Rattle.values.proofs.Cases.{clash}
use Rattle.tuning.specs.Desk.{beyond}
use Rattle.tuning.specs.State.{places, heard}
use Rattle.tuning.specs.declared.Tone.{Tone}
use Rattle.tuning.specs.declared.ToneChange.{ToneChange}
use Rattle.tuning.proofs.Lists.{every}
use Rattle.tables.specs.declared.Counts.{Counts}
use Rattle.tables.specs.declared.Row.{Row}
use Rattle.tables.specs.declared.Row.TheVariants.{Unused}
use Rattle.tables.specs.Layout.{Tables, used, row_width, most_rows, most_tones, most_changes, most_orders, harmony_base, all_sets, row_at, written_all, sounding_of, pitch_of, change_code, change_number}
use Rattle.tables.proofs.Lists.{full_length}
use Rattle.tables.proofs.Stored.{written_length}
use Rattle.validity.specs.Valid.{is_sum, is_capital, is_system_or_retuning, is_called, refers_to, is_start, is_harmony, is_trigger, declaration_right, valid_tables}
use Rattle.validity.proofs.Sizes.{Sizes}
use Rattle.validity.proofs.Laid.{valid_is, row_laid, rows_laid, declarations_laid, tones_laid, changes_laid, orders_laid, zeros_after, noughts_after}
use Rattle.program.specs.Program.{Declaration, ratio, root, sequence, frequency, from, system, anchor, width, fresh_period, onward_period, tones, pattern, logic, harmony, Placed, Program, Position, mute, kept, named, Trigger, by_letter, by_harmony, Order}
use Rattle.sets.proofs.Tests.{either_right}
use Rattle.harmonies.specs.Harmonies.{harmony_of}
use Rattle.program.specs.Meaning.{declaration_at, value_of, valued}
use Rattle.program.specs.Allowed.{is_pattern, kind_of, is_kind, Each, FitSystemPosition, FitStart, FitTrigger, FitOrder, Fits, Allowed}
use Rattle.program.specs.Text.{accepted, read_text}
use Rattle.program.proofs.AcceptedText.{steps, fits_at, value_tone, value_period}
use Rattle.filling.specs.Tables.{sum_of, tone_of, tones_of, change_of, changes_of, start_code, trigger_code, row_of, orders_of, laid_out, tables_of}
use Rattle.filling.specs.Inner.{trigger_of, call_of}
use Rattle.filling.proofs.Naming.{harmony_small}
use Rattle.mutabor.proofs.Lists.{every_append, every_within, stored_length, stored_at}
use Rattle.mutabor.proofs.Filled.{gathered, part_stands, only_systems, only_retunings, only_logics, filled, filled_lists, tones_before, changes_before, orders_before, row_for, row_at_step}
use Rattle.mutabor.proofs.Counted.{room, kinds_few, parts_laid}
use Rattle.mutabor.proofs.InRange.{sum_right, key_right, anchor_right, width_right, letter_right, part_right}

-- ---- references: the kinds that a name may mean are those of the rows that it may refer to

module _ (value : ℕ → ℤ) (i t c o : ℕ) where
  -- what a start may mean, what an order may mean, and what a trigger may mean; a retuning whose n is a placeholder is not called
  kind_row : (d : Declaration) → is_pattern d ≡ false
      → (is_kind (kind_of d) (meant parts.start) ≡ is_system_or_retuning (row_of value i t c o d)) × (is_kind (kind_of d) (meant parts.order) ≡ is_called (row_of value i t c o d))
  kind_row (ratio a b) e = (refl, refl)
  kind_row (root a b) e = (refl, refl)
  kind_row (sequence ts) e = (refl, refl)
  kind_row (frequency f) e = (refl, refl)
  kind_row (from k ts) e = (refl, refl)
  kind_row (system a l ts) e = (refl, refl)
  kind_row (anchor m) e = (refl, refl)
  kind_row (width m) e = (refl, refl)
  kind_row (fresh_period ts) e = (refl, refl)
  kind_row (onward_period ts) e = (refl, refl)
  kind_row (tones l) e = (refl, refl)
  kind_row pattern e = absurd (clash refl e)
  kind_row (logic x s os) e = (refl, refl)
  kind_row (harmony ks) e = (refl, refl)

  trigger_row : (d : Declaration) → is_kind (kind_of d) (meant parts.trigger) ≡ is_harmony (row_of value i t c o d)
  trigger_row (ratio a b) = refl
  trigger_row (root a b) = refl
  trigger_row (sequence ts) = refl
  trigger_row (frequency f) = refl
  trigger_row (from k ts) = refl
  trigger_row (system a l ts) = refl
  trigger_row (anchor m) = refl
  trigger_row (width m) = refl
  trigger_row (fresh_period ts) = refl
  trigger_row (onward_period ts) = refl
  trigger_row (tones l) = refl
  trigger_row pattern = refl
  trigger_row (logic x s os) = refl
  trigger_row (harmony ks) = refl

-- ---- tables that are laid out

module _ (p : Program) (a : Allowed p) (v : valued p ≡ Ok tt) where
  abbrev value : ℕ → ℤ
  value = value_of p

  abbrev laid : Tables
  laid = laid_out (filled p)

  abbrev counts : Counts
  counts = used laid

  -- ---- rows

  row_decoded : (k : ℕ) → k < length p → row_at laid k ≡ row_for p k
  row_decoded k h = row_laid laid (row_width * most_rows) (filled p).rows refl k (rw (filled_lists p).rows h) ∙ row_at_step p k h

  refers_right : (is : Row → Bool) (k : ℕ) → k < length p → is (row_for p k) ≡ true → refers_to is laid k ≡ true
  refers_right is k h w = rw ((filled_lists p).rows, lt-ltb k (length p) h, row_decoded k h) w

  start_right : (s : Option ℕ) → FitStart p s → is_start laid (start_code s) ≡ true
  start_right None h = refl
  start_right (Some k) h =
      let w = kind_row value k (tones_before p k) (changes_before p k) (orders_before p k) (declaration_at p k) h.whole in
      refers_right is_system_or_retuning k h.refers.within (sym w.0 ∙ h.refers.kind)

  trigger_right : (x : Trigger) → FitTrigger p x → is_trigger laid (trigger_code x) ≡ true
  trigger_right (by_letter c) h = rw (letter_right c h)
  trigger_right (by_harmony k) h =
      let w = trigger_row value k (tones_before p k) (changes_before p k) (orders_before p k) (declaration_at p k) in
      let e : harmony_base + k - harmony_base ≡ k = omega arith in
      either_right (is_capital (harmony_base + k)) _ (rw (le-leb harmony_base (harmony_base + k) (omega arith), e) (refers_right is_harmony k h.within (sym w ∙ h.kind)))

  row_right : (k : ℕ) → k < length p → declaration_right laid (row_for p k) ≡ true
  unfolding declaration_right
  row_right k h = by_declaration (declaration_at p k) refl (fits_at a k h)
    where
      by_declaration : (d : Declaration) → declaration_at p k ≡ d → Fits p d
          → declaration_right laid (row_of value k (tones_before p k) (changes_before p k) (orders_before p k) d) ≡ true
      by_declaration (ratio x y) e fit = value_tone p v k h
      by_declaration (root x y) e fit = value_tone p v k h
      by_declaration (sequence ts) e fit = value_tone p v k h
      by_declaration (frequency f) e fit = value_tone p v k h
      by_declaration (from j ts) e fit = value_tone p v k h
      by_declaration (system b l ts) e fit =
          let n = fit.positions in
          rw (key_right b fit.anchor, value_period p v k h e, part_right 1 places (tones_before p k) (length l) n.some n.few)
      by_declaration (anchor m) e fit = rw (anchor_right m fit)
      by_declaration (width m) e fit = rw (width_right m fit)
      by_declaration (fresh_period ts) e fit = rw (sum_right (sum_of value ts))
      by_declaration (onward_period ts) e fit = rw (sum_right (sum_of value ts))
      by_declaration (tones l) e fit = let n = fit.positions in part_right 1 places (changes_before p k) (length l) n.some n.few
      by_declaration pattern e fit = refl
      by_declaration (logic c s os) e fit =
          let t = part_stands orders_of p k h (filled_lists p).orders (ap orders_of e) refl in
          rw (
            trigger_right c fit.trigger,
            start_right s fit.start,
            part_right 0 most_orders (orders_before p k) (length os) (omega arith) (omega (arith, t.0, (room p a).orders)),
          )
      by_declaration (harmony ks) e fit =
          let y = harmony_of ks in
          let small = harmony_small ks fit.each in
          rw (lt-ltb y.needed all_sets small.needed, lt-ltb y.named all_sets small.named)

  -- ---- tones, changes and orders

  gathered_every : {A : Type 0} (q : A → Bool) (f : Declaration → List A) → ((d : Declaration) → Fits p d → every q (f d) ≡ true)
      → (ds : Program) → Each (λ (d : Placed). Fits p d.is) ds → every q (gathered f ds) ≡ true
  unfolding every flat_map
  gathered_every q f one [] fit = refl
  gathered_every q f one (d ∷ ds) fit = every_append q (f d.is) (gathered f ds) (one d.is fit.0) (gathered_every q f one ds fit.1)

  abbrev tone_right : Tone → Bool
  tone_right x = not (beyond (heard x))

  places_right : (l : List (Option ℕ)) → Each (FitSystemPosition p) l → every tone_right (map (tone_of value) l) ≡ true
  unfolding every
  places_right [] fit = refl
  places_right (None ∷ l) fit = places_right l fit.1
  places_right (Some k ∷ l) fit = rw (value_tone p v k fit.0.within, places_right l fit.1)

  tones_right : every tone_right (filled p).tones ≡ true
  tones_right = rw (filled_lists p).tones (gathered_every tone_right (tones_of value) own p a.each)
    where
      own : (d : Declaration) → Fits p d → every tone_right (tones_of value d) ≡ true
      own d fit =
          only_systems value (λ xs. every tone_right xs ≡ true) d (places_right [] tt) (λ b l ts e. places_right l (subst (Fits p) e fit).each)

  abbrev change_right : ToneChange → Bool
  change_right x = is_sum (change_number x)

  positions_right : (l : List Position) → every change_right (map (change_of value) l) ≡ true
  unfolding every
  positions_right [] = refl
  positions_right (mute ∷ l) = positions_right l
  positions_right (kept ts ∷ l) = rw (sum_right (sum_of value ts), positions_right l)
  positions_right (named k ts ∷ l) = rw (sum_right (value k +ℤ sum_of value ts), positions_right l)

  changes_right : every change_right (filled p).changes ≡ true
  changes_right = rw (filled_lists p).changes (gathered_every change_right (changes_of value) own p a.each)
    where
      own : (d : Declaration) → Fits p d → every change_right (changes_of value d) ≡ true
      own d fit = only_retunings value (λ xs. every change_right xs ≡ true) d (positions_right []) (λ l e. positions_right l)

  abbrev order_right : Order → Bool
  order_right x = is_trigger laid (trigger_of x) && refers_to is_called laid x.calls

  order_right_step : (x : Order) → FitOrder p x → order_right x ≡ true
  order_right_step x fit =
      let k = x.calls in
      let w = kind_row value k (tones_before p k) (changes_before p k) (orders_before p k) (declaration_at p k) fit.calls.whole in
      rw (trigger_right x.trigger fit.trigger, refers_right is_called k fit.calls.refers.within (sym w.1 ∙ fit.calls.refers.kind))

  logic_right : (os : List Order) → Each (FitOrder p) os → every order_right os ≡ true
  unfolding every
  logic_right [] fit = refl
  logic_right (x ∷ os) fit = rw (order_right_step x fit.0, logic_right os fit.1)

  orders_right_step : every order_right (filled p).orders ≡ true
  orders_right_step = rw (filled_lists p).orders (gathered_every order_right orders_of own p a.each)
    where
      own : (d : Declaration) → Fits p d → every order_right (orders_of d) ≡ true
      own d fit = only_logics (λ os. every order_right os ≡ true) d (logic_right [] tt) (λ c s os e. logic_right os (subst (Fits p) e fit).orders)

  order_at_step : (i : ℕ) → i < length (filled p).orders
      → is_trigger laid (get_or laid.triggers i 0) && refers_to is_called laid (get_or laid.calls i 0) ≡ true
  order_at_step i h =
      let os = (filled p).orders in
      let nought : Order = record { trigger = by_letter 0; calls = 0 } in
      rw (stored_at trigger_of most_orders os nought i h, stored_at call_of most_orders os nought i h) (every_within order_right os i nought h orders_right_step)

  -- ---- all of it

  sizes : Sizes laid
  sizes =
      let f = filled p in
      let n = room p a in
      record {
        rows = full_length (pos 0) (row_width * most_rows) (written_all f.rows) (omega (arith, written_length f.rows, n.rows));
        sounding = stored_length sounding_of most_tones f.tones 0 n.tones;
        tones = stored_length pitch_of most_tones f.tones (pos 0) n.tones;
        kinds = stored_length change_code most_changes f.changes 0 n.changes;
        changes = stored_length change_number most_changes f.changes (pos 0) n.changes;
        triggers = stored_length trigger_of most_orders f.orders 0 n.orders;
        calls = stored_length call_of most_orders f.orders 0 n.orders;
        counts = refl;
      }

  laid_valid : valid_tables laid ≡ true
  laid_valid =
      let f = filled p in
      valid_is laid (record {
        sizes = sizes;
        room = room p a;
        rows = rows_laid laid (row_width * most_rows) f.rows refl row_at_right;
        kinds = rw (declarations_laid laid (row_width * most_rows) f.rows refl) (kinds_few p a);
        parts = rw (declarations_laid laid (row_width * most_rows) f.rows refl) (parts_laid p);
        rows_after = zeros_after (row_width * most_rows) (row_width * length f.rows) (written_all f.rows) (written_length f.rows);
        tones = tones_laid most_tones (length f.tones) f.tones refl tones_right;
        changes = changes_laid most_changes (length f.changes) f.changes refl changes_right;
        orders = orders_laid laid (length f.orders) order_at_step;
        triggers_after = noughts_after most_orders (length f.orders) (map trigger_of f.orders) (length-map f.orders trigger_of);
        calls_after = noughts_after most_orders (length f.orders) (map call_of f.orders) (length-map f.orders call_of);
      })
    where
      row_at_right : (i : ℕ) → i < length (filled p).rows → declaration_right laid (get_or (filled p).rows i Unused) ≡ true
      row_at_right i h = let k = rw (filled_lists p).rows at h in rw (row_at_step p i k) (row_right i k)

-- ---- the theorems

pub tables_valid : (p : Program) → Allowed p → valued p ≡ Ok tt → valid_tables (tables_of p) ≡ true
unfolding tables_of
tables_valid p a v = laid_valid p a v

pub accepted_valid : (text : List ℕ) (p : Program) → Allowed p → read_text text ≡ accepted p → valid_tables (tables_of p) ≡ true
accepted_valid text p a e = tables_valid p a (steps text p e).values
