-- The tables of a program read back: each row is that of its declaration, and has its own tones, changes and orders. Assumes nothing.
use mathlib.Core.Path.{◌≡◌, refl, ap, ◌∙◌}
use mathlib.Core.List.{List, map}
use Rattle.std.specs.Prelude.{Option}
use Prim.Native.Nat.{ℕ, ◌+◌, ◌*◌, ◌≤◌, ◌<◌}
use native.Mathlib.Omega.{arith}
use lib.IntN.{pos}
use lib.ListN.{length, length-map}
use lib.Seq.{slice}
use Rattle.values.specs.Values.{Term}
use Rattle.tables.specs.Layout.{row_width, most_rows, most_tones, most_changes, most_orders, number_at, written_all, row_of, row_at, row_count, tones_from, changes_from, full}
use Rattle.tables.specs.declared.Row.TheVariants.{Unused, Harmony}
use Rattle.tables.proofs.Stored.{written_length, row_read, tones_read, changes_read, part_read}
use Rattle.harmonies.specs.Harmonies.{HarmonyKey, harmony_of}
use Rattle.program.specs.Program.{system, tones, logic, harmony, Declaration, Program, Position, Trigger, Order}
use Rattle.program.specs.Meaning.{declaration_at, value_of}
use Rattle.filling.specs.Tables.{tones_of, changes_of, orders_of, tone_of, change_of, trigger_code, tables_of}
use Rattle.filling.specs.Tables as filling
use Rattle.mutabor.proofs.Lists.{full_past}
use Rattle.mutabor.proofs.Filled.{part_stands, filled, filled_lists, row_at_step, row_for, tones_before, changes_before, orders_before}

-- ---- rows

pub rows_counted : (p : Program) → row_count (tables_of p) ≡ length p
unfolding tables_of
rows_counted p = (filled_lists p).rows

pub row_decoded : (p : Program) (k : ℕ) → k < length p → row_at (tables_of p) k ≡ row_for p k
unfolding tables_of
row_decoded p k h = row_read (row_width * most_rows) (filled p).rows k (rw (filled_lists p).rows h) ∙ row_at_step p k h

pub past_decoded : (p : Program) (k : ℕ) → length p ≤ k → row_at (tables_of p) k ≡ Unused
unfolding tables_of row_of
past_decoded p k h = rw form
  where
    form : number_at (tables_of p).rows k 0 ≡ pos 0
    form =
        let a = (filled_lists p).rows in
        full_past (pos 0) (row_width * most_rows) (written_all (filled p).rows) (row_width * k + 0) (omega (arith, written_length (filled p).rows))

-- ---- the tones of a tone system, the changes of a tones retuning, the orders of a logic, the sets of a harmony

module _ (p : Program) (k : ℕ) (h : k < length p) where
  pub system_tones : (a : ℕ) (l : List (Option ℕ)) (ts : List Term) → declaration_at p k ≡ system a l ts
      → tones_from (tables_of p) (tones_before p k) (tones_before p k + length l) ≡ map (tone_of (value_of p)) l
  unfolding tables_of
  system_tones a l ts e =
      let value = value_of p in
      let t = part_stands (tones_of value) p k h (filled_lists p).tones (ap (tones_of value) e) (length-map l (tone_of value)) in
      tones_read most_tones (tones_before p k) (tones_before p k + length l) (filled p).tones t.0 ∙ t.1

  pub retuning_changes : (l : List Position) → declaration_at p k ≡ tones l
      → changes_from (tables_of p) (changes_before p k) (changes_before p k + length l) ≡ map (change_of (value_of p)) l
  unfolding tables_of
  retuning_changes l e =
      let value = value_of p in
      let t = part_stands (changes_of value) p k h (filled_lists p).changes (ap (changes_of value) e) (length-map l (change_of value)) in
      changes_read most_changes (changes_before p k) (changes_before p k + length l) (filled p).changes t.0 ∙ t.1

  pub harmony_row : (ks : List HarmonyKey) → declaration_at p k ≡ harmony ks → row_at (tables_of p) k ≡ Harmony (harmony_of ks).needed (harmony_of ks).named
  harmony_row ks e =
      row_decoded p k h ∙ ap (λ (d : Declaration). filling.row_of (value_of p) k (tones_before p k) (changes_before p k) (orders_before p k) d) e

  module _ (c : Trigger) (s : Option ℕ) (os : List Order) (e : declaration_at p k ≡ logic c s os) where
    orders_there : (g : Order → ℕ) → slice (orders_before p k) (orders_before p k + length os) (full 0 most_orders (map g (filled p).orders)) ≡ map g os
    orders_there g =
        let t = part_stands orders_of p k h (filled_lists p).orders (ap orders_of e) refl in
        part_read g 0 most_orders (orders_before p k) (orders_before p k + length os) (filled p).orders t.0 ∙ ap (map g) t.1

    pub logic_triggers : slice (orders_before p k) (orders_before p k + length os) (tables_of p).triggers ≡ map (λ (x : Order). trigger_code x.trigger) os
    unfolding tables_of
    logic_triggers = orders_there (λ x. trigger_code x.trigger)

    pub logic_calls : slice (orders_before p k) (orders_before p k + length os) (tables_of p).calls ≡ map (λ (x : Order). x.calls) os
    unfolding tables_of
    logic_calls = orders_there (λ x. x.calls)
