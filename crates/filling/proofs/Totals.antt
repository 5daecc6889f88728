-- How many rows, tones, changes and orders a program has, all in all: no more than the tables have room for. Assumes nothing.
use mathlib.Core.Path.{◌≡◌, refl, ap}
use mathlib.Core.Bool.{Bool, true, false}
use mathlib.Core.List.{[], ◌∷◌}
use Prim.Native.Nat.{ℕ, suc, ◌+◌, ◌*◌, ◌≤◌}
use native.Mathlib.Omega.{arith}
use lib.Dec.{eqb}
use lib.IntN.{ℤ}
use lib.ListN.{length, length-append, length-map}
use Rattle.grammar.specs.declared.Kind.{Kind}
use Rattle.grammar.specs.declared.Kind.TheVariants.{System}
use Rattle.grammar.specs.Moves.{kind_number}
use Rattle.grammar.specs.Reading.{most_positions}
use Rattle.tables.specs.Layout.{most_rows, most_tones, most_changes, most_orders}
use Rattle.program.specs.Program.{Declaration, ratio, root, sequence, frequency, from, system, anchor, width, fresh_period, onward_period, tones, pattern, logic, harmony, Placed, Program}
use Rattle.program.specs.Allowed.{kind_of, Each, Fits, if_kind, count_of, order_count, tones_count, tones_in, orders_in, Allowed}
use Rattle.program.proofs.AcceptedText.{few_declarations}
use Rattle.filling.specs.Tables.{tone_of, tones_of, change_of, changes_of, orders_of, Filled, filled_from}

-- ---- one declaration

-- whether a declaration is of a kind, as a number
abbrev is_of : Kind → Declaration → Bool
is_of k d = eqb (kind_number (kind_of d)) (kind_number k)

module _ (value : ℕ → ℤ) (p : Program) where
  record Share (d : Declaration) : Type 0 where
    of_tones : length (tones_of value d) ≤ most_positions * if_kind (is_of System d) 0
    of_changes : length (changes_of value d) ≤ most_positions * tones_count d
    of_orders : length (orders_of d) ≡ order_count d

  share : (d : Declaration) → Fits p d → Share d
  share (ratio a b) h = record { of_tones = omega arith; of_changes = omega arith; of_orders = refl }
  share (root a b) h = record { of_tones = omega arith; of_changes = omega arith; of_orders = refl }
  share (sequence ts) h = record { of_tones = omega arith; of_changes = omega arith; of_orders = refl }
  share (frequency f) h = record { of_tones = omega arith; of_changes = omega arith; of_orders = refl }
  share (from k ts) h = record { of_tones = omega arith; of_changes = omega arith; of_orders = refl }
  share (system a l ts) h = record { of_tones = rw (length-map l (tone_of value)) (omega (arith, h.positions.few)); of_changes = omega arith; of_orders = refl }
  share (anchor m) h = record { of_tones = omega arith; of_changes = omega arith; of_orders = refl }
  share (width m) h = record { of_tones = omega arith; of_changes = omega arith; of_orders = refl }
  share (fresh_period ts) h = record { of_tones = omega arith; of_changes = omega arith; of_orders = refl }
  share (onward_period ts) h = record { of_tones = omega arith; of_changes = omega arith; of_orders = refl }
  share (tones l) h = record { of_tones = omega arith; of_changes = rw (length-map l (change_of value)) (omega (arith, h.positions.few)); of_orders = refl }
  share (logic c s os) h = record { of_tones = omega arith; of_changes = omega arith; of_orders = refl }
  share pattern h = record { of_tones = omega arith; of_changes = omega arith; of_orders = refl }
  share (harmony ks) h = record { of_tones = omega arith; of_changes = omega arith; of_orders = refl }

-- ---- all of them

if_more : (b : Bool) (n : ℕ) → if_kind b n ≡ if_kind b 0 + n
if_more true n = omega arith
if_more false n = omega arith

module _ (value : ℕ → ℤ) (p : Program) where
  record Total (ds : Program) (f : Filled) : Type 0 where
    all_rows : length f.rows ≡ length ds
    all_tones : length f.tones ≤ most_positions * count_of System ds
    all_changes : length f.changes ≤ most_positions * tones_in ds
    all_orders : length f.orders ≡ orders_in ds

  total : (i t c o : ℕ) (ds : Program) → Each (λ (d : Placed). Fits p d.is) ds → Total ds (filled_from value i t c o ds)
  unfolding filled_from count_of tones_in orders_in
  total i t c o [] h = record { all_rows = refl; all_tones = omega arith; all_changes = omega arith; all_orders = refl }
  total i t c o (d ∷ ds) h =
      let ts = tones_of value d.is in
      let cs = changes_of value d.is in
      let os = orders_of d.is in
      let s = share value p d.is h.0 in
      let f = filled_from value (suc i) (t + length ts) (c + length cs) (o + length os) ds in
      let r : Total ds f = total (suc i) (t + length ts) (c + length cs) (o + length os) ds h.1 in
      record {
        all_rows = ap suc r.all_rows;
        all_tones = omega (arith, length-append ts f.tones, if_more (is_of System d.is) (count_of System ds), s.of_tones, r.all_tones);
        all_changes = omega (arith, length-append cs f.changes, s.of_changes, r.all_changes);
        all_orders = omega (arith, length-append os f.orders, s.of_orders, r.all_orders);
      }

-- there is room for all
pub record Within (f : Filled) : Type 0 where
  pub rows : length f.rows ≤ most_rows
  pub tones : length f.tones ≤ most_tones
  pub changes : length f.changes ≤ most_changes
  pub orders : length f.orders ≤ most_orders

pub filled_within : (value : ℕ → ℤ) {p : Program} → Allowed p → Within (filled_from value 0 0 0 0 p)
filled_within value {p} w =
    let t = total value p 0 0 0 0 p w.each in
    record {
      rows = omega (arith, t.all_rows, few_declarations w);
      tones = omega (arith, t.all_tones, w.few System);
      changes = omega (arith, t.all_changes, w.listed);
      orders = omega (arith, t.all_orders, w.orders);
    }
