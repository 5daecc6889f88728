-- What it says that the tables are of full size: that the two slices are, of which they are sections. Assumes nothing.
use mathlib.Core.Path.{◌≡◌, refl, sym}
use mathlib.Core.Bool.{Bool, true, false, ◌&&◌}
use mathlib.Core.List.{List}
use Prim.Native.Nat.{ℕ, ◌+◌, ◌*◌, ◌≤◌}
use native.Mathlib.Omega.{arith}
use borrow.Author.Tests.{eqb-true, eq-eqb}
use lib.Dec.{eqb}
use lib.IntN.{ℤ}
use lib.ListN.{length, drop, length-drop}
use lib.Seq.{length-take-le, take_all}
use Rattle.tuning.proofs.Lists.{both}
use Rattle.tables.specs.Layout.{Tables, section, tables_in, full_size, row_width, most_rows, most_tones, most_changes, most_orders, counts_size, tones_at, changes_at, all_numbers, sounding_at, kinds_at, orders_at, all_codes}
use Rattle.tables.specs.Values.{Slices}
use Rattle.tables.proofs.Columns.{column_length, columns_length}

pub record Sizes (t : Tables) : Type 0 where
  pub rows : length t.rows ≡ row_width * most_rows
  pub sounding : length t.sounding ≡ most_tones
  pub tones : length t.tones ≡ most_tones
  pub kinds : length t.kinds ≡ most_changes
  pub changes : length t.changes ≡ most_changes
  pub triggers : length t.triggers ≡ most_orders
  pub calls : length t.calls ≡ most_orders
  pub counts : length t.counts ≡ counts_size

pub sizes_of : (t : Tables) → full_size t ≡ true → Sizes t
sizes_of t h =
    let a = both _ (eqb (length t.counts) counts_size) h in
    let b = both _ (eqb (length t.calls) most_orders) a.0 in
    let c = both _ (eqb (length t.triggers) most_orders) b.0 in
    let d = both _ (eqb (length t.changes) most_changes) c.0 in
    let e = both _ (eqb (length t.kinds) most_changes) d.0 in
    let f = both _ (eqb (length t.tones) most_tones) e.0 in
    let g = both (eqb (length t.rows) (row_width * most_rows)) (eqb (length t.sounding) most_tones) f.0 in
    record {
      rows = eqb-true _ _ g.0;
      sounding = eqb-true _ _ g.1;
      tones = eqb-true _ _ f.1;
      kinds = eqb-true _ _ e.1;
      changes = eqb-true _ _ d.1;
      triggers = eqb-true _ _ c.1;
      calls = eqb-true _ _ b.1;
      counts = eqb-true _ _ a.1;
    }

pub sizes_is : (t : Tables) → Sizes t → full_size t ≡ true
sizes_is t s =
    simp (
      eq-eqb (length t.rows) (row_width * most_rows) s.rows,
      eq-eqb (length t.sounding) most_tones s.sounding,
      eq-eqb (length t.tones) most_tones s.tones,
      eq-eqb (length t.kinds) most_changes s.kinds,
      eq-eqb (length t.changes) most_changes s.changes,
      eq-eqb (length t.triggers) most_orders s.triggers,
      eq-eqb (length t.calls) most_orders s.calls,
      eq-eqb (length t.counts) counts_size s.counts,
    )

-- ---- the slices

pub section_size : {A : Type 0} (at k : ℕ) (l : List A) → at + k ≤ length l → length (section at k l) ≡ k
section_size at k l h = length-take-le k (drop at l) (omega (arith, length-drop at l))

-- the last section, handed on with its end
pub section_last : {A : Type 0} (at k : ℕ) (l : List A) → length l ≡ at + k → section at k l ≡ drop at l
section_last at k l e = take_all k (drop at l) (omega (arith, length-drop at l))

pub alike : (a b : Bool) → (a ≡ true → b ≡ true) → (b ≡ true → a ≡ true) → a ≡ b
alike true b h k = sym (h refl)
alike false true h k = k refl
alike false false h k = refl

module _ (numbers : List ℤ) (codes : List ℕ) where
  pub slices_sizes : Slices numbers codes → Sizes (tables_in numbers codes)
  unfolding tables_in
  slices_sizes s =
      let n = s.all_numbers_case in
      let c = s.all_codes_case in
      let o = length-drop orders_at codes in
      record {
        rows = section_size 0 tones_at numbers (omega arith);
        sounding = section_size sounding_at most_tones codes (omega arith);
        tones = section_size tones_at most_tones numbers (omega arith);
        kinds = section_size kinds_at most_changes codes (omega arith);
        changes = omega (arith, length-drop changes_at numbers);
        triggers = column_length 0 (drop orders_at codes) most_orders (omega arith) (omega arith);
        calls = column_length 1 (drop orders_at codes) most_orders (omega arith) (omega arith);
        counts = section_size 0 counts_size codes (omega arith);
      }

  sizes_slices : Sizes (tables_in numbers codes) → Slices numbers codes
  unfolding tables_in
  sizes_slices s =
      let a = s.changes in
      let b = s.triggers in
      let c = s.calls in
      record {
        all_numbers_case = omega (arith, length-drop changes_at numbers);
        all_codes_case = omega (arith, length-drop orders_at codes, columns_length (drop orders_at codes));
      }

  pub slices_of : full_size (tables_in numbers codes) ≡ true → Slices numbers codes
  slices_of h = sizes_slices (sizes_of (tables_in numbers codes) h)

  pub slices_full : Slices numbers codes → full_size (tables_in numbers codes) ≡ true
  slices_full s = sizes_is (tables_in numbers codes) (slices_sizes s)

  pub sizes_told : eqb (length numbers) all_numbers && eqb (length codes) all_codes ≡ full_size (tables_in numbers codes)
  sizes_told =
      alike (eqb (length numbers) all_numbers && eqb (length codes) all_codes) (full_size (tables_in numbers codes))
      (λ h.
      let x = both (eqb (length numbers) all_numbers) (eqb (length codes) all_codes) h in
      slices_full (record { all_numbers_case = eqb-true (length numbers) all_numbers x.0; all_codes_case = eqb-true (length codes) all_codes x.1 }))
      (λ h.
      let s = slices_of h in
      simp (eq-eqb (length numbers) all_numbers s.all_numbers_case, eq-eqb (length codes) all_codes s.all_codes_case))
