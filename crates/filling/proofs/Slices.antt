-- Lists, rows and counts written into parts of the two slices: the tables then. Assumes nothing.
use mathlib.Core.Path.{◌≡◌, refl, sym, ◌∙◌, ap, subst}
use mathlib.Core.List.{List}
use Rattle.std.specs.Prelude.{Option}
use Prim.Native.Nat.{ℕ, ◌*◌}
use lib.IntN.{ℤ, pos}
use lib.ListN.{length, length-replicate}
use lib.Seq.{sets}
use Rattle.tables.specs.declared.Counts.{Counts}
use Rattle.tables.specs.declared.Row.{Row}
use Rattle.tables.specs.Layout.{Tables, section, tables_in, triggers_in, calls_in, row_width, most_rows, order_width, most_tones, most_changes, most_orders, counts_size, tones_at, changes_at, sounding_at, kinds_at, orders_at, numbers_of, written, sounding_of, pitch_of, change_code, change_number}
use Rattle.tables.specs.Values.{Slices}
use Rattle.tables.proofs.Sizes.{Sizes, sizes_is, slices_sizes, slices_of, section_last}
use Rattle.tables.proofs.Sections.{spliced, rows_back, tones_back, changes_back, orders_back, orders_length}
use Rattle.values.specs.Values.{Term}
use Rattle.program.specs.Program.{Declaration, Trigger, Order, Position, system, tones, logic}
use Rattle.filling.specs.Tables.{tones_of, changes_of}
use Rattle.filling.specs.Inner.{blank, trigger_of, call_of, Stored, row_after, counted_by, RowedIn, AddedIn}
use Rattle.filling.proofs.Entries.{counted_same}
use Rattle.filling.proofs.Forms.{rowed_as, system_rowed, tones_rowed, logic_rowed}

-- ---- tables of zeros are of full size

blank_sized : Sizes blank
blank_sized = record {
  rows = length-replicate (row_width * most_rows) (pos 0);
  sounding = length-replicate {A = ℕ} most_tones 0;
  tones = length-replicate most_tones (pos 0);
  kinds = length-replicate {A = ℕ} most_changes 0;
  changes = length-replicate most_changes (pos 0);
  triggers = length-replicate {A = ℕ} most_orders 0;
  calls = length-replicate {A = ℕ} most_orders 0;
  counts = length-replicate {A = ℕ} counts_size 0;
}

pub blank_slices : (numbers : List ℤ) (codes : List ℕ) → tables_in numbers codes ≡ blank → Slices numbers codes
blank_slices numbers codes e = slices_of numbers codes (sizes_is (tables_in numbers codes) (subst Sizes (sym e) blank_sized))

-- ---- the lists of a declaration

module _ {value : ℕ → ℤ} {used : Counts} {r : Row} where
  pub rowed_in_as : {d e : Declaration} {t u : Tables} → d ≡ e → RowedIn value used e t r u → RowedIn value used d t r u
  rowed_in_as q h = record { rowed = rowed_as q h.rowed; rows = h.rows }

  module _ {numbers : List ℤ} {codes : List ℕ} (s : Slices numbers codes) where
    pub system_in : {a : ℕ} {ps : List (Option ℕ)} {ts : List Term} (ks : List ℕ) (zs : List ℤ)
        → length ks ≡ length (section sounding_at most_tones codes) → length zs ≡ length (section tones_at most_tones numbers) → r ≡ row_after value used (system a ps ts)
        → Stored sounding_of pitch_of (tones_of value (system a ps ts)) used.tones (section sounding_at most_tones codes) (section tones_at most_tones numbers) ks zs
        → RowedIn value used (system a ps ts) (tables_in numbers codes) r (tables_in (spliced tones_at most_tones zs numbers) (spliced sounding_at most_tones ks codes))
    unfolding tables_in
    system_in {a} {ps} {ts} ks zs k z e h =
        let sizes = slices_sizes numbers codes s in
        subst (λ (u : Tables). RowedIn value used (system a ps ts) (tables_in numbers codes) r u) (sym (tones_back s ks zs (k ∙ sizes.sounding) (z ∙ sizes.tones)))
        (record { rowed = system_rowed e h; rows = refl })

    pub tones_in_step : {ps : List Position} (ks : List ℕ) (zs : List ℤ)
        → length ks ≡ length (section kinds_at most_changes codes) → length zs ≡ length (section changes_at most_changes numbers) → r ≡ row_after value used (tones ps)
        → Stored change_code change_number (changes_of value (tones ps)) used.changes (section kinds_at most_changes codes) (section changes_at most_changes numbers) ks zs
        → RowedIn value used (tones ps) (tables_in numbers codes) r (tables_in (spliced changes_at most_changes zs numbers) (spliced kinds_at most_changes ks codes))
    unfolding tables_in
    tones_in_step {ps} ks zs k z e h =
        let t = tables_in numbers codes in
        let sizes = slices_sizes numbers codes s in
        let last = section_last changes_at most_changes numbers s.all_numbers_case in
        let whole = subst (λ (l : List ℤ). Stored change_code change_number (changes_of value (tones ps)) used.changes t.kinds l ks zs) last h in
        subst (λ (u : Tables). RowedIn value used (tones ps) t r u) (sym (changes_back s ks zs (k ∙ sizes.kinds) (z ∙ ap length last ∙ sizes.changes)))
        (record { rowed = tones_rowed e whole; rows = refl })

    pub logic_in_step : {c : Trigger} {o : Option ℕ} {os : List Order} (part : List ℕ) → length part ≡ length (section orders_at (order_width * most_orders) codes)
        → r ≡ row_after value used (logic c o os)
        → Stored trigger_of call_of os used.orders (triggers_in (section orders_at (order_width * most_orders) codes)) (calls_in (section orders_at (order_width * most_orders) codes)) (triggers_in part) (calls_in part)
        → RowedIn value used (logic c o os) (tables_in numbers codes) r (tables_in numbers (spliced orders_at (order_width * most_orders) part codes))
    unfolding tables_in
    logic_in_step {c} {o} {os} part k e h =
        let t = tables_in numbers codes in
        let last = section_last orders_at (order_width * most_orders) codes s.all_codes_case in
        let whole = subst (λ (l : List ℕ). Stored trigger_of call_of os used.orders (triggers_in l) (calls_in l) (triggers_in part) (calls_in part)) last h in
        subst (λ (u : Tables). RowedIn value used (logic c o os) t r u)
        (sym (orders_back s part (k ∙ orders_length s)))
        (record { rowed = logic_rowed e whole; rows = refl })

-- ---- its row

pub row_in : {value : ℕ → ℤ} {used : Counts} {d : Declaration} {r : Row} {t : Tables} {numbers : List ℤ} {codes : List ℕ} → Slices numbers codes
    → RowedIn value used d t r (tables_in numbers codes) → (part : List ℤ) → length part ≡ length (section 0 tones_at numbers)
    → part ≡ sets (section 0 tones_at numbers) (row_width * used.rows) (written (numbers_of r)) → {n : Counts} → n ≡ counted_by used r
    → AddedIn value used d t n (tables_in (spliced 0 tones_at part numbers) codes)
unfolding tables_in
row_in {value} {used} {d} {r} {t} {numbers} {codes} s h part k e {n} f =
    let u = tables_in numbers codes in
    subst (λ (x : Tables). AddedIn value used d t n x) (sym (rows_back s part (k ∙ (slices_sizes numbers codes s).rows)))
    (record {
      count = f ∙ ap (counted_by used) h.rowed.row ∙ counted_same value used d;
      row =
          e
          ∙ ap (λ (x : Row). sets u.rows (row_width * used.rows) (written (numbers_of x))) h.rowed.row
          ∙ ap (λ (l : List ℤ). sets l (row_width * used.rows) (written (numbers_of (row_after value used d)))) h.rows;
      lists = h.rowed.lists;
    })
