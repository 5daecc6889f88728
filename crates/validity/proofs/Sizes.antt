-- What it says that the tables are of full size, and that there is room for as many as are used. Assumes nothing.
use mathlib.Core.Path.{◌≡◌, refl, sym, ap, ◌∙◌}
use mathlib.Core.Bool.{Bool, true, false, cond, ◌&&◌}
use Prim.Native.Nat.{◌*◌, ◌≤◌}
use borrow.Author.Tests.{leb-true, le-leb}
use lib.Dec.{leb}
use lib.ListN.{drop}
use Rattle.tuning.specs.Desk.{is_tone}
use Rattle.tuning.proofs.Lists.{both}
pub use Rattle.tables.proofs.Sizes.{Sizes, sizes_of, sizes_is}
use Rattle.tables.specs.declared.Counts.{Counts}
use Rattle.tables.specs.Layout.{Tables, full_size, row_width, most_rows, most_tones, most_changes, most_orders, used, sounds_code, set_code}
use Rattle.validity.specs.Valid.{counts_right, kinds, ends, all_zero, all_nought, is_sum, valid_tables}
use Rattle.validity.specs.Inner.{fast_rows, fast_orders, fast_list, fast_tables}
use Rattle.validity.proofs.Same.{fast_same}

pub record Room (c : Counts) : Type 0 where
  pub rows : c.rows ≤ most_rows
  pub tones : c.tones ≤ most_tones
  pub changes : c.changes ≤ most_changes
  pub orders : c.orders ≤ most_orders

pub room_of : (c : Counts) → counts_right c ≡ true → Room c
room_of c h =
    let a = both _ (leb c.orders most_orders) h in
    let b = both _ (leb c.changes most_changes) a.0 in
    let d = both (leb c.rows most_rows) (leb c.tones most_tones) b.0 in
    record { rows = leb-true _ _ d.0; tones = leb-true _ _ d.1; changes = leb-true _ _ b.1; orders = leb-true _ _ a.1 }

pub room_is : (c : Counts) → Room c → counts_right c ≡ true
room_is c r =
    simp (
      le-leb c.rows most_rows r.rows,
      le-leb c.tones most_tones r.tones,
      le-leb c.changes most_changes r.changes,
      le-leb c.orders most_orders r.orders,
    )

-- ---- the whole test as the code makes it, for tables of full size that have room for as many as are used

abbrev pub contents : Tables → Counts → Bool
contents t c =
    fast_rows t.rows c (kinds 0 0 0 0 0 0) (ends 0 0 0) 0 c.rows && all_zero (drop (row_width * c.rows) t.rows)
    && fast_list sounds_code is_tone c.tones t.sounding t.tones && fast_list set_code is_sum c.changes t.kinds t.changes
    && fast_orders t.rows c.rows t.triggers t.calls 0 c.orders && all_nought (drop c.orders t.triggers)
    && all_nought (drop c.orders t.calls)

pub valid_contents : (t : Tables) (c : Counts) → full_size t ≡ true → c ≡ used t → counts_right c ≡ true → contents t c ≡ valid_tables t
unfolding fast_tables
valid_contents t c e f g =
    let fast : contents t c ≡ fast_tables t = ap (contents t) f ∙ rw (e, ap counts_right (sym f) ∙ g) in
    fast ∙ sym (fast_same t)

pub unsized : (t : Tables) → full_size t ≡ false → false ≡ valid_tables t
unfolding valid_tables
unsized t e = rw e

pub crowded : (t : Tables) (c : Counts) → c ≡ used t → counts_right c ≡ false → false ≡ valid_tables t
unfolding valid_tables
crowded t c f g = rw (ap counts_right (sym f) ∙ g) (either (full_size t))
  where
    either : (b : Bool) → false ≡ cond b false false
    either true = refl
    either false = refl
