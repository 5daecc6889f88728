-- Tables that are filled declaration by declaration: what is filled, and what is left of the program. Assumes nothing.
use mathlib.Core.Path.{◌≡◌, refl, sym, ◌∙◌, ap, subst}
use mathlib.Core.List.{List, [], ◌∷◌, ◌++◌, map, map-append, append_assoc, append-nil}
use Prim.Native.Nat.{ℕ, ◌+◌, ◌*◌, ◌≤◌, ◌<◌}
use native.Mathlib.Numerals.{add-one}
use native.Mathlib.Omega.{arith}
use lib.IntN.{ℤ, pos}
use lib.ListN.{length, length-append, length-map, get_or, drop, drop_of_length-le}
use lib.Seq.{sets, append_snoc}
use Rattle.names.proofs.Lists.{here}
use Rattle.tables.specs.declared.Counts.{Counts}
use Rattle.tables.specs.Layout.{Tables, row_width, most_rows, most_tones, most_changes, most_orders, numbers_of, written, written_all, full, sounding_of, pitch_of, change_code, change_number}
use Rattle.tables.specs.Values.{CountsFit}
use Rattle.tables.proofs.Lists.{full_next}
use Rattle.tables.proofs.Stored.{full_none, rows_next}
use Rattle.program.specs.Program.{Declaration, Placed, Program}
use Rattle.program.specs.Meaning.{nothing, declaration_at}
use Rattle.filling.specs.Tables.{tones_of, changes_of, orders_of, Filled, filled_from, laid_out}
use Rattle.filling.specs.Inner.{trigger_of, call_of, row_after, Lists, listed, counted, Added, blank}
use Rattle.filling.proofs.Totals.{Within}

-- ---- a list stored after those that a table has

many_stored : {A B : Type 0} (f : A → B) (nought : B) (size : ℕ) (l xs : List A) (n : ℕ) → length l ≡ n → n + length xs ≤ size
    → sets (full nought size (map f l)) n (map f xs) ≡ full nought size (map f (l ++ xs))
many_stored f nought size l xs n e h =
    full_next nought size (map f l) (map f xs) n (length-map l f ∙ e) (rw (length-map xs f) h) ∙ ap (full nought size) (sym (map-append f l xs))

-- ---- what is filled, with more after it

abbrev joined : Filled → Filled → Filled
joined f g = record { rows = f.rows ++ g.rows; tones = f.tones ++ g.tones; changes = f.changes ++ g.changes; orders = f.orders ++ g.orders }

-- the lists of tones, changes and orders, as the tables have them
abbrev laid_lists : Filled → Lists
laid_lists f = record {
  sounding = full 0 most_tones (map sounding_of f.tones);
  tones = full (pos 0) most_tones (map pitch_of f.tones);
  kinds = full 0 most_changes (map change_code f.changes);
  changes = full (pos 0) most_changes (map change_number f.changes);
  triggers = full 0 most_orders (map trigger_of f.orders);
  calls = full 0 most_orders (map call_of f.orders);
}

lists_equal : {a a' c c' e e' f f' : List ℕ} {b b' d d' : List ℤ} → a ≡ a' → b ≡ b' → c ≡ c' → d ≡ d' → e ≡ e' → f ≡ f'
    → ◌≡◌ {A = Lists} (record { sounding = a; tones = b; kinds = c; changes = d; triggers = e; calls = f })
    (record { sounding = a'; tones = b'; kinds = c'; changes = d'; triggers = e'; calls = f' })
lists_equal p q r s t u = rw (p, q, r, s, t, u)

abbrev laid_rows : Filled → List ℤ
laid_rows f = full (pos 0) (row_width * most_rows) (written_all f.rows)

-- the filled part, with one declaration more
abbrev more : (ℕ → ℤ) → Counts → Declaration → Filled → Filled
more value used d f = record {
  rows = f.rows ++ row_after value used d ∷ [];
  tones = f.tones ++ tones_of value d;
  changes = f.changes ++ changes_of value d;
  orders = f.orders ++ orders_of d;
}

-- what is filled from a declaration on, after so many
abbrev after : (ℕ → ℤ) → Counts → Program → Filled
after value used ds = filled_from value used.rows used.tones used.changes used.orders ds

lists_more : (value : ℕ → ℤ) (used : Counts) (d : Declaration) (f : Filled)
    → length f.tones ≡ used.tones → length f.changes ≡ used.changes → length f.orders ≡ used.orders
    → used.tones + length (tones_of value d) ≤ most_tones → used.changes + length (changes_of value d) ≤ most_changes → used.orders + length (orders_of d) ≤ most_orders
    → listed value used d (laid_lists f) ≡ laid_lists (more value used d f)
lists_more value used d f t c o x y z =
    lists_equal
    (many_stored sounding_of 0 most_tones f.tones (tones_of value d) used.tones t x)
    (many_stored pitch_of (pos 0) most_tones f.tones (tones_of value d) used.tones t x)
    (many_stored change_code 0 most_changes f.changes (changes_of value d) used.changes c y)
    (many_stored change_number (pos 0) most_changes f.changes (changes_of value d) used.changes c y)
    (many_stored trigger_of 0 most_orders f.orders (orders_of d) used.orders o z)
    (many_stored call_of 0 most_orders f.orders (orders_of d) used.orders o z)

joined_more : (value : ℕ → ℤ) (used : Counts) (x : Placed) (ds : Program) (f : Filled)
    → joined f (after value used (x ∷ ds)) ≡ joined (more value used x.is f) (after value (counted value used x.is) ds)
unfolding filled_from
joined_more value used x ds f =
    let d = x.is in
    let g = after value (counted value used d) ds in
    rw (← add-one used.rows)
    (sym (rw (
      append_snoc f.rows (row_after value used d) g.rows,
      append_assoc f.tones (tones_of value d) g.tones,
      append_assoc f.changes (changes_of value d) g.changes,
      append_assoc f.orders (orders_of d) g.orders,
    )))

joined_none : (value : ℕ → ℤ) (used : Counts) (f : Filled) → joined f (after value used []) ≡ f
unfolding filled_from
joined_none value used f = rw (append-nil f.rows, append-nil f.tones, append-nil f.changes, append-nil f.orders)

-- ---- the declarations of a program in front of the d-th are filled

pub record Filling (value : ℕ → ℤ) (p : Program) (d : ℕ) (used : Counts) (rows : List ℤ) (lists : Lists) : Type 0 where
  pub place : used.rows ≡ d
  front : Filled
  whole : joined front (after value used (drop d p)) ≡ filled_from value 0 0 0 0 p
  some_rows : length front.rows ≡ used.rows
  some_tones : length front.tones ≡ used.tones
  some_changes : length front.changes ≡ used.changes
  some_orders : length front.orders ≡ used.orders
  rows_are : rows ≡ laid_rows front
  lists_are : lists ≡ laid_lists front

pub filling_none : (value : ℕ → ℤ) (p : Program)
    → Filling value p 0 (record { rows = 0; tones = 0; changes = 0; orders = 0 }) blank.rows
    (record { sounding = blank.sounding; tones = blank.tones; kinds = blank.kinds; changes = blank.changes; triggers = blank.triggers; calls = blank.calls })
unfolding written_all
filling_none value p =
    record {
      place = refl;
      front = record { rows = []; tones = []; changes = []; orders = [] };
      whole = refl;
      some_rows = refl;
      some_tones = refl;
      some_changes = refl;
      some_orders = refl;
      rows_are = full_none (pos 0) (row_width * most_rows);
      lists_are =
          lists_equal (full_none 0 most_tones) (full_none (pos 0) most_tones) (full_none 0 most_changes) (full_none (pos 0) most_changes) (full_none 0 most_orders) (full_none 0 most_orders);
    }

-- the tables with these rows, lists and counts
abbrev pub together : List ℤ → Lists → List ℕ → Tables
together rows l counts = record {
  rows = rows;
  sounding = l.sounding;
  tones = l.tones;
  kinds = l.kinds;
  changes = l.changes;
  triggers = l.triggers;
  calls = l.calls;
  counts = counts;
}

abbrev pub four_counts : Counts → List ℕ
four_counts used = used.rows ∷ used.tones ∷ used.changes ∷ used.orders ∷ []

laid : (f : Filled) {used : Counts} {rows : List ℤ} {lists : Lists} → rows ≡ laid_rows f → lists ≡ laid_lists f
    → length f.rows ≡ used.rows → length f.tones ≡ used.tones → length f.changes ≡ used.changes → length f.orders ≡ used.orders
    → together rows lists (four_counts used) ≡ laid_out f
laid f r l a b c d = rw (r, l, ← a, ← b, ← c, ← d)

within_front : (f g : Filled) → Within (joined f g) → Within f
within_front f g w =
    record {
      rows = omega (arith, w.rows, length-append f.rows g.rows);
      tones = omega (arith, w.tones, length-append f.tones g.tones);
      changes = omega (arith, w.changes, length-append f.changes g.changes);
      orders = omega (arith, w.orders, length-append f.orders g.orders);
    }

module _ {value : ℕ → ℤ} {p : Program} {d : ℕ} {used : Counts} {rows : List ℤ} {lists : Lists} (h : Filling value p d used rows lists) where
  -- all of them
  pub filling_all : length p ≤ d → together rows lists (four_counts used) ≡ laid_out (filled_from value 0 0 0 0 p)
  filling_all k =
      let e : joined h.front (after value used []) ≡ filled_from value 0 0 0 0 p =
      ap (λ (ds : Program). joined h.front (after value used ds)) (sym (drop_of_length-le p k)) ∙ h.whole in
      laid h.front h.rows_are h.lists_are h.some_rows h.some_tones h.some_changes h.some_orders
      ∙ ap laid_out (sym (joined_none value used h.front) ∙ e)

  module _ (w : Within (filled_from value 0 0 0 0 p)) where
    -- there are few enough of each
    pub filling_few : CountsFit used
    filling_few =
        let x = within_front h.front (after value used (drop d p)) (subst Within (sym h.whole) w) in
        record {
          rows = omega (arith, x.rows, h.some_rows);
          tones = omega (arith, x.tones, h.some_tones);
          changes = omega (arith, x.changes, h.some_changes);
          orders = omega (arith, x.orders, h.some_orders);
        }

    -- the next one
    module _ (k : d < length p) where
      abbrev present : Declaration
      present = declaration_at p d

      whole_next : joined (more value used present h.front) (after value (counted value used present) (drop (d + 1) p)) ≡ filled_from value 0 0 0 0 p
      whole_next =
          sym (joined_more value used (get_or p d nothing) (drop (d + 1) p) h.front)
          ∙ ap (λ (ds : Program). joined h.front (after value used ds)) (sym (here p d nothing k))
          ∙ h.whole

      within_next : Within (more value used present h.front)
      within_next =
          within_front (more value used present h.front) (after value (counted value used present) (drop (d + 1) p)) (subst Within (sym whole_next) w)

      pub room_rows : used.rows < most_rows
      room_rows = omega (arith, within_next.rows, length-append h.front.rows (row_after value used present ∷ []), h.some_rows)

      pub room_tones : used.tones + length (tones_of value present) ≤ most_tones
      room_tones = omega (arith, within_next.tones, length-append h.front.tones (tones_of value present), h.some_tones)

      pub room_changes : used.changes + length (changes_of value present) ≤ most_changes
      room_changes = omega (arith, within_next.changes, length-append h.front.changes (changes_of value present), h.some_changes)

      pub room_orders : used.orders + length (orders_of present) ≤ most_orders
      room_orders = omega (arith, within_next.orders, length-append h.front.orders (orders_of present), h.some_orders)

      pub filling_next : {used' : Counts} {rows' : List ℤ} {lists' : Lists} → Added value used present rows lists used' rows' lists'
          → Filling value p (d + 1) used' rows' lists'
      filling_next {used'} a =
          let f = h.front in
          let row = row_after value used present in
          let ts = tones_of value present in
          let cs = changes_of value present in
          let os = orders_of present in
          record {
            place = ap (λ (u : Counts). u.rows) a.count ∙ ap (λ (n : ℕ). n + 1) h.place;
            front = more value used present f;
            whole = ap (λ (u : Counts). joined (more value used present f) (after value u (drop (d + 1) p))) a.count ∙ whole_next;
            some_rows = length-append f.rows (row ∷ []) ∙ ap (λ (n : ℕ). n + 1) h.some_rows ∙ sym (ap (λ (u : Counts). u.rows) a.count);
            some_tones = length-append f.tones ts ∙ ap (λ (n : ℕ). n + length ts) h.some_tones ∙ sym (ap (λ (u : Counts). u.tones) a.count);
            some_changes = length-append f.changes cs ∙ ap (λ (n : ℕ). n + length cs) h.some_changes ∙ sym (ap (λ (u : Counts). u.changes) a.count);
            some_orders = length-append f.orders os ∙ ap (λ (n : ℕ). n + length os) h.some_orders ∙ sym (ap (λ (u : Counts). u.orders) a.count);
            rows_are =
                a.row
                ∙ ap (λ (r : List ℤ). sets r (row_width * used.rows) (written (numbers_of row))) h.rows_are
                ∙ rows_next f.rows row used.rows h.some_rows room_rows;
            lists_are =
                a.lists
                ∙ ap (listed value used present) h.lists_are
                ∙ lists_more value used present f h.some_tones h.some_changes h.some_orders room_tones room_changes room_orders;
          }
