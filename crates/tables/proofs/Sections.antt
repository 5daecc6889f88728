-- The tables after parts of the two slices were lent and came back, and after the slices were cleared. Assumes nothing.
use mathlib.Core.Path.{◌≡◌, refl, sym, ◌∙◌, ap}
use mathlib.Core.List.{List, [], ◌∷◌, ◌++◌, append_assoc, append-nil}
use Prim.Native.Nat.{ℕ, zero, suc, ◌+◌, ◌-◌, ◌*◌, ◌≤◌}
use native.Mathlib.Omega.{arith}
use lib.IntN.{ℤ, pos}
use lib.ListN.{length, take, drop, replicate, length-append, length-drop, take-append-drop, drop_of_length-le}
use lib.Seq.{length-take-le, take_at, drop_at, take-append-le, drop-append-le, drop-append-add, drop-drop}
use Rattle.tables.specs.Layout.{Tables, section, tables_in, column, triggers_in, calls_in, most_tones, most_changes, most_orders, order_width, counts_size, tones_at, changes_at, sounding_at, kinds_at, orders_at, all_numbers, all_codes}
use Rattle.tables.specs.Values.{Slices}

-- ---- a list in which what stands from a place on is another, as a part `&mut list[at..]` leaves it: what stands before it stays

module _ {A : Type 0} (at : ℕ) (l : List A) (fits : at ≤ length l) where
  front : length (take at l) ≡ at
  front = length-take-le at l fits

  -- whatever stands behind
  before : (b m : ℕ) → b + m ≤ at → (rest : List A) → section b m (take at l ++ rest) ≡ section b m (take at l)
  before b m h rest =
      rw (drop-append-le b (take at l) rest (omega (arith, front)))
      (take-append-le m (drop b (take at l)) rest (omega (arith, front, length-drop b (take at l))))

  pub section_before : (b m : ℕ) → b + m ≤ at → (rest : List A) → section b m (take at l ++ rest) ≡ section b m l
  section_before b m h rest = before b m h rest ∙ sym (before b m h (drop at l)) ∙ ap (section b m) (take-append-drop at l)

  pub end_same : (rest : List A) → drop at (take at l ++ rest) ≡ rest
  end_same rest = drop_at (take at l) rest at front

-- ---- a list in which k elements from a place on are others, as a part `&mut list[at..at + k]` leaves it

abbrev pub spliced : {A : Type 0} → ℕ → ℕ → List A → List A → List A
spliced at k part l = take at l ++ (part ++ drop k (drop at l))

module _ {A : Type 0} (at k : ℕ) (part l : List A) (fits : at + k ≤ length l) (size : length part ≡ k) where
  -- the section is the part
  pub section_same : section at k (spliced at k part l) ≡ part
  section_same = rw (end_same at l (omega arith) (part ++ drop k (drop at l))) (take_at part (drop k (drop at l)) k size)

  -- all from a place behind it on stays
  pub drop_after : (b : ℕ) → at + k ≤ b → drop b (spliced at k part l) ≡ drop b l
  drop_after b h =
      let p = take at l ++ part in
      let rest = drop k (drop at l) in
      let more = b - (at + k) in
      let n : length p ≡ at + k = length-append (take at l) part ∙ omega (arith, length-take-le at l (omega arith)) in
      let e : b ≡ length p + more = omega arith in
      let f : at + k + more ≡ b = omega arith in
      ap (drop b) (sym (append_assoc (take at l) part rest)) ∙ ap (λ (i : ℕ). drop i (p ++ rest)) e ∙ drop-append-add p rest more ∙ ap (drop more) (drop-drop k at l)
      ∙ drop-drop more (at + k) l ∙ ap (λ (i : ℕ). drop i l) f

  -- where it is the last, nothing stands behind it
  pub last_same : length l ≡ at + k → drop at (spliced at k part l) ≡ part
  last_same e =
      end_same at l (omega arith) (part ++ drop k (drop at l))
      ∙ ap (λ (r : List A). part ++ r) (drop_of_length-le (drop at l) {i = k} (omega (arith, length-drop at l))) ∙ append-nil part

  pub section_after : (b m : ℕ) → at + k ≤ b → section b m (spliced at k part l) ≡ section b m l
  section_after b m h = ap (take m) (drop_after b h)

-- ---- tables with some of them replaced

pub same_tables : {rows rows' tones tones' changes changes' : List ℤ} {sounding sounding' kinds kinds' triggers triggers' calls calls' counts counts' : List ℕ}
    → rows ≡ rows' → sounding ≡ sounding' → tones ≡ tones' → kinds ≡ kinds' → changes ≡ changes' → triggers ≡ triggers' → calls ≡ calls' → counts ≡ counts'
    → ◌≡◌ {A = Tables} (record { rows = rows; sounding = sounding; tones = tones; kinds = kinds; changes = changes; triggers = triggers; calls = calls; counts = counts })
    (record { rows = rows'; sounding = sounding'; tones = tones'; kinds = kinds'; changes = changes'; triggers = triggers'; calls = calls'; counts = counts' })
same_tables a b c d e f g h = rw (a, b, c, d, e, f, g, h)

abbrev pub with_rows : Tables → List ℤ → Tables
with_rows t part = record { rows = part; sounding = t.sounding; tones = t.tones; kinds = t.kinds; changes = t.changes; triggers = t.triggers; calls = t.calls; counts = t.counts }

abbrev pub with_tones : Tables → List ℕ → List ℤ → Tables
with_tones t ks zs = record { rows = t.rows; sounding = ks; tones = zs; kinds = t.kinds; changes = t.changes; triggers = t.triggers; calls = t.calls; counts = t.counts }

abbrev pub with_changes : Tables → List ℕ → List ℤ → Tables
with_changes t ks zs = record { rows = t.rows; sounding = t.sounding; tones = t.tones; kinds = ks; changes = zs; triggers = t.triggers; calls = t.calls; counts = t.counts }

abbrev pub with_orders : Tables → List ℕ → Tables
with_orders t os = record { rows = t.rows; sounding = t.sounding; tones = t.tones; kinds = t.kinds; changes = t.changes; triggers = triggers_in os; calls = calls_in os; counts = t.counts }

abbrev pub with_counts : Tables → List ℕ → Tables
with_counts t part = record { rows = t.rows; sounding = t.sounding; tones = t.tones; kinds = t.kinds; changes = t.changes; triggers = t.triggers; calls = t.calls; counts = part }

module _ {numbers : List ℤ} {codes : List ℕ} (s : Slices numbers codes) where
  pub rows_back : (part : List ℤ) → length part ≡ tones_at → tables_in (spliced 0 tones_at part numbers) codes ≡ with_rows (tables_in numbers codes) part
  unfolding tables_in
  rows_back part k =
      let n : tones_at ≤ length numbers = omega (arith, s.all_numbers_case) in
      same_tables (section_same 0 tones_at part numbers n k) refl (section_after 0 tones_at part numbers n k tones_at most_tones (omega arith)) refl
      (drop_after 0 tones_at part numbers n k changes_at (omega arith)) refl refl refl

  pub tones_back : (ks : List ℕ) (zs : List ℤ) → length ks ≡ most_tones → length zs ≡ most_tones
      → tables_in (spliced tones_at most_tones zs numbers) (spliced sounding_at most_tones ks codes) ≡ with_tones (tables_in numbers codes) ks zs
  unfolding tables_in
  tones_back ks zs k z =
      let n : changes_at ≤ length numbers = omega (arith, s.all_numbers_case) in
      let m : kinds_at ≤ length codes = omega (arith, s.all_codes_case) in
      let behind = drop_after sounding_at most_tones ks codes m k orders_at (omega arith) in
      same_tables (section_before tones_at numbers (omega arith) 0 tones_at (omega arith) (zs ++ drop most_tones (drop tones_at numbers)))
      (section_same sounding_at most_tones ks codes m k) (section_same tones_at most_tones zs numbers n z)
      (section_after sounding_at most_tones ks codes m k kinds_at most_changes (omega arith)) (drop_after tones_at most_tones zs numbers n z changes_at (omega arith))
      (ap triggers_in behind) (ap calls_in behind)
      (section_before sounding_at codes (omega arith) 0 counts_size (omega arith) (ks ++ drop most_tones (drop sounding_at codes)))

  pub changes_back : (ks : List ℕ) (zs : List ℤ) → length ks ≡ most_changes → length zs ≡ most_changes
      → tables_in (spliced changes_at most_changes zs numbers) (spliced kinds_at most_changes ks codes) ≡ with_changes (tables_in numbers codes) ks zs
  unfolding tables_in
  changes_back ks zs k z =
      let n : all_numbers ≤ length numbers = omega (arith, s.all_numbers_case) in
      let m : orders_at ≤ length codes = omega (arith, s.all_codes_case) in
      let behind = ks ++ drop most_changes (drop kinds_at codes) in
      let more = zs ++ drop most_changes (drop changes_at numbers) in
      let rest = drop_after kinds_at most_changes ks codes m k orders_at (omega arith) in
      same_tables (section_before changes_at numbers (omega arith) 0 tones_at (omega arith) more)
      (section_before kinds_at codes (omega arith) sounding_at most_tones (omega arith) behind) (section_before changes_at numbers (omega arith) tones_at most_tones (omega arith) more)
      (section_same kinds_at most_changes ks codes m k) (last_same changes_at most_changes zs numbers n z s.all_numbers_case)
      (ap triggers_in rest) (ap calls_in rest) (section_before kinds_at codes (omega arith) 0 counts_size (omega arith) behind)

  pub orders_length : length (section orders_at (order_width * most_orders) codes) ≡ order_width * most_orders
  orders_length = length-take-le (order_width * most_orders) (drop orders_at codes) (omega (arith, length-drop orders_at codes, s.all_codes_case))

  pub orders_back : (os : List ℕ) → length os ≡ order_width * most_orders
      → tables_in numbers (spliced orders_at (order_width * most_orders) os codes) ≡ with_orders (tables_in numbers codes) os
  unfolding tables_in
  orders_back os k =
      let m : all_codes ≤ length codes = omega (arith, s.all_codes_case) in
      let n : orders_at ≤ length codes = omega arith in
      let behind = os ++ drop (order_width * most_orders) (drop orders_at codes) in
      let rest = last_same orders_at (order_width * most_orders) os codes m k s.all_codes_case in
      same_tables refl (section_before orders_at codes n sounding_at most_tones (omega arith) behind) refl
      (section_before orders_at codes n kinds_at most_changes (omega arith) behind) refl (ap triggers_in rest) (ap calls_in rest)
      (section_before orders_at codes n 0 counts_size (omega arith) behind)

  pub counts_back : (part : List ℕ) → length part ≡ counts_size → tables_in numbers (spliced 0 counts_size part codes) ≡ with_counts (tables_in numbers codes) part
  unfolding tables_in
  counts_back part k =
      let m : counts_size ≤ length codes = omega (arith, s.all_codes_case) in
      let behind = drop_after 0 counts_size part codes m k orders_at (omega arith) in
      same_tables refl (section_after 0 counts_size part codes m k sounding_at most_tones (omega arith)) refl
      (section_after 0 counts_size part codes m k kinds_at most_changes (omega arith)) refl (ap triggers_in behind) (ap calls_in behind)
      (section_same 0 counts_size part codes m k)

-- ---- cleared slices have cleared sections

module _ {A : Type 0} (x : A) where
  drop_zero : (at : ℕ) (l : List A) → drop at (replicate (length l) x) ≡ replicate (length (drop at l)) x
  drop_zero zero l = refl
  drop_zero (suc at) [] = refl
  drop_zero (suc at) (y ∷ l) = drop_zero at l

  take_zero : (k : ℕ) (l : List A) → take k (replicate (length l) x) ≡ replicate (length (take k l)) x
  take_zero zero l = refl
  take_zero (suc k) [] = refl
  take_zero (suc k) (y ∷ l) = ap (λ (r : List A). x ∷ r) (take_zero k l)

  section_zero : (at k : ℕ) (l : List A) → section at k (replicate (length l) x) ≡ replicate (length (section at k l)) x
  section_zero at k l = ap (take k) (drop_zero at l) ∙ take_zero k (drop at l)

column_zero : (k : ℕ) (l : List ℕ) → column k (replicate (length l) 0) ≡ replicate (length (column k l)) 0
unfolding column
column_zero k [] = refl
column_zero zero (y ∷ l) = ap (λ (r : List ℕ). 0 ∷ r) (column_zero 1 l)
column_zero (suc k) (y ∷ l) = column_zero k l

pub cleared : (numbers : List ℤ) (codes : List ℕ)
    → let t = tables_in numbers codes in
    tables_in (replicate (length numbers) (pos 0)) (replicate (length codes) 0)
    ≡ record {
      rows = replicate (length t.rows) (pos 0);
      sounding = replicate (length t.sounding) 0;
      tones = replicate (length t.tones) (pos 0);
      kinds = replicate (length t.kinds) 0;
      changes = replicate (length t.changes) (pos 0);
      triggers = replicate (length t.triggers) 0;
      calls = replicate (length t.calls) 0;
      counts = replicate (length t.counts) 0;
    }
unfolding tables_in
cleared numbers codes =
    let os = drop_zero 0 orders_at codes in
    same_tables (section_zero (pos 0) 0 tones_at numbers) (section_zero 0 sounding_at most_tones codes) (section_zero (pos 0) tones_at most_tones numbers)
    (section_zero 0 kinds_at most_changes codes) (drop_zero (pos 0) changes_at numbers) (ap triggers_in os ∙ column_zero 0 (drop orders_at codes))
    (ap calls_in os ∙ column_zero 1 (drop orders_at codes)) (section_zero 0 0 counts_size codes)
