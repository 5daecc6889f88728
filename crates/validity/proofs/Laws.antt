-- What the rows, tones, changes and orders of valid tables are, as those who decode them need it. Assumes nothing.
use mathlib.Core.Path.{◌≡◌, refl, sym, ◌∙◌, subst}
use mathlib.Core.Bool.{Bool, true, false, cond, ◌&&◌, ◌||◌, false≢true}
use mathlib.Core.List.{List, map}
use Prim.Native.Nat.{ℕ, zero, suc, ◌+◌, ◌*◌, ◌-◌, ◌≤◌, ◌<◌}
use native.Mathlib.Decide.{dec_lt}
use native.Mathlib.Omega.{arith}
use borrow.Author.Tests.{eqb-true, leb-true, ltb-true}
use lib.Dec.{leb, ltb, eqb}
use lib.IntN.{ℤ, pos}
use lib.Signed.{le_z}
use lib.ListN.{length, length-map, get_or, take, drop}
use Rattle.integers.specs.Parts.{up}
use Rattle.integers.proofs.Signed.{signed, abs}
use Rattle.limits.specs.Limits.{most_amount, most_positions, first_letter, last_letter}
use Rattle.tuning.specs.Desk.{is_anchor, is_period, is_tone}
use Rattle.tuning.specs.State.{heard}
use Rattle.tuning.specs.declared.Operator.TheVariants.{Plus, Minus, Times, Divide}
use Rattle.tuning.specs.declared.Amount.{Amount}
use Rattle.tuning.specs.declared.Amount.TheVariants.{Kept, Absolute, Relative}
use Rattle.tuning.specs.declared.Retuning.TheVariants.{Anchor, Width, Period, Tones}
use Rattle.tuning.proofs.Held.{valid_coded}
use Rattle.tuning.proofs.Lists.{both}
use Rattle.tables.specs.declared.Counts.{Counts}
use Rattle.tables.specs.declared.Numbers.{Numbers}
use Rattle.tables.specs.declared.Row.{Row}
use Rattle.tables.specs.declared.Row.TheVariants.{Unused, Interval, Tone, System, Retuning, Logic, Harmony, Pattern}
use Rattle.tables.specs.Layout.{Tables, tables_in, full_size, used, row_count, tone_count, change_count, order_count, row_width, most_rows, most_orders, numbers, number_at, read_at, numbers_of, row_of, row_at, tones_from, tone_of, period_sum, amount_of, amount_number, system_form, anchor_form, width_form, tones_form, logic_form, harmony_form, harmony_base, all_sets}
use Rattle.tables.specs.Values.{system, FieldsFit, Slices}
use Rattle.tables.proofs.Lists.{part_length}
use Rattle.tables.proofs.Sizes.{sizes_is, slices_of}
use Rattle.validity.specs.declared.Ends.{Ends}
use Rattle.validity.specs.Valid.{same, is_sum, is_capital, is_anchor_amount, is_width_amount, is_system_or_retuning, is_called, is_harmony, is_trigger, refers_to, is_start, is_part, no_part, declaration_right, is_own, rows_right, declarations, kinds, kinds_from, kinds_right, Belonging, nothing, tones, changes, orders, belonging, ends, follows, ends_after, parts_follow, orders_right, tone_right, change_right, each_right, all_zero, all_nought, list_right, counts_right, valid_tables}
use Rattle.validity.specs.Inner.{ValidSystem, ValidRetuning}
use Rattle.validity.proofs.Same.{started, called, harmonic}
use Rattle.validity.proofs.Sizes.{Sizes, sizes_of, Room, room_of}
use Rattle.validity.proofs.Pools.{each_slice, tones_right}

-- ---- the test taken apart

pub record Valid (t : Tables) : Type 0 where
  pub sizes : Sizes t
  pub room : Room (used t)
  pub rows : rows_right t 0 (row_count t) ≡ true
  pub parts : parts_follow (used t) (ends 0 0 0) (declarations t.rows 0 (row_count t)) ≡ true
  pub tones : each_right tone_right (take (tone_count t) t.sounding) (take (tone_count t) t.tones) ≡ true
  pub changes : each_right change_right (take (change_count t) t.kinds) (take (change_count t) t.changes) ≡ true
  pub orders : orders_right t 0 (order_count t) ≡ true

pub valid_of : (t : Tables) → valid_tables t ≡ true → Valid t
unfolding valid_tables
valid_of t h =
    let c = used t in
    let rs = declarations t.rows 0 c.rows in
    let whole = taken (full_size t) _ h in
    let a = both _ (all_nought (drop c.orders t.calls)) whole.1 in
    let b = both _ (all_nought (drop c.orders t.triggers)) a.0 in
    let d = both _ (orders_right t 0 c.orders) b.0 in
    let e = both _ (list_right change_right c.changes t.kinds t.changes) d.0 in
    let f = both _ (list_right tone_right c.tones t.sounding t.tones) e.0 in
    let g = both _ (all_zero (drop (row_width * c.rows) t.rows)) f.0 in
    let k = both _ (parts_follow c (ends 0 0 0) rs) g.0 in
    let l = both (counts_right c && rows_right t 0 c.rows) (kinds_right (kinds_from (kinds 0 0 0 0 0 0) rs)) k.0 in
    let m = both (counts_right c) (rows_right t 0 c.rows) l.0 in
    record {
      sizes = sizes_of t whole.0;
      room = room_of c m.0;
      rows = m.1;
      parts = k.1;
      tones = ranged tone_right c.tones t.sounding t.tones f.1;
      changes = ranged change_right c.changes t.kinds t.changes e.1;
      orders = d.1;
    }
  where
    taken : (b x : Bool) → cond b x false ≡ true → (b ≡ true) × (x ≡ true)
    taken true x h = (refl, h)
    taken false x h = absurd (false≢true h)

    ranged : (ok : ℕ → ℤ → Bool) (n : ℕ) (ks : List ℕ) (zs : List ℤ) → list_right ok n ks zs ≡ true → each_right ok (take n ks) (take n zs) ≡ true
    ranged ok n ks zs h =
        let a = both _ (all_zero (drop n zs)) h in
        (both (each_right ok (take n ks) (take n zs)) (all_nought (drop n ks)) a.0).0

-- ---- each row and each order is right

module _ (t : Tables) where
  abbrev RowRight : ℕ → Type 0
  RowRight j = (is_own t.rows j ≡ true) × (declaration_right t (row_at t j) ≡ true)

  rows_at : (i n j : ℕ) → rows_right t i n ≡ true → i ≤ j → j < i + n → RowRight j
  unfolding rows_right
  rows_at i zero j h k m = let e : ⊥ = omega arith in absurd e
  rows_at i (suc n) j h k m =
      let a = both (is_own t.rows i && declaration_right t (row_at t i)) (rows_right t (suc i) n) h in
      elim (dec_lt i j) [
        | yes l ↦ rows_at (suc i) n j a.1 l (omega arith)
        | no l ↦ let e : i ≡ j = omega arith in subst RowRight e (both (is_own t.rows i) (declaration_right t (row_at t i)) a.0)
      ]

  abbrev OrderRight : ℕ → Type 0
  OrderRight j = (is_trigger t (get_or t.triggers j 0) ≡ true) × (refers_to is_called t (get_or t.calls j 0) ≡ true)

  orders_at_step : (i n j : ℕ) → orders_right t i n ≡ true → i ≤ j → j < i + n → OrderRight j
  unfolding orders_right
  orders_at_step i zero j h k m = let e : ⊥ = omega arith in absurd e
  orders_at_step i (suc n) j h k m =
      let trigger = is_trigger t (get_or t.triggers i 0) in
      let known = refers_to is_called t (get_or t.calls i 0) in
      let a = both (trigger && known) (orders_right t (suc i) n) h in
      elim (dec_lt i j) [
        | yes l ↦ orders_at_step (suc i) n j a.1 l (omega arith)
        | no l ↦ let e : i ≡ j = omega arith in subst OrderRight e (both trigger known a.0)
      ]

-- ---- what belongs to a row ends within the counts: rows only add to it, and the last ends at the counts

record Upto (e : Ends) (x y z : ℕ) : Type 0 where
  tones : e.tones ≤ x
  changes : e.changes ≤ y
  orders : e.orders ≤ z

-- where it ends
abbrev EndsWithin : Counts → Belonging → Type 0
EndsWithin c nothing = Unit
EndsWithin c (tones from to) = to ≤ c.tones
EndsWithin c (changes from to) = to ≤ c.changes
EndsWithin c (orders from to) = to ≤ c.orders

-- from one place to another
record InPart (least most from to : ℕ) : Type 0 where
  low : from + least ≤ to
  high : to ≤ from + most

in_part : (least most from to : ℕ) → is_part least most from to ≡ true → InPart least most from to
in_part least most from to h =
    let a = both (leb (from + least) to) (leb to (from + most)) h in
    record { low = leb-true _ _ a.0; high = leb-true _ _ a.1 }

module _ (t : Tables) where
  abbrev c : Counts
  c = used t

  -- the ends after a row are no less than those before it
  grows : (e : Ends) (r : Row) → declaration_right t r ≡ true → follows e (belonging r) ≡ true
      → let f = ends_after e (belonging r) in Upto e f.tones f.changes f.orders
  unfolding declaration_right
  grows e Unused h k = absurd (false≢true h)
  grows e (Interval d) h k = record { tones = omega arith; changes = omega arith; orders = omega arith }
  grows e (Tone p) h k = record { tones = omega arith; changes = omega arith; orders = omega arith }
  grows e (System a P from to) h k =
      let p = in_part 1 most_positions from to (both (is_anchor (pos a.0) && is_period P.0) (is_part 1 most_positions from to) h).1 in
      record { tones = omega (arith, p, eqb-true from e.tones k); changes = omega arith; orders = omega arith }
  grows e (Retuning (Anchor m) from to) h k = record { tones = omega arith; changes = omega arith; orders = omega arith }
  grows e (Retuning (Width m) from to) h k = record { tones = omega arith; changes = omega arith; orders = omega arith }
  grows e (Retuning (Period m) from to) h k = record { tones = omega arith; changes = omega arith; orders = omega arith }
  grows e (Retuning Tones from to) h k =
      let p = in_part 1 most_positions from to h in
      record { tones = omega arith; changes = omega (arith, p, eqb-true from e.changes k); orders = omega arith }
  grows e (Logic x s from to) h k =
      let p = in_part 0 most_orders from to (both (is_trigger t x && is_start t s) (is_part 0 most_orders from to) h).1 in
      record { tones = omega arith; changes = omega arith; orders = omega (arith, p, eqb-true from e.orders k) }
  grows e (Harmony needed named) h k = record { tones = omega arith; changes = omega arith; orders = omega arith }
  grows e Pattern h k = record { tones = omega arith; changes = omega arith; orders = omega arith }

  -- the first of the rows, and those after it
  record First (e : Ends) (i n : ℕ) : Type 0 where
    right : declaration_right t (row_at t i) ≡ true
    follows : follows e (belonging (row_at t i)) ≡ true
    rows : rows_right t (suc i) n ≡ true
    parts : parts_follow c (ends_after e (belonging (row_at t i))) (declarations t.rows (suc i) n) ≡ true

  first : (e : Ends) (i n : ℕ) → rows_right t i (suc n) ≡ true → parts_follow c e (declarations t.rows i (suc n)) ≡ true → First e i n
  unfolding rows_right declarations parts_follow
  first e i n h k =
      let r = row_at t i in
      let a = both (is_own t.rows i && declaration_right t r) (rows_right t (suc i) n) h in
      let b = both (follows e (belonging r)) (parts_follow c (ends_after e (belonging r)) (declarations t.rows (suc i) n)) k in
      record { right = (both (is_own t.rows i) (declaration_right t r) a.0).1; follows = b.0; rows = a.1; parts = b.1 }

  upto : (e : Ends) (i n : ℕ) → rows_right t i n ≡ true → parts_follow c e (declarations t.rows i n) ≡ true → Upto e c.tones c.changes c.orders
  unfolding declarations parts_follow
  upto e i zero h k =
      let a = both (eqb e.tones c.tones && eqb e.changes c.changes) (eqb e.orders c.orders) k in
      let b = both (eqb e.tones c.tones) (eqb e.changes c.changes) a.0 in
      record {
        tones = omega (arith, eqb-true e.tones c.tones b.0);
        changes = omega (arith, eqb-true e.changes c.changes b.1);
        orders = omega (arith, eqb-true e.orders c.orders a.1);
      }
  upto e i (suc n) h k =
      let f = first e i n h k in
      let g = grows e (row_at t i) f.right f.follows in
      let u = upto (ends_after e (belonging (row_at t i))) (suc i) n f.rows f.parts in
      record { tones = omega (arith, g.tones, u.tones); changes = omega (arith, g.changes, u.changes); orders = omega (arith, g.orders, u.orders) }

  own_end : (e : Ends) (b : Belonging) → Upto (ends_after e b) c.tones c.changes c.orders → EndsWithin c b
  own_end e nothing u = tt
  own_end e (tones from to) u = u.tones
  own_end e (changes from to) u = u.changes
  own_end e (orders from to) u = u.orders

  ends_at : (e : Ends) (i n j : ℕ) → rows_right t i n ≡ true → parts_follow c e (declarations t.rows i n) ≡ true → i ≤ j → j < i + n
      → EndsWithin c (belonging (row_at t j))
  ends_at e i zero j h k l m = let q : ⊥ = omega arith in absurd q
  ends_at e i (suc n) j h k l m =
      let f = first e i n h k in
      let after = ends_after e (belonging (row_at t i)) in
      elim (dec_lt i j) [
        | yes q ↦ ends_at after (suc i) n j f.rows f.parts q (omega arith)
        | no q ↦
            let s : i ≡ j = omega arith in
            subst (λ (x : ℕ). EndsWithin c (belonging (row_at t x))) s (own_end e (belonging (row_at t i)) (upto after (suc i) n f.rows f.parts))
      ]

-- ---- what a row of each form has

-- a reference to one of the rows, of a form from `low` to `high`
pub record Refers (t : Tables) (low high i : ℕ) : Type 0 where
  pub within : i < row_count t
  pub least : low ≤ (read_at t.rows i).form
  pub most : (read_at t.rows i).form ≤ high

-- a trigger: a letter, or 256 and the number of one of the rows, a harmony
pub data ValidTrigger (t : Tables) (c : ℕ) : Type 0 where
  of_letter_case : is_capital c ≡ true → ValidTrigger t c
  of_harmony : harmony_base ≤ c → Refers t harmony_form harmony_form (c - harmony_base) → is_harmony (row_at t (c - harmony_base)) ≡ true → ValidTrigger t c

pub record ValidLogic (t : Tables) (c number from to : ℕ) : Type 0 where
  pub trigger : ValidTrigger t c
  pub start : 1 ≤ number → Refers t system_form tones_form (number - 1)
  pub order : from ≤ to
  pub within : to ≤ order_count t

-- a harmony: its sets are of key numbers to 59
pub record ValidHarmony (n m : ℕ) : Type 0 where
  pub needed : n < all_sets
  pub named : m < all_sets

abbrev pub ValidRow : Tables → Row → Type 0
ValidRow t Unused = ⊥
ValidRow t (Interval d) = (is_tone d.0 ≡ true)
ValidRow t (Tone p) = (is_tone p.0 ≡ true)
ValidRow t (System a P from to) = ValidSystem t a.0 P.0 from to
ValidRow t (Retuning r from to) = ValidRetuning t from to
ValidRow t (Logic c s from to) = ValidLogic t c s from to
ValidRow t (Harmony needed named) = ValidHarmony needed named
ValidRow t Pattern = Unit

-- by the test of the row that is referred to, which is that of its form
refers : (t : Tables) (is : Row → Bool) (low high i : ℕ) → (is (row_at t i) ≡ leb low (read_at t.rows i).form && leb (read_at t.rows i).form high)
    → refers_to is t i ≡ true → Refers t low high i
refers t is low high i e h =
    let form = (read_at t.rows i).form in
    let a = both (ltb i (row_count t)) (is (row_at t i)) h in
    let b = both (leb low form) (leb form high) (sym e ∙ a.1) in
    record { within = ltb-true _ _ a.0; least = leb-true _ _ b.0; most = leb-true _ _ b.1 }

trigger_valid : (t : Tables) (c : ℕ) → is_trigger t c ≡ true → ValidTrigger t c
trigger_valid t c h = either (is_capital c) refl h
  where
    either : (b : Bool) → is_capital c ≡ b → b || (leb harmony_base c && refers_to is_harmony t (c - harmony_base)) ≡ true → ValidTrigger t c
    either true e h = of_letter_case e
    either false e h =
        let j = c - harmony_base in
        let a = both (leb harmony_base c) (refers_to is_harmony t j) h in
        let r = read_at t.rows j in
        of_harmony (leb-true harmony_base c a.0)
        (refers t is_harmony harmony_form harmony_form j (harmonic r.first r.second r.from r.to r.form) a.1)
        (both (ltb j (row_count t)) (is_harmony (row_at t j)) a.1).1

-- so it is small
pub trigger_small : (t : Tables) (c : ℕ) → ValidTrigger t c → c < harmony_base + row_count t
trigger_small t c (of_letter_case h) = omega (arith, leb-true c last_letter (both (leb first_letter c) (leb c last_letter) h).1)
trigger_small t c (of_harmony h r is) = omega (arith, h, r.within)

module _ (t : Tables) (v : Valid t) where
  system_valid : (a : ℕ) (b : ℤ) (m n : ℕ) → is_anchor (pos a) ≡ true → is_period b ≡ true → InPart 1 most_positions m n → n ≤ tone_count t
      → ValidSystem t a b m n
  system_valid a b m n h k p w =
      let s = v.sizes in
      let r = v.room.tones in
      let ks : n ≤ length t.sounding = omega (arith, w, s.sounding, r) in
      let zs : n ≤ length t.tones = omega (arith, w, s.tones, r) in
      let l = tones_from t m n in
      let size : length (map heard l) ≡ n - m = length-map l heard ∙ part_length tone_of t.sounding t.tones m n ks zs in
      record {
        part = record { order = omega (arith, p); most = p.high; kinds = ks; numbers = zs };
        state =
            valid_coded (system a l b)
            (record {
              anchor = leb-true a 127 (both (leb 0 a) (leb a 127) h).1;
              least = omega (arith, size, p);
              most = omega (arith, size, p);
              period = k;
              tones = tones_right _ _ (each_slice tone_right m n (tone_count t) t.sounding t.tones w v.tones);
            });
      }

  retuning_valid : (least m n : ℕ) → InPart least most_positions m n → n ≤ change_count t → ValidRetuning t m n
  retuning_valid least m n p w =
      let s = v.sizes in
      let k = v.room.changes in
      record { order = omega (arith, p); most = p.high; kinds = omega (arith, w, s.kinds, k); numbers = omega (arith, w, s.changes, k) }

  -- one to which nothing belongs
  bare_valid : (m n : ℕ) → no_part m n ≡ true → ValidRetuning t m n
  bare_valid m n k =
      let a = both (eqb m 0) (eqb n 0) k in
      let e = eqb-true m 0 a.0 in
      let f = eqb-true n 0 a.1 in
      retuning_valid 0 m n (record { low = omega arith; high = omega arith }) (omega arith)

  start_valid : (s : ℕ) → is_start t s ≡ true → 1 ≤ s → Refers t system_form tones_form (s - 1)
  start_valid zero h l = let e : ⊥ = omega arith in absurd e
  start_valid (suc k) h l =
      let e : suc k - 1 ≡ k = omega arith in
      let r = read_at t.rows k in
      rw e (refers t is_system_or_retuning system_form tones_form k (started r.first r.second r.from r.to r.form) h)

  -- a row by its declaration
  declaration_valid : (r : Row) → declaration_right t r ≡ true → EndsWithin (used t) (belonging r) → ValidRow t r
  unfolding declaration_right
  declaration_valid Unused h w = absurd (false≢true h)
  declaration_valid (Interval d) h w = h
  declaration_valid (Tone p) h w = h
  declaration_valid (System a P from to) h w =
      let b = both (is_anchor (pos a.0) && is_period P.0) (is_part 1 most_positions from to) h in
      let d = both (is_anchor (pos a.0)) (is_period P.0) b.0 in
      system_valid a.0 P.0 from to d.0 d.1 (in_part 1 most_positions from to b.1) w
  declaration_valid (Retuning (Anchor m) from to) h w = bare_valid from to (both (is_anchor_amount m) (no_part from to) h).1
  declaration_valid (Retuning (Width m) from to) h w = bare_valid from to (both (is_width_amount m) (no_part from to) h).1
  declaration_valid (Retuning (Period m) from to) h w =
      bare_valid from to (both (is_sum (period_sum m)) (no_part from to) h).1
  declaration_valid (Retuning Tones from to) h w = retuning_valid 1 from to (in_part 1 most_positions from to h) w
  declaration_valid (Logic x s from to) h w =
      let b = both (is_trigger t x && is_start t s) (is_part 0 most_orders from to) h in
      let d = both (is_trigger t x) (is_start t s) b.0 in
      record { trigger = trigger_valid t x d.0; start = start_valid s d.1; order = omega (arith, in_part 0 most_orders from to b.1); within = w }
  declaration_valid (Harmony needed named) h w =
      let b = both (ltb needed all_sets) (ltb named all_sets) h in
      record { needed = ltb-true needed all_sets b.0; named = ltb-true named all_sets b.1 }
  declaration_valid Pattern h w = tt

-- ---- a row's numbers fit its fields

anchor_small : (m : Amount) → is_anchor_amount m ≡ true → amount_number m ≤ most_amount
anchor_small Kept h = omega arith
anchor_small (Absolute n) h = leb-true n most_amount h
anchor_small (Relative Plus n) h = leb-true n most_amount h
anchor_small (Relative Minus n) h = leb-true n most_amount h
anchor_small (Relative Times n) h = absurd (false≢true h)
anchor_small (Relative Divide n) h = absurd (false≢true h)

width_small : (m : Amount) → is_width_amount m ≡ true → amount_number m ≤ most_amount
width_small Kept h = omega arith
width_small (Absolute n) h = leb-true n most_amount h
width_small (Relative Plus n) h = leb-true n most_amount h
width_small (Relative Minus n) h = leb-true n most_amount h
width_small (Relative Times n) h = leb-true n most_amount h
width_small (Relative Divide n) h = leb-true n most_amount h

up_small : (n : ℕ) (z : ℤ) → same (pos n) z ≡ true → up z ≤ n
up_small n z h = omega (signed, (both (le_z (pos n) z) (le_z z (pos n)) h).1, abs z)

module _ (t : Tables) (room : row_count t ≤ most_rows) (i : ℕ) (own : is_own t.rows i ≡ true) (h : declaration_right t (row_at t i) ≡ true) where
  abbrev r : Numbers
  r = read_at t.rows i

  -- its declaration, where the form is f
  abbrev at : ℕ → Row
  at f = row_of (numbers f r.first r.second r.from r.to)

  second_own : same (numbers_of (at r.form)).second r.second ≡ true
  unfolding is_own
  second_own =
      let n = numbers_of (at r.form) in
      let before = same (pos n.form) (number_at t.rows i 0) && same n.first r.first in
      let second = same n.second r.second in
      let from = same (pos n.from) (number_at t.rows i 3) in
      let x = both (before && second && from) (same (pos n.to) (number_at t.rows i 4)) own in
      (both before second (both (before && second) from x.0).0).1

  right_at_step : (f : ℕ) → r.form ≡ f → declaration_right t (at f) ≡ true
  right_at_step f e = subst (λ (x : ℕ). declaration_right t (at x) ≡ true) e h

  second_at : (f : ℕ) → r.form ≡ f → same (numbers_of (at f)).second r.second ≡ true
  second_at f e = subst (λ (x : ℕ). same (numbers_of (at x)).second r.second ≡ true) e second_own

  fields : FieldsFit r
  unfolding declaration_right row_of
  fields =
      let x = up r.first in
      let m = amount_of x (up r.second) in
      record {
        anchor = λ e.
            let b = both (is_anchor (pos x) && is_period r.second) (is_part 1 most_positions r.from r.to) (right_at_step system_form e) in
            omega (arith, leb-true x 127 (both (leb 0 x) (leb x 127) (both (is_anchor (pos x)) (is_period r.second) b.0).0).1);
        anchor_by = λ e.
            let b = both (is_anchor_amount m) (no_part r.from r.to) (right_at_step anchor_form e) in
            omega (arith, anchor_small m b.0, up_small (amount_number m) r.second (second_at anchor_form e));
        width_by = λ e.
            let b = both (is_width_amount m) (no_part r.from r.to) (right_at_step width_form e) in
            omega (arith, width_small m b.0, up_small (amount_number m) r.second (second_at width_form e));
        trigger = λ e.
            let b = both (is_trigger t x && is_start t (up r.second)) (is_part 0 most_orders r.from r.to) (right_at_step logic_form e) in
            let d = both (is_trigger t x) (is_start t (up r.second)) b.0 in
            omega (arith, room, trigger_small t x (trigger_valid t x d.0));
      }

-- ---- for those who call

-- the row of each declaration has what a call needs
pub row_valid : (t : Tables) → valid_tables t ≡ true → (i : ℕ) → i < row_count t → ValidRow t (row_at t i)
row_valid t h i k =
    let v = valid_of t h in
    declaration_valid t v (row_at t i) (rows_at t 0 (row_count t) i v.rows (omega arith) (omega arith)).1
    (ends_at t (ends 0 0 0) 0 (row_count t) i v.rows v.parts (omega arith) (omega arith))

-- and its numbers fit the fields of a row
pub fields_fit : (t : Tables) → valid_tables t ≡ true → (i : ℕ) → i < row_count t → FieldsFit (read_at t.rows i)
fields_fit t h i k =
    let v = valid_of t h in
    let a = rows_at t 0 (row_count t) i v.rows (omega arith) (omega arith) in
    fields t v.room.rows i a.0 a.1

-- an order calls a tone system, a retuning or a logic, by a trigger
module _ (t : Tables) (h : valid_tables t ≡ true) (i : ℕ) (k : i < order_count t) where
  order_right_step : OrderRight t i
  order_right_step = orders_at_step t 0 (order_count t) i (valid_of t h).orders (omega arith) (omega arith)

  pub order_valid : Refers t system_form logic_form (get_or t.calls i 0)
  order_valid =
      let j = get_or t.calls i 0 in
      let r = read_at t.rows j in
      refers t is_called system_form logic_form j (called r.first r.second r.from r.to r.form) order_right_step.1

  pub order_trigger : ValidTrigger t (get_or t.triggers i 0)
  order_trigger = trigger_valid t (get_or t.triggers i 0) order_right_step.0

-- the slices of valid tables are of full size
pub slices_valid : (numbers : List ℤ) (codes : List ℕ) → valid_tables (tables_in numbers codes) ≡ true → Slices numbers codes
slices_valid numbers codes h = slices_of numbers codes (sizes_is (tables_in numbers codes) (valid_of (tables_in numbers codes) h).sizes)
