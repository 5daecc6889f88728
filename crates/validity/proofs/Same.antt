-- The test as the code makes it comes to the same as `valid_tables`. Assumes nothing.
use mathlib.Core.Path.{◌≡◌, refl, sym, ap, ◌∙◌}
use mathlib.Core.Bool.{Bool, true, false, not, ◌&&◌, ◌||◌, and-true, and-false, and_assoc, and_comm}
use mathlib.Core.List.{List, [], ◌∷◌}
use Prim.Native.Nat.{ℕ, zero, suc, ◌+◌, ◌-◌, ◌*◌, ◌/◌, ◌%◌, ◌≤◌, ◌<◌}
use native.Mathlib.Omega.{arith}
use borrow.Author.Tests.{ne_eqb, leb-true, ltb-true, le-leb, lt-leb, lt-ltb}
use lib.Dec.{leb, ltb, eqb, leb-zero, leb-suc-zero}
use lib.IntN.{ℤ, pos, negsuc}
use lib.Signed.{le_z}
use lib.ListN.{get_or, take}
use Rattle.integers.specs.Parts.{up}
use Rattle.limits.specs.Limits.{most_anchor, most_positions}
use Rattle.tuning.specs.Desk.{between, is_tone, is_anchor, is_period}
use Rattle.tuning.proofs.Lists.{both}
use Rattle.tuning.specs.declared.Operator.TheVariants.{Divide}
use Rattle.tuning.specs.declared.Amount.{Amount}
use Rattle.tuning.specs.declared.Amount.TheVariants.{Relative}
use Rattle.tuning.specs.declared.PeriodChange.{PeriodChange}
use Rattle.tables.specs.declared.Row.{Row}
use Rattle.tables.specs.declared.Row.TheVariants.{Unused}
use Rattle.tables.specs.Layout.{Tables, numbers, number_at, read_at, most_orders, numbers_of, row_of, row_count, used, system_form, tones_form, logic_form, harmony_form, pattern_form, harmony_base, half_set, all_sets, amount_of, amount_code, amount_number, period_of, period_code, period_sum, kept_code, absolute_code, plus_code, minus_code, times_code, divide_code, fresh_code, onward_code, muted_code, sounds_code, mute_code, move_code, set_code}
use Rattle.tables.proofs.Forms.{by_form, past_forms, no_row_holds}
use Rattle.tables.proofs.Sizes.{alike}
use Rattle.validity.specs.declared.Kinds.{Kinds}
use Rattle.validity.specs.declared.Ends.{Ends}
use Rattle.validity.specs.Valid.{same, no_part, is_part, is_sum, is_trigger, is_harmony, is_anchor_amount, is_width_amount, is_system_or_retuning, is_called, refers_to, is_start, declaration_right, is_own, rows_right, declarations, kinds, one_more, kinds_from, kinds_right, belonging, ends, follows, ends_after, parts_follow, orders_right, tone_right, change_right, each_right, list_right, counts_right, valid_tables}
use Rattle.validity.proofs.Runs.{kinds_above, zero_bounds}
use Rattle.validity.specs.Inner.{is_zero, is_amount, is_form, is_start_code, is_trigger_code, most_half, is_half, fast_row, kinds_with, ends_with, fast_rows, fast_orders, fast_each, fast_list, fast_tables}

-- ---- signed numbers and their natural parts

le_self : (n : ℕ) → leb n n ≡ true
le_self n = le-leb n n (omega arith)

same_self : (z : ℤ) → le_z z z ≡ true
same_self (pos n) = le_self n
same_self (negsuc n) = le_self n

up_below : (z : ℤ) → le_z (pos (up z)) z ≡ le_z (pos 0) z
up_below (pos n) = le_self n ∙ sym (leb-zero n)
up_below (negsuc n) = refl

up_above : (z : ℤ) → le_z z (pos (up z)) ≡ true
up_above (pos n) = le_self n
up_above (negsuc n) = refl

up_most : (z : ℤ) (m : ℕ) → leb (up z) m ≡ le_z z (pos m)
up_most (pos n) m = refl
up_most (negsuc n) m = leb-zero m

-- ---- and

pub swapped : (a b c : Bool) → a && b && c ≡ a && (c && b)
swapped true b c = and_comm b c
swapped false b c = refl

-- ---- the forms of rows

no_fast : (f : ℕ) (a b : ℤ) (m n : ℕ) → pattern_form < f → (rows : List ℤ) (count : ℕ) (e : Ends) → fast_row rows count e (numbers f a b m n) ≡ false
unfolding fast_row
no_fast f a b m n h rows count e = past_forms f h _ _ _ _ _ _ _ _ _ _ _

-- ---- amounts, periods and starts

zero_most : (z : ℤ) (m : ℕ) → le_z z (pos m) && le_z z (pos 0) ≡ le_z z (pos 0)
zero_most (pos zero) m = rw (leb-zero m)
zero_most (pos (suc n)) m = simp (leb-suc-zero n, and-false)
zero_most (negsuc n) m = refl

-- a code that is no less than that of `/` says `/`
divide_code_holds : (code n : ℕ) → divide_code ≤ code → amount_of code n ≡ Relative Divide n
divide_code_holds code n h =
    simp (
      ne_eqb code kept_code (omega arith),
      ne_eqb code absolute_code (omega arith),
      ne_eqb code plus_code (omega arith),
      ne_eqb code minus_code (omega arith),
      ne_eqb code times_code (omega arith),
    )

anchor_same : (a b : ℤ) → let m = amount_of (up a) (up b) in
    same (pos (amount_code m)) a && same (pos (amount_number m)) b && is_anchor_amount m ≡ is_amount minus_code a b
anchor_same (negsuc k) b = refl
anchor_same (pos zero) b = simp (and-true, and_assoc, zero_most)
anchor_same (pos (suc zero)) b = simp (up_below, up_above, up_most, and-true)
anchor_same (pos (suc (suc zero))) b = simp (up_below, up_above, up_most, and-true)
anchor_same (pos (suc (suc (suc zero)))) b = simp (up_below, up_above, up_most, and-true)
anchor_same (pos (suc (suc (suc (suc zero))))) b = simp and-false
anchor_same (pos (suc (suc (suc (suc (suc k)))))) b =
    let code = suc (suc (suc (suc (suc k)))) in
    simp (divide_code_holds code (up b) (omega arith), and-false, lt-leb code minus_code (omega arith))

width_same : (a b : ℤ) → let m = amount_of (up a) (up b) in
    same (pos (amount_code m)) a && same (pos (amount_number m)) b && is_width_amount m ≡ is_amount divide_code a b
width_same (negsuc k) b = refl
width_same (pos zero) b = simp (and-true, and_assoc, zero_most)
width_same (pos (suc zero)) b = simp (up_below, up_above, up_most, and-true)
width_same (pos (suc (suc zero))) b = simp (up_below, up_above, up_most, and-true)
width_same (pos (suc (suc (suc zero)))) b = simp (up_below, up_above, up_most, and-true)
width_same (pos (suc (suc (suc (suc zero))))) b = simp (up_below, up_above, up_most, and-true)
width_same (pos (suc (suc (suc (suc (suc zero)))))) b = simp (up_below, up_above, up_most, and-true)
width_same (pos (suc (suc (suc (suc (suc (suc k))))))) b =
    let code = suc (suc (suc (suc (suc (suc k))))) in
    simp (divide_code_holds code (up b) (omega arith), lt-leb code divide_code (omega arith), and-false)

period_same : (a b : ℤ) → let m = period_of (up a) b in
    same (pos (period_code m)) a && same (period_sum m) b && is_sum (period_sum m) ≡ between (pos fresh_code) (pos onward_code) a && is_sum b
period_same (negsuc k) b = refl
period_same (pos zero) b = simp (same_self b)
period_same (pos (suc zero)) b = simp (same_self b)
period_same (pos (suc (suc k))) b = simp (ne_eqb (suc (suc k)) fresh_code (omega arith), lt-leb (suc (suc k)) onward_code (omega arith), and-false)

-- ---- what a row is to those who call it, and what it counts as

module _ (a b : ℤ) (m n : ℕ) where
  -- a row of this form
  abbrev row : ℕ → Row
  row f = row_of (numbers f a b m n)

  none : {A : Type 0} (g : Row → A) (f : ℕ) → pattern_form < f → g (row f) ≡ g Unused
  none g f h = ap g (no_row_holds f a b m n h)

  pub started : (f : ℕ) → is_system_or_retuning (row f) ≡ leb system_form f && leb f tones_form
  unfolding row_of
  started = by_form (λ f. is_system_or_retuning (row f) ≡ leb system_form f && leb f tones_form) refl refl refl refl refl refl refl refl refl refl refl
      (λ f h. none is_system_or_retuning f h ∙ simp (lt-leb f tones_form (omega arith), and-false))

  pub called : (f : ℕ) → is_called (row f) ≡ leb system_form f && leb f logic_form
  unfolding row_of
  called = by_form (λ f. is_called (row f) ≡ leb system_form f && leb f logic_form) refl refl refl refl refl refl refl refl refl refl refl
      (λ f h. none is_called f h ∙ simp (lt-leb f logic_form (omega arith), and-false))

  pub harmonic : (f : ℕ) → is_harmony (row f) ≡ leb harmony_form f && leb f harmony_form
  unfolding row_of
  harmonic = by_form (λ f. is_harmony (row f) ≡ leb harmony_form f && leb f harmony_form) refl refl refl refl refl refl refl refl refl refl refl
      (λ f h. none is_harmony f h ∙ simp (lt-leb f harmony_form (omega arith), and-false))

  kinds_same : (k : Kinds) (f : ℕ) → one_more k (row f) ≡ kinds_with k f
  unfolding row_of kinds_with
  kinds_same k = by_form (λ f. one_more k (row f) ≡ kinds_with k f) refl refl refl refl refl refl refl refl refl refl refl (λ f h. none (one_more k) f h ∙ kinds_above k f h)

  ends_same : (e : Ends) (f : ℕ) → ends_after e (belonging (row f)) ≡ ends_with e f n
  unfolding row_of ends_with
  ends_same e = by_form (λ f. ends_after e (belonging (row f)) ≡ ends_with e f n) refl refl refl refl refl refl refl refl refl refl refl
      (λ f h.
      none (λ r. ends_after e (belonging r)) f h
      ∙ simp (ne_eqb f system_form (omega arith), ne_eqb f tones_form (omega arith), ne_eqb f logic_form (omega arith)))

-- ---- a row

-- a number that the declaration has as it stands, and one that is natural there
pub same_both : (z : ℤ) → same z z ≡ true
same_both z = rw (same_self z)

same_up : (z : ℤ) → same (pos (up z)) z ≡ le_z (pos 0) z
same_up z = rw (up_below z, up_above z) (and-true _)

-- none but zeros follow: intervals and tones
zeros_same : (a b x y : ℤ) → same a a && is_zero b && is_zero x && is_zero y && is_tone a && true
    ≡ (le_z (pos 0) x && le_z (pos 0) y) && (is_tone a && is_zero b && no_part (up x) (up y))
zeros_same a b x y = rw (same_both a) (last (is_tone a) (is_zero b) (is_zero x) (is_zero y) ∙ zero_bounds (is_tone a && is_zero b) x y)
  where
    last : (a b x y : Bool) → b && x && y && a && true ≡ a && b && x && y
    last true b x y = rw (and-true (b && x && y), and-true (b && x && y))
    last false b x y = rw (and-false (b && x && y))

-- the bounds of what belongs to a row are natural numbers
bounds_same : (s d f : Bool) (x y : ℤ) {r : Bool} → s && d && f ≡ r
    → s && same (pos (up x)) x && same (pos (up y)) y && d && f ≡ (le_z (pos 0) x && le_z (pos 0) y) && r
bounds_same s d f x y q = rw (same_up x, same_up y, sym q) (moved s (le_z (pos 0) x) (le_z (pos 0) y))
  where
    moved : (s p q : Bool) → s && p && q && d && f ≡ (p && q) && (s && d && f)
    moved true p q = and_assoc (p && q) d f
    moved false p q = sym (and-false (p && q))

nothing_same : (s d n : Bool) {r : Bool} → s && d ≡ r → s && (d && n) && true ≡ r && n
nothing_same s d n e = and-true (s && (d && n)) ∙ sym (and_assoc s d n) ∙ ap (λ (b : Bool). b && n) e

-- ---- a set of key numbers: two numbers of thirty bits each give one below all_sets, and back

set_same : (a b : ℤ) → let s = up a + up b * half_set in
    same (pos (s % half_set)) a && same (pos (s / half_set)) b && ltb s all_sets ≡ is_half a && is_half b
set_same (negsuc k) b = refl
set_same (pos m) (negsuc k) = rw (and-false (same (pos ((m + 0 * half_set) % half_set)) (pos m)), and-false (is_half (pos m)))
set_same (pos m) (pos k) =
    let s = m + k * half_set in
    let first = same (pos (s % half_set)) (pos m) in
    let second = same (pos (s / half_set)) (pos k) in
    alike (first && second && ltb s all_sets) (is_half (pos m) && is_half (pos k))
    (λ h.
    let x = both (first && second) (ltb s all_sets) h in
    let y = both first second x.0 in
    let p = leb-true m (s % half_set) (both (leb (s % half_set) m) (leb m (s % half_set)) y.0).1 in
    let q = leb-true k (s / half_set) (both (leb (s / half_set) k) (leb k (s / half_set)) y.1).1 in
    let r = ltb-true s all_sets x.1 in
    rw (leb-zero m, leb-zero k, le-leb m most_half (omega arith), le-leb k most_half (omega arith)))
    (λ h.
    let x = both (is_half (pos m)) (is_half (pos k)) h in
    let p = leb-true m most_half (both (leb 0 m) (leb m most_half) x.0).1 in
    let q = leb-true k most_half (both (leb 0 k) (leb k most_half) x.1).1 in
    let e : s % half_set ≡ m = omega arith in
    let f : s / half_set ≡ k = omega arith in
    rw (e, f, le_self m, le_self k, lt-ltb s all_sets (omega arith)))

harmony_same : (a b x y : ℤ) → let s = up a + up b * half_set in let u = up x + up y * half_set in
    same (pos (s % half_set)) a && same (pos (s / half_set)) b && same (pos (u % half_set)) x && same (pos (u / half_set)) y
    && (ltb s all_sets && ltb u all_sets) && true
    ≡ (le_z (pos 0) x && le_z (pos 0) y) && (is_half a && is_half b && leb (up x) most_half && leb (up y) most_half)
harmony_same a b x y =
    let s = up a + up b * half_set in
    let u = up x + up y * half_set in
    paired (same (pos (s % half_set)) a && same (pos (s / half_set)) b) (same (pos (u % half_set)) x) (same (pos (u / half_set)) y) (ltb s all_sets) (ltb u all_sets)
    ∙ rw (set_same a b, set_same x y, up_most x most_half, up_most y most_half)
    (apart (is_half a && is_half b) (le_z (pos 0) x) (le_z x (pos most_half)) (le_z (pos 0) y) (le_z y (pos most_half)))
  where
    paired : (p q r l m : Bool) → p && q && r && (l && m) && true ≡ (p && l) && (q && r && m)
    paired true q r true m = and-true (q && r && m)
    paired true q r false m = and-true (q && r && false) ∙ and-false (q && r)
    paired false q r l m = refl

    apart : (h p q r s : Bool) → h && ((p && q) && (r && s)) ≡ (p && r) && (h && q && s)
    apart true true q true s = refl
    apart true true q false s = and-false q
    apart true false q r s = refl
    apart false p q r s = sym (and-false (p && r))

module _ (t : Tables) where
  harmony_referred : (i : ℕ) → refers_to is_harmony t i ≡ is_form t.rows (row_count t) harmony_form harmony_form i
  harmony_referred i =
      let r = read_at t.rows i in
      rw (harmonic r.first r.second r.from r.to r.form) (sym (and_assoc (ltb i (row_count t)) (leb harmony_form r.form) (leb r.form harmony_form)))

  trigger_code_step : (n : ℕ) → is_trigger t n ≡ is_trigger_code t.rows (row_count t) (pos n)
  trigger_code_step n = rw (harmony_referred (n - harmony_base))

  trigger_same : (z : ℤ) → same (pos (up z)) z && is_trigger t (up z) ≡ is_trigger_code t.rows (row_count t) z
  trigger_same (pos n) = rw (le_self n) (trigger_code_step n)
  trigger_same (negsuc n) = refl

  start_same : (b : ℤ) → same (pos (up b)) b && is_start t (up b) ≡ is_start_code t.rows (row_count t) b
  start_same (negsuc k) = refl
  start_same (pos zero) = refl
  start_same (pos (suc k)) =
      let r = read_at t.rows k in
      let j : suc k - 1 ≡ k = omega arith in
      let is = started r.first r.second r.from r.to r.form in
      rw (le_self (suc k), leb-suc-zero k, and-false (leb 0 (suc k)), le-leb 1 (suc k) (omega arith), j, is)
      (sym (and_assoc (ltb k (row_count t)) (leb system_form r.form) (leb r.form tones_form)))

  called_same : (i : ℕ) → refers_to is_called t i ≡ is_form t.rows (row_count t) system_form logic_form i
  called_same i =
      let r = read_at t.rows i in
      rw (called r.first r.second r.from r.to r.form) (sym (and_assoc (ltb i (row_count t)) (leb system_form r.form) (leb r.form logic_form)))

  system_same : (a b : ℤ) (p f : Bool)
      → same (pos (up a)) a && same b b && (is_anchor (pos (up a)) && is_period b && p) && f ≡ is_anchor a && is_period b && (p && f)
  system_same a b p f = rw (same_up a, same_both b, leb-zero (up a), up_most a most_anchor) (simp (and-true, and_assoc))

  logic_same : (a b : ℤ) (p f : Bool)
      → same (pos (up a)) a && same (pos (up b)) b && (is_trigger t (up a) && is_start t (up b) && p) && f
      ≡ is_trigger_code t.rows (row_count t) a && is_start_code t.rows (row_count t) b && (p && f)
  logic_same a b p f =
      paired (same (pos (up a)) a) (same (pos (up b)) b) (is_trigger t (up a)) (is_start t (up b))
      ∙ rw (trigger_same a, start_same b)
    where
      paired : (x y l s : Bool) → x && y && (l && s && p) && f ≡ (x && l) && (y && s) && (p && f)
      paired true true l s = and_assoc (l && s) p f
      paired true false l s = rw (and-false l)
      paired false y l s = refl

  -- the five numbers z a b x y, of which z is the form
  module _ (e : Ends) (a b x y : ℤ) where
    abbrev right : Row → ℤ → Bool
    right r z =
        let n = numbers_of r in
        same (pos n.form) z && same n.first a && same n.second b && same (pos n.from) x && same (pos n.to) y && declaration_right t r
        && follows e (belonging r)

    abbrev right_at : ℤ → Bool
    right_at z = right (row a b (up x) (up y) (up z)) z

    abbrev fast_at : ℤ → Bool
    fast_at z = (le_z (pos 0) z && le_z (pos 0) x && le_z (pos 0) y) && fast_row t.rows (row_count t) e (numbers (up z) a b (up x) (up y))

    never : (o f r : Bool) → o && false && f ≡ r && false
    never o f r = rw (and-false o) (sym (and-false r))

    abbrev m : Amount
    m = amount_of (up a) (up b)

    abbrev p : PeriodChange
    p = period_of (up a) b

    abbrev amounts : Bool
    amounts = same (pos (amount_code m)) a && same (pos (amount_number m)) b

    abbrev periods : Bool
    periods = same (pos (period_code p)) a && same (period_sum p) b

    abbrev bare : Bool
    bare = no_part (up x) (up y)

    abbrev part : ℕ → ℕ → Bool
    part least most = is_part least most (up x) (up y)

    row_same : (z : ℤ) → right_at z ≡ fast_at z
    unfolding row_of declaration_right fast_row
    row_same (negsuc k) = refl
    row_same (pos f) = by_form (λ f. right_at (pos f) ≡ fast_at (pos f))
        (never (is_zero a && is_zero b && is_zero x && is_zero y) true (le_z (pos 0) x && le_z (pos 0) y))
        (zeros_same a b x y)
        (zeros_same a b x y)
        (bounds_same (same (pos (up a)) a && same b b) (is_anchor (pos (up a)) && is_period b && part 1 most_positions) (eqb (up x) e.tones) x y
        (system_same a b (part 1 most_positions) (eqb (up x) e.tones)))
        (bounds_same amounts (is_anchor_amount m && bare) true x y (nothing_same amounts (is_anchor_amount m) bare (anchor_same a b)))
        (bounds_same amounts (is_width_amount m && bare) true x y (nothing_same amounts (is_width_amount m) bare (width_same a b)))
        (bounds_same periods (is_sum (period_sum p) && bare) true x y (nothing_same periods (is_sum (period_sum p)) bare (period_same a b)))
        (bounds_same (is_zero a && is_zero b) (part 1 most_positions) (eqb (up x) e.changes) x y
        (and_assoc (is_zero a && is_zero b) (part 1 most_positions) (eqb (up x) e.changes)))
        (bounds_same (same (pos (up a)) a && same (pos (up b)) b) (is_trigger t (up a) && is_start t (up b) && part 0 most_orders) (eqb (up x) e.orders) x y
        (logic_same a b (part 0 most_orders) (eqb (up x) e.orders)))
        (harmony_same a b x y)
        (simp and-true (zero_bounds (is_zero a && is_zero b) x y))
        unknown
        f
      where
        unknown : (f : ℕ) → pattern_form < f → right_at (pos f) ≡ fast_at (pos f)
        unknown f h =
            ap (λ (r : Row). right r (pos f)) (no_row_holds f a b (up x) (up y) h)
            ∙ rw (no_fast f a b (up x) (up y) h t.rows (row_count t) e)
            (never (is_zero (pos f) && is_zero a && is_zero b && is_zero x && is_zero y) true (le_z (pos 0) (pos f) && le_z (pos 0) x && le_z (pos 0) y))

-- ---- the rows, what they count and where their own end

shifted : (x y r k f p : Bool) → x && y && r && k && (f && p) ≡ x && y && f && (r && k && p)
shifted true true true true f p = refl
shifted true true true false f p = sym (and-false f)
shifted true true false k f p = sym (and-false f)
shifted true false r k f p = refl
shifted false y r k f p = refl

module _ (t : Tables) where
  rows_same : (k : Kinds) (e : Ends) (i n : ℕ)
      → rows_right t i n && kinds_right (kinds_from k (declarations t.rows i n)) && parts_follow (used t) e (declarations t.rows i n)
      ≡ fast_rows t.rows (used t) k e i n
  unfolding rows_right declarations kinds_from parts_follow fast_rows is_own
  rows_same k e i zero = refl
  rows_same k e i (suc n) =
      let r = read_at t.rows i in
      let d = row_of r in
      let rest = declarations t.rows (suc i) n in
      let more = one_more k d in
      let after = ends_after e (belonging d) in
      shifted (is_own t.rows i) (declaration_right t d) (rows_right t (suc i) n) (kinds_right (kinds_from more rest)) (follows e (belonging d))
      (parts_follow (used t) after rest)
      ∙ rw (
        row_same t e r.first r.second (number_at t.rows i 3) (number_at t.rows i 4) (number_at t.rows i 0),
        rows_same more after (suc i) n,
        kinds_same r.first r.second r.from r.to k r.form,
        ends_same r.first r.second r.from r.to e r.form,
      )

  orders_same : (i n : ℕ) → orders_right t i n ≡ fast_orders t.rows (row_count t) t.triggers t.calls i n
  unfolding orders_right fast_orders
  orders_same i zero = refl
  orders_same i (suc n) = rw (trigger_code_step t (get_or t.triggers i 0), called_same t (get_or t.calls i 0), orders_same (suc i) n)

-- ---- tones and changes

zero_tone : (z : ℤ) → is_tone z && is_zero z ≡ is_zero z
zero_tone (pos zero) = refl
zero_tone (pos (suc n)) = simp (leb-suc-zero n, and-false)
zero_tone (negsuc n) = and-false (is_tone (negsuc n))

zero_sum : (z : ℤ) → is_sum z && is_zero z ≡ is_zero z
zero_sum (pos zero) = refl
zero_sum (pos (suc n)) = simp (leb-suc-zero n, and-false)
zero_sum (negsuc n) = and-false (is_sum (negsuc n))

-- the test of one of them
abbrev fast_one : ℕ → (ℤ → Bool) → ℕ → ℤ → Bool
fast_one last ok k z = leb k last && ok z && (not (eqb k 0) || is_zero z)

tone_same : (k : ℕ) (z : ℤ) → tone_right k z ≡ fast_one sounds_code is_tone k z
tone_same zero z = and-true (is_zero z) ∙ sym (zero_tone z)
tone_same (suc zero) z = rw (same_both z) (sym (and-true (is_tone z)))
tone_same (suc (suc k)) z =
    let n = suc (suc k) in
    simp (ne_eqb n muted_code (omega arith), ne_eqb n sounds_code (omega arith), lt-leb n sounds_code (omega arith))

change_same : (k : ℕ) (z : ℤ) → change_right k z ≡ fast_one set_code is_sum k z
change_same zero z = and-true (is_zero z) ∙ sym (zero_sum z)
change_same (suc zero) z = rw (same_both z) (sym (and-true (is_sum z)))
change_same (suc (suc zero)) z = rw (same_both z) (sym (and-true (is_sum z)))
change_same (suc (suc (suc k))) z =
    let n = suc (suc (suc k)) in
    simp (ne_eqb n mute_code (omega arith), ne_eqb n move_code (omega arith), ne_eqb n set_code (omega arith), lt-leb n set_code (omega arith))

module _ (right : ℕ → ℤ → Bool) (last : ℕ) (ok : ℤ → Bool) (one : (k : ℕ) (z : ℤ) → right k z ≡ fast_one last ok k z) where
  each_same : (ks : List ℕ) (zs : List ℤ) → each_right right ks zs ≡ fast_each last ok ks zs
  unfolding each_right fast_each
  each_same [] zs = refl
  each_same (k ∷ ks) [] = refl
  each_same (k ∷ ks) (z ∷ zs) = rw (one k z, each_same ks zs)

  list_same : (n : ℕ) (ks : List ℕ) (zs : List ℤ) → list_right right n ks zs ≡ fast_list last ok n ks zs
  list_same n ks zs = rw (each_same (take n ks) (take n zs))

-- ---- all of it

pub fast_same : (t : Tables) → valid_tables t ≡ fast_tables t
unfolding valid_tables fast_tables
fast_same t =
    let c = used t in
    let rs = declarations t.rows 0 c.rows in
    rw (
      list_same tone_right sounds_code is_tone tone_same c.tones t.sounding t.tones,
      list_same change_right set_code is_sum change_same c.changes t.kinds t.changes,
      orders_same t 0 c.orders,
      ← (rows_same t (kinds 0 0 0 0 0 0) (ends 0 0 0) 0 c.rows),
      together (counts_right c) (rows_right t 0 c.rows) (kinds_right (kinds_from (kinds 0 0 0 0 0 0) rs)) (parts_follow c (ends 0 0 0) rs),
    )
  where
    together : (a b c d : Bool) → a && b && c && d ≡ a && (b && c && d)
    together true b c d = refl
    together false b c d = refl
