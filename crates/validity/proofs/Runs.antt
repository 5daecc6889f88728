-- The tests of lists as the loops make them: one turn further, and at the end. Assumes nothing.
use mathlib.Core.Path.{◌≡◌, refl, sym, ap, ◌∙◌}
use mathlib.Core.Bool.{Bool, true, false, not, ◌&&◌, ◌||◌, and-true, and-false, and_assoc, true≢false, false≢true}
use mathlib.Core.List.{List, [], ◌∷◌}
use mathlib.Core.Logic.{◌≢◌}
use Prim.Native.Nat.{ℕ, zero, suc, ◌+◌, ◌-◌, ◌≤◌, ◌<◌}
use native.Mathlib.Nat.{add-zero}
use native.Mathlib.Numerals.{add-one}
use native.Mathlib.Omega.{arith}
use borrow.Author.Tests.{leb-true, le-leb, lt-leb, ne_eqb}
use lib.Dec.{leb, eqb}
use lib.IntN.{ℤ, pos, negsuc, nat_abs}
use lib.Signed.{le_z}
use lib.ListN.{length, get_or, drop}
use lib.Seq.{drop-cons, drop-length}
use borrow.Author.Rules.{rules}
use mir.Syntax.{w32}
use mir.Val.{SFits, of_z}
use Rattle.std.specs.List.{list_all}
use Rattle.std.specs.Ordering.{int_eq}
use Rattle.std.specs.Cmp.{signed_Decides}
use Rattle.integers.specs.Parts.{up}
use Rattle.tuning.specs.Desk.{between, is_tone}
use Rattle.tuning.proofs.Lists.{both}
use Rattle.tables.specs.declared.Counts.{Counts}
use Rattle.tables.specs.declared.Numbers.{Numbers}
use Rattle.tables.specs.Layout.{numbers, read_at, interval_form, tone_form, system_form, anchor_form, width_form, period_form, tones_form, logic_form, harmony_form, pattern_form}
use Rattle.validity.specs.declared.Kinds.{Kinds}
use Rattle.validity.specs.declared.Ends.{Ends}
use Rattle.validity.specs.Valid.{no_part, kinds, kinds_right, ends_right, all_zero, all_nought}
use Rattle.validity.specs.Inner.{is_zero, is_trigger_code, is_form, fast_row, has_naturals, kinds_with, others, kinds_among, ends_with, fast_rows, fast_orders, fast_each}

-- ---- zeros, as a test of every element

pub differs : (b : Bool) → (b ≡ true → ⊥) → b ≡ false
differs true h = absurd (h refl)
differs false h = refl

zero_is : (z : ℤ) → int_eq z (pos 0) ≡ is_zero z
zero_is (pos zero) = refl
zero_is (pos (suc n)) =
    rw (lt-leb (suc n) 0 (omega arith))
    (differs (int_eq (pos (suc n)) (pos 0)) (λ h. let e : pos (suc n) ≡ pos 0 = (signed_Decides (pos (suc n)) (pos 0)).0 h in cc) ∙ sym (and-false (leb 0 (suc n))))
zero_is (negsuc n) = refl

-- as the code tests it
pub zero_tested : (z : ℤ) → SFits w32 z → eqb (of_z w32 z) 0 ≡ is_zero z
zero_tested z f = search rules

pub zero_each : (l : List ℤ) → all_zero l ≡ list_all (λ z. int_eq z (pos 0)) l
unfolding all_zero
zero_each [] = refl
zero_each (z ∷ l) = rw (zero_is z, zero_each l)

pub nought_each : (l : List ℕ) → all_nought l ≡ list_all (λ k. eqb k 0) l
unfolding all_nought
nought_each [] = refl
nought_each (k ∷ l) = ap (λ (b : Bool). eqb k 0 && b) (nought_each l)

-- ---- kinds and numbers

module _ (last : ℕ) (ok : ℤ → Bool) (ks : List ℕ) (zs : List ℤ) where
  pub each_turn : (i : ℕ) (b : Bool) → i < length ks → i < length zs
      → b && (leb (get_or ks i 0) last && ok (get_or zs i (pos 0)) && (not (eqb (get_or ks i 0) 0) || is_zero (get_or zs i (pos 0)))) && fast_each last ok (drop (i + 1) ks) (drop (i + 1) zs)
      ≡ b && fast_each last ok (drop i ks) (drop i zs)
  unfolding fast_each
  each_turn i b h k = rw (add-one i, drop-cons ks i 0 h, drop-cons zs i (pos 0) k) (and_assoc b _ _)

  pub each_end : (i : ℕ) (b : Bool) → i ≡ length ks → b && fast_each last ok (drop i ks) (drop i zs) ≡ b
  unfolding fast_each
  each_end i b e = rw (e, drop-length ks) (and-true b)

-- ---- rows

zero_natural : (m : ℤ) → is_zero m ≡ le_z (pos 0) m && eqb (up m) 0
zero_natural (pos zero) = refl
zero_natural (pos (suc k)) = rw (lt-leb (suc k) 0 (omega arith), ne_eqb (suc k) 0 (omega arith))
zero_natural (negsuc k) = refl

regroup : (x a b r s : Bool) → x && (a && r) && (b && s) ≡ (a && b) && (x && (r && s))
regroup true true true r s = refl
regroup true true false r s = and-false r
regroup true false b r s = refl
regroup false a b r s = sym (and-false (a && b))

-- bounds that are zero are no negative numbers, and nothing is between them
pub zero_bounds : (x : Bool) (m n : ℤ) → x && is_zero m && is_zero n ≡ (le_z (pos 0) m && le_z (pos 0) n) && (x && no_part (up m) (up n))
zero_bounds x m n = rw (zero_natural m, zero_natural n) (regroup x (le_z (pos 0) m) (le_z (pos 0) n) (eqb (up m) 0) (eqb (up n) 0))

pub natural_is : (z : ℤ) → le_z (pos 0) z ≡ true → nat_abs z ≡ up z
natural_is (pos n) h = refl
natural_is (negsuc n) h = absurd (false≢true h)

-- the forms of intervals and tones
value_forms : (P : ℤ → Type 0) → P (pos interval_form) → P (pos tone_form) → (f : ℤ) → between (pos interval_form) (pos tone_form) f ≡ true → P f
value_forms P x y (negsuc k) h = absurd (false≢true h)
value_forms P x y (pos zero) h = absurd (false≢true h)
value_forms P x y (pos (suc zero)) h = x
value_forms P x y (pos (suc (suc zero))) h = y
value_forms P x y (pos (suc (suc (suc k)))) h =
    let e : ⊥ = omega (arith, leb-true (suc (suc (suc k))) tone_form (both (leb interval_form (suc (suc (suc k)))) (leb (suc (suc (suc k))) tone_form) h).1) in
    absurd e

-- and those of other rows
other_forms : (P : ℕ → Type 0) → P system_form → P anchor_form → P width_form → P period_form → P tones_form → P logic_form → P harmony_form → P pattern_form
    → (f : ℕ) → system_form ≤ f → f ≤ pattern_form → P f
other_forms P s a w p t l y x zero g h = absurd (omega arith)
other_forms P s a w p t l y x (suc zero) g h = absurd (omega arith)
other_forms P s a w p t l y x (suc (suc zero)) g h = absurd (omega arith)
other_forms P s a w p t l y x (suc (suc (suc zero))) g h = s
other_forms P s a w p t l y x (suc (suc (suc (suc zero)))) g h = a
other_forms P s a w p t l y x (suc (suc (suc (suc (suc zero))))) g h = w
other_forms P s a w p t l y x (suc (suc (suc (suc (suc (suc zero)))))) g h = p
other_forms P s a w p t l y x (suc (suc (suc (suc (suc (suc (suc zero))))))) g h = t
other_forms P s a w p t l y x (suc (suc (suc (suc (suc (suc (suc (suc zero)))))))) g h = l
other_forms P s a w p t l y x (suc (suc (suc (suc (suc (suc (suc (suc (suc zero))))))))) g h = y
other_forms P s a w p t l y x (suc (suc (suc (suc (suc (suc (suc (suc (suc (suc zero)))))))))) g h = x
other_forms P s a w p t l y x (suc (suc (suc (suc (suc (suc (suc (suc (suc (suc (suc k))))))))))) g h = absurd (omega arith)

pub other_form : (f : ℤ) → le_z (pos 0) f ≡ true → between (pos interval_form) (pos tone_form) f ≡ false → (nat_abs f ≢ interval_form) × (nat_abs f ≢ tone_form)
other_form (pos n) h k = (λ e. true≢false (ap sounding (sym e) ∙ k), λ e. true≢false (ap sounding (sym e) ∙ k))
  where
    sounding : ℕ → Bool
    sounding m = between (pos interval_form) (pos tone_form) (pos m)
other_form (negsuc n) h k = absurd (false≢true h)

module _ (rows : List ℤ) (count : ℕ) (e : Ends) where
  -- a row by its form
  pub form_right : (n : Numbers) (k : ℕ) → n.form ≡ k → fast_row rows count e (numbers k n.first n.second n.from n.to) ≡ fast_row rows count e n
  form_right n k q = ap (λ (f : ℕ). fast_row rows count e (numbers f n.first n.second n.from n.to)) (sym q)

  -- intervals and tones
  pub sounding_right : (f a b m n : ℤ) → between (pos interval_form) (pos tone_form) f ≡ true
      → is_tone a && is_zero b && is_zero m && is_zero n ≡ (le_z (pos 0) f && le_z (pos 0) m && le_z (pos 0) n) && fast_row rows count e (numbers (up f) a b (up m) (up n))
  unfolding fast_row
  sounding_right f a b m n h =
      value_forms (λ (z : ℤ).
      is_tone a && is_zero b && is_zero m && is_zero n ≡ (le_z (pos 0) z && le_z (pos 0) m && le_z (pos 0) n) && fast_row rows count e (numbers (up z) a b (up m) (up n)))
      (zero_bounds (is_tone a && is_zero b) m n) (zero_bounds (is_tone a && is_zero b) m n) f h

  -- nothing belongs to them
  pub value_ends : (f : ℤ) (to : ℕ) → between (pos interval_form) (pos tone_form) f ≡ true → e ≡ ends_with e (up f) to
  unfolding ends_with
  value_ends f to h = value_forms (λ (z : ℤ). e ≡ ends_with e (up z) to) refl refl f h

  -- no row is right whose form there is not
  form_above : (n : Numbers) → pattern_form < n.form → fast_row rows count e n ≡ false
  unfolding fast_row
  form_above n h =
      simp (
        ne_eqb n.form interval_form (omega arith),
        ne_eqb n.form tone_form (omega arith),
        ne_eqb n.form system_form (omega arith),
        ne_eqb n.form anchor_form (omega arith),
        ne_eqb n.form width_form (omega arith),
        ne_eqb n.form period_form (omega arith),
        ne_eqb n.form tones_form (omega arith),
        ne_eqb n.form logic_form (omega arith),
        ne_eqb n.form harmony_form (omega arith),
        ne_eqb n.form pattern_form (omega arith),
      )

  pub form_known : (n : Numbers) → fast_row rows count e n ≡ true → n.form ≢ interval_form → n.form ≢ tone_form
      → (system_form ≤ n.form) × (n.form ≤ pattern_form)
  unfolding fast_row
  form_known n h x y =
      let above : pattern_form < n.form → ⊥ = λ z. false≢true (sym (form_above n z) ∙ h) in
      let some : n.form ≢ 0 = λ z. false≢true (form_right n 0 z ∙ h) in
      (omega arith, omega arith)

-- a form that there is not is counted as no kind
pub kinds_above : (k : Kinds) (f : ℕ) → pattern_form < f → k ≡ kinds_with k f
unfolding kinds_with
kinds_above k f h =
    simp (
      ne_eqb f interval_form (omega arith),
      ne_eqb f tone_form (omega arith),
      ne_eqb f system_form (omega arith),
      ne_eqb f logic_form (omega arith),
      ne_eqb f harmony_form (omega arith),
      le-leb anchor_form f (omega arith),
      lt-leb f tones_form (omega arith),
      ne_eqb f pattern_form (omega arith),
    )

-- the kinds x of one row more than i, of which k are no intervals
pub record Turned (i : ℕ) (x k : Kinds) : Type 0 where
  pub few : others k ≤ i + 1
  pub same : kinds_among k (i + 1) ≡ x

module _ (k : Kinds) (i : ℕ) (few : others k ≤ i) where
  pub value_turned : (f : ℤ) → between (pos interval_form) (pos tone_form) f ≡ true
      → Turned i (kinds_with (kinds_among k i) (up f)) (kinds k.intervals (k.tones + (up f - interval_form)) k.systems k.retunings k.logics k.harmonies)
  unfolding kinds_with
  value_turned =
      value_forms (λ (f : ℤ).
      Turned i (kinds_with (kinds_among k i) (up f)) (kinds k.intervals (k.tones + (up f - interval_form)) k.systems k.retunings k.logics k.harmonies))
      (let s : i + 1 - (k.tones + 0 + k.systems + k.retunings + k.logics + k.harmonies) ≡ suc (i - others k) = omega arith in
      record { few = omega arith; same = rw (s, add-zero k.tones) })
      (let s : i + 1 - (k.tones + 1 + k.systems + k.retunings + k.logics + k.harmonies) ≡ i - others k = omega arith in
      record { few = omega arith; same = rw (s, add-one k.tones) })

  pub other_turned : (f : ℕ) → system_form ≤ f → f ≤ pattern_form → Turned i (kinds_with (kinds_among k i) f) (kinds_with k f)
  unfolding kinds_with
  other_turned =
      other_forms (λ (f : ℕ). Turned i (kinds_with (kinds_among k i) f) (kinds_with k f))
      (let s : i + 1 - (k.tones + suc k.systems + k.retunings + k.logics + k.harmonies) ≡ i - others k = omega arith in record { few = omega arith; same = rw s })
      retuned
      retuned
      retuned
      retuned
      (let s : i + 1 - (k.tones + k.systems + k.retunings + suc k.logics + k.harmonies) ≡ i - others k = omega arith in record { few = omega arith; same = rw s })
      (let s : i + 1 - (k.tones + k.systems + k.retunings + k.logics + suc k.harmonies) ≡ i - others k = omega arith in record { few = omega arith; same = rw s })
      retuned
    where
      retuned : Turned i (kinds_with (kinds_among k i) anchor_form) (kinds_with k anchor_form)
      retuned = let s : i + 1 - (k.tones + k.systems + suc k.retunings + k.logics + k.harmonies) ≡ i - others k = omega arith in record { few = omega arith; same = rw s }

module _ (rows : List ℤ) (c : Counts) (k : Kinds) (e : Ends) (i n : ℕ) where
  abbrev row_is : Bool
  row_is = has_naturals rows i && fast_row rows c.rows e (read_at rows i)

  pub row_wrong : i < n → row_is ≡ false → fast_rows rows c k e i (n - i) ≡ false
  unfolding fast_rows
  row_wrong h q =
      let s : n - i ≡ suc (n - (i + 1)) = omega arith in
      rw (s, q)

  -- the kinds and ends after the row are those of the next one
  pub rows_turn : {k' : Kinds} {e' : Ends} → i < n → row_is ≡ true → Turned i (kinds_with (kinds_among k i) (read_at rows i).form) k'
      → e' ≡ ends_with e (read_at rows i).form (read_at rows i).to
      → fast_rows rows c (kinds_among k' (i + 1)) e' (i + 1) (n - (i + 1)) ≡ fast_rows rows c (kinds_among k i) e i (n - i)
  unfolding fast_rows
  rows_turn h q t ee =
      let s : n - i ≡ suc (n - (i + 1)) = omega arith in
      rw (s, t.same, add-one i, q, ee)

  pub rows_end : n ≤ i → fast_rows rows c k e i (n - i) ≡ kinds_right k && ends_right c e
  unfolding fast_rows
  rows_end h = let s : n - i ≡ 0 = omega arith in rw s

-- ---- orders

module _ (rows : List ℤ) (count : ℕ) (triggers calls : List ℕ) where
  abbrev pub order_right : ℕ → Bool
  order_right i = is_trigger_code rows count (pos (get_or triggers i 0)) && is_form rows count system_form logic_form (get_or calls i 0)

  pub order_wrong : (i n : ℕ) → i < n → order_right i ≡ false → fast_orders rows count triggers calls i (n - i) ≡ false
  unfolding fast_orders
  order_wrong i n h e =
      let s : n - i ≡ suc (n - (i + 1)) = omega arith in
      rw (s, e)

  pub orders_turn : (i n : ℕ) → i < n → order_right i ≡ true → fast_orders rows count triggers calls (i + 1) (n - (i + 1)) ≡ fast_orders rows count triggers calls i (n - i)
  unfolding fast_orders
  orders_turn i n h e =
      let s : n - i ≡ suc (n - (i + 1)) = omega arith in
      rw (s, add-one i, e)

  pub orders_end : (i n : ℕ) → n ≤ i → fast_orders rows count triggers calls i (n - i) ≡ true
  unfolding fast_orders
  orders_end i n h = let e : n - i ≡ 0 = omega arith in rw e
