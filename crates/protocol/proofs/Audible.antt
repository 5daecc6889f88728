-- Chords as triggers: what valid tables have for them, and the search for an order. Assumes nothing.
use mathlib.Core.Path.{◌≡◌, refl, sym, ap, ◌∙◌, subst}
use mathlib.Core.Bool.{Bool, true, false, cond}
use mathlib.Core.List.{List, [], ◌∷◌, ◌++◌}
use Rattle.std.specs.Prelude.{Option, Some, None, All}
use Rattle.std.proofs.lemmas.Option.{none-some, same_Some}
use Prim.Native.Nat.{ℕ, suc, ◌-◌, ◌<◌}
use native.Mathlib.Omega.{arith}
use borrow.Author.Tests.{eq-eqb, ne_eqb, eqb-true, leb-true}
use lib.Dec.{eqb, leb}
use lib.ListN.{length, get_or}
use lib.IntN.{ℤ}
use Rattle.limits.specs.Limits.{first_letter, last_letter}
use Rattle.tuning.proofs.Lists.{both}
use Rattle.integers.specs.Parts.{up}
use Rattle.tables.specs.declared.Numbers.{Numbers}
use Rattle.tables.specs.declared.Row.{Row as TableRow}
use Rattle.tables.specs.declared.Row.TheVariants.{Unused, Interval, Tone, System, Retuning, Logic, Harmony, Pattern}
use Rattle.tables.specs.Layout.{Tables, row_count, order_count, row_at, row_of, logic_form, harmony_base, as_logic, as_harmony, order_width, column, triggers_in}
use Rattle.validity.specs.Valid.{valid_tables}
use Rattle.validity.proofs.Laws.{ValidRow, ValidTrigger, of_letter_case, of_harmony, row_valid, order_trigger}
use Rattle.tables.proofs.Rows.{form_row}
use Rattle.protocol.specs.Triggers.{first_order}
use Rattle.protocol.specs.Inner.{logic_trigger, is_trigger, first_of, SetsFit, Paired, Audible, AudibleLogic, AudibleRows}

-- ---- what can be read

module _ (t : Tables) (v : valid_tables t ≡ true) where
  sets_fit : (r : TableRow) → ValidRow t r → SetsFit (as_harmony r)
  sets_fit Unused h = tt
  sets_fit (Interval d) h = tt
  sets_fit (Tone p) h = tt
  sets_fit (System a P from to) h = tt
  sets_fit (Retuning r from to) h = tt
  sets_fit (Logic c s from to) h = tt
  sets_fit (Harmony needed named) h = (h.needed, h.named)
  sets_fit Pattern h = tt

  pub audible : (c : ℕ) → ValidTrigger t c → Audible t.rows c
  audible c (of_letter_case h) k =
      let l = leb-true c last_letter (both (leb first_letter c) (leb c last_letter) h).1 in
      absurd (omega (arith, k, l))
  audible c (of_harmony h r is) k = sets_fit (row_at t (c - harmony_base)) (row_valid t v (c - harmony_base) r.within)

  logic_audible : (r : TableRow) → ValidRow t r → AudibleLogic t.rows (as_logic r)
  logic_audible Unused h = tt
  logic_audible (Interval d) h = tt
  logic_audible (Tone p) h = tt
  logic_audible (System a P from to) h = tt
  logic_audible (Retuning r from to) h = tt
  logic_audible (Logic c s from to) h = audible c h.trigger
  logic_audible (Harmony needed named) h = tt
  logic_audible Pattern h = tt

  pub audible_rows : AudibleRows t.rows (row_count t)
  audible_rows i h = logic_audible (row_at t i) (row_valid t v i h)

  pub audible_order : (i : ℕ) → i < order_count t → Audible t.rows (get_or t.triggers i 0)
  audible_order i l = audible (get_or t.triggers i 0) (order_trigger t v i l)

-- the trigger of a row that is a logic
pub audible_trigger : (rows : List ℤ) (n : Numbers) {c : ℕ} → logic_trigger n ≡ Some c → AudibleLogic rows (as_logic (row_of n)) → Audible rows c
unfolding row_of
audible_trigger rows n {c} e h = go (eqb n.form logic_form) refl e
  where
    go : (b : Bool) → eqb n.form logic_form ≡ b → cond b (Some (up n.first)) None ≡ Some c → Audible rows c
    go true f q =
        let logical = subst (λ (r : TableRow). AudibleLogic rows (as_logic r)) (sym (form_row n logic_form (eqb-true n.form logic_form f))) h in
        subst (Audible rows) (same_Some (up n.first) c q) logical
    go false f q = absurd (none-some c q)

-- ---- the first trigger that passes, and the order that it finds

pub none_passes : (p : ℕ → Bool) (cs ks : List ℕ) → first_of p cs ≡ None → None ≡ first_order p cs ks
unfolding first_of first_order
none_passes p [] ks e = refl
none_passes p (c ∷ cs) [] e = refl
none_passes p (c ∷ cs) (k ∷ ks) e = go (p c) (none_passes p cs ks) e
  where
    go : (b : Bool) → (first_of p cs ≡ None → None ≡ first_order p cs ks) → ◌≡◌ {A = Option ℕ} (elim b [ true ↦ Some c | false ↦ first_of p cs ]) None
        → ◌≡◌ {A = Option ℕ} None (elim b [ true ↦ Some k | false ↦ first_order p cs ks ])
    go true later q = absurd (none-some c (sym q))
    go false later q = later q

-- what is found passes
passes_first : (p : ℕ → Bool) (cs : List ℕ) {c : ℕ} → first_of p cs ≡ Some c → p c ≡ true
unfolding first_of
passes_first p [] {c} e = absurd (none-some c e)
passes_first p (x ∷ cs) {c} e = go (p x) refl (passes_first p cs) e
  where
    go : (b : Bool) → p x ≡ b → (first_of p cs ≡ Some c → p c ≡ true) → elim b [ true ↦ Some x | false ↦ first_of p cs ] ≡ Some c → p c ≡ true
    go true h later q = ap p (sym (same_Some x c q)) ∙ h
    go false h later q = later q

-- the first order with that very trigger is the first that passes
pub same_order : (p : ℕ → Bool) (cs ks : List ℕ) {c : ℕ} → first_of p cs ≡ Some c → first_order (is_trigger c) cs ks ≡ first_order p cs ks
unfolding first_of first_order
same_order p [] ks {c} e = absurd (none-some c e)
same_order p (x ∷ cs) [] e = refl
same_order p (x ∷ cs) (k ∷ ks) {c} e = go (p x) refl (same_order p cs ks) e
  where
    pass : p c ≡ true
    pass = passes_first p (x ∷ cs) e

    apart : p x ≡ false → x ≡ c → ⊥
    apart h s = let z : ◌≡◌ {A = Bool} true false = sym pass ∙ ap p (sym s) ∙ h in let y : ◌≡◌ {A = ℕ} 0 1 = cc in omega arith

    go : (b : Bool) → p x ≡ b → (first_of p cs ≡ Some c → first_order (is_trigger c) cs ks ≡ first_order p cs ks)
        → elim b [ true ↦ Some x | false ↦ first_of p cs ] ≡ Some c
        → ◌≡◌ {A = Option ℕ}
        (elim (is_trigger c x) [ true ↦ Some k | false ↦ first_order (is_trigger c) cs ks ])
        (elim b [ true ↦ Some k | false ↦ first_order p cs ks ])
    go true h later q = rw (eq-eqb x c (same_Some x c q))
    go false h later q = rw (ne_eqb x c (apart h)) (later q)

-- ---- one turn of the loop over the triggers of orders, and its end

pub record Sounding (rows : List ℤ) (p : ℕ → Bool) (orders rest : List ℕ) : Type 0 where
  pub paired : Paired rest
  pub audible : All (Audible rows) (triggers_in rest)
  pub same : first_of p (triggers_in rest) ≡ first_of p (triggers_in orders)

module _ (rows : List ℤ) (p : ℕ → Bool) {orders : List ℕ} where
  pub sounding_audible : (rest pair behind : List ℕ) → Sounding rows p orders rest → rest ≡ pair ++ behind → length pair ≡ order_width → Audible rows (get_or pair 0 0)
  unfolding column
  sounding_audible rest [] behind s e n = let z : ⊥ = omega arith in absurd z
  sounding_audible rest (c ∷ []) behind s e n = let z : ⊥ = omega arith in absurd z
  sounding_audible rest (c ∷ k ∷ pair) behind s e n = subst (λ (os : List ℕ). All (Audible rows) (triggers_in os)) e s.audible 0 0 (omega arith)

  pub sounds_here : (rest pair behind : List ℕ) → Sounding rows p orders rest → rest ≡ pair ++ behind → length pair ≡ order_width → {b : Bool} → b ≡ p (get_or pair 0 0) → b ≡ true
      → Some (get_or pair 0 0) ≡ first_of p (triggers_in orders)
  unfolding column first_of
  sounds_here rest [] behind s e n f h = let z : ⊥ = omega arith in absurd z
  sounds_here rest (c ∷ []) behind s e n f h = let z : ⊥ = omega arith in absurd z
  sounds_here rest (c ∷ k ∷ pair) behind s e n f h =
      ap (λ (b : Bool). elim b [ true ↦ Some c | false ↦ first_of p (triggers_in (pair ++ behind)) ]) (sym h ∙ f) ∙ ap (λ (os : List ℕ). first_of p (triggers_in os)) (sym e) ∙ s.same

  pub sounds_on : (rest pair behind : List ℕ) → Sounding rows p orders rest → rest ≡ pair ++ behind → length pair ≡ order_width → {b : Bool} → b ≡ p (get_or pair 0 0) → b ≡ false
      → Sounding rows p orders behind
  unfolding column first_of
  sounds_on rest [] behind s e n f h = let z : ⊥ = omega arith in absurd z
  sounds_on rest (c ∷ []) behind s e n f h = let z : ⊥ = omega arith in absurd z
  sounds_on rest (c ∷ k ∷ x ∷ pair) behind s e n f h = let z : ⊥ = omega arith in absurd z
  sounds_on rest (c ∷ k ∷ []) behind s e n f h =
      record {
        paired = subst Paired e s.paired;
        audible = λ i d l. subst (λ (os : List ℕ). All (Audible rows) (triggers_in os)) e s.audible (suc i) d (omega arith);
        same = ap (λ (b : Bool). elim b [ true ↦ Some c | false ↦ first_of p (triggers_in behind) ]) (sym h ∙ f) ∙ ap (λ (os : List ℕ). first_of p (triggers_in os)) (sym e) ∙ s.same;
      }

  pub sounds_none : (rest : List ℕ) → Sounding rows p orders rest → length rest < order_width → None ≡ first_of p (triggers_in orders)
  unfolding column first_of
  sounds_none [] s h = s.same
  sounds_none (c ∷ []) s h = absurd s.paired
  sounds_none (c ∷ k ∷ rest) s h = let z : ⊥ = omega arith in absurd z
