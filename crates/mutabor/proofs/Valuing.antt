-- What becomes of the declarations: the text is refused at one of them, or their values are known.
-- Assumes nothing.
use mathlib.Core.Path.{◌≡◌, refl, sym, ◌∙◌, ap, subst}
use mathlib.Core.Bool.{Bool, true, false}
use mathlib.Core.List.{List}
use Prim.Native.Nat.{ℕ, zero, suc, ◌+◌, ◌<◌}
use native.Mathlib.Omega.{arith}
use lib.IntN.{ℤ, pos}
use lib.ListN.{length}
use Rattle.status.specs.declared.Refusal.{Refusal}
use Rattle.status.specs.Reasons.{number_of}
use Rattle.status.specs.Status.{depends_on_itself, value_out_of_range}
use Rattle.values.specs.Values.{is_beyond, circular, first_from, verdict, value_at, outcome}
use Rattle.values.specs.Rows.{rows, Resolved}
use Rattle.std.specs.Prelude.{Option, Some, None, Result, Ok, Err, unwrap_or}
use Rattle.std.proofs.lemmas.Option.{none-some, same_Some}
use Rattle.values.specs.declared.Fault.{Fault}
use Rattle.values.specs.declared.Fault.TheVariants.{Circular, OutOfRange}
use Rattle.tables.specs.Layout.{Tables}
use Rattle.grammar.specs.declared.Item.{Item}
use Rattle.program.specs.Program.{Program, program_of}
use Rattle.program.specs.Meaning.{own, value_of, valued}
use Rattle.program.specs.Text.{place_of, by_value}
use Rattle.valuation.specs.Inner.{Ready}
use Rattle.valuation.proofs.Ready.{ready_number}
use Rattle.filling.specs.Tables.{tables_of}
use Rattle.filling.specs.Inner.{Valued, blank}
use Rattle.mutabor.specs.Reading.{by_verdict, Leaves}
use Rattle.mutabor.proofs.Steps.{refuses}

-- the first that passes a test is one of those that were tested
first_within : (p : ℕ → Bool) (i k j : ℕ) → first_from p i k ≡ Some j → j < i + k
unfolding first_from
first_within p i zero j h = absurd (none-some j h)
first_within p i (suc k) j h = go (p i) h (first_within p (suc i) k j)
  where
    go : (b : Bool) → ◌≡◌ {A = Option ℕ} (elim b [ true ↦ Some i | false ↦ first_from p (suc i) k ]) (Some j) → (first_from p (suc i) k ≡ Some j → j < suc i + k) → j < i + suc k
    go true e ih = let q = same_Some i j e in omega arith
    go false e ih = omega (arith, ih e)

at_fault : Result Unit Fault → ℕ → Type 0
at_fault (Ok u) n = Unit
at_fault (Err (Circular d)) n = d < n
at_fault (Err (OutOfRange d)) n = d < n

fault_within : (p : Program) (n : ℕ) → at_fault (outcome (own p) n) n
unfolding outcome verdict at_fault
fault_within p n = go (first_from (circular (own p) n) 0 n) refl (first_from (λ i. is_beyond (value_at (own p) n i)) 0 n) refl
  where
    go : (f : Option ℕ) → first_from (circular (own p) n) 0 n ≡ f → (g : Option ℕ) → first_from (λ i. is_beyond (value_at (own p) n i)) 0 n ≡ g → at_fault (verdict f g) n
    go (Some i) e g q = omega (arith, first_within (circular (own p) n) 0 n i e)
    go None e (Some i) q = omega (arith, first_within (λ i. is_beyond (value_at (own p) n i)) 0 n i q)
    go None e None q = tt

module _ {is : List Item} {starts : List ℕ} {o : Result Unit Fault} {values : List ℤ} (d : Ready is starts)
    (w : Resolved (own (program_of is)) (length starts) o values) where
  abbrev n : ℕ
  n = length starts

  abbrev p : Program
  p = program_of is

  e : n ≡ length p
  e = ready_number d

  is_valued : valued p ≡ o
  unfolding valued
  is_valued = ap (outcome (own p)) (sym e) ∙ sym w.answer

  found : at_fault o n
  found = subst (λ (x : Result Unit Fault). at_fault x n) (sym w.answer) (fault_within p n)

  pub circular_within : {i : ℕ} → o ≡ Err (Circular i) → i < n
  unfolding at_fault
  circular_within h = subst (λ (x : Result Unit Fault). at_fault x n) h found

  pub beyond_within : {i : ℕ} → o ≡ Err (OutOfRange i) → i < n
  unfolding at_fault
  beyond_within h = subst (λ (x : Result Unit Fault). at_fault x n) h found

  pub values_known : o ≡ Ok tt → length values ≡ rows → Valued p values
  unfolding value_of
  values_known h s = record {
    size = s;
    exact = λ i l. let x = w.exact h i (omega (arith, e)) in ap (λ v. unwrap_or v (pos 0)) (sym x) ∙ ap (λ (k : ℕ). unwrap_or (value_at (own p) k i) (pos 0)) e;
    small = λ i l. w.small h i (omega (arith, e));
  }

  module _ {after : Tables} where
    -- 7
    pub circular_refused : {i : ℕ} {e : Refusal} → o ≡ Err (Circular i) → depends_on_itself ≡ number_of e.reason → place_of p i ≡ e.place → after ≡ blank
        → Leaves (by_verdict blank (by_value p (valued p))) (Err e) after
    circular_refused {i} {e} h q f g =
        subst (λ (x : Result Unit Fault). Leaves (by_verdict blank (by_value p x)) (Err e) after) (sym (is_valued ∙ h)) (refuses depends_on_itself (place_of p i) q f g)

    -- 8
    pub beyond_refused : {i : ℕ} {e : Refusal} → o ≡ Err (OutOfRange i) → value_out_of_range ≡ number_of e.reason → place_of p i ≡ e.place → after ≡ blank
        → Leaves (by_verdict blank (by_value p (valued p))) (Err e) after
    beyond_refused {i} {e} h q f g =
        subst (λ (x : Result Unit Fault). Leaves (by_verdict blank (by_value p x)) (Err e) after) (sym (is_valued ∙ h)) (refuses value_out_of_range (place_of p i) q f g)

    -- done
    pub all_done : o ≡ Ok tt → after ≡ tables_of p → Leaves (by_verdict blank (by_value p (valued p))) (Ok tt) after
    all_done h g =
        subst (λ (x : Result Unit Fault). Leaves (by_verdict blank (by_value p x)) (Ok tt) after) (sym (is_valued ∙ h)) (record { told = (refl, refl); tables = g })
