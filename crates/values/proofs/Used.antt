-- The uses of a value: their declarations are its references, and gathered one by one they give what the definition says.
use Prim.Native.Nat.{ℕ, zero, suc, ◌+◌, ◌<◌}
use mathlib.Core.Path.{◌≡◌, refl, sym, ◌∙◌, ap}
use mathlib.Core.List.{List, [], ◌∷◌, ◌++◌, map}
use native.Mathlib.Omega.{arith}
use lib.IntN.{pos}
use lib.ListN.{length, get_or, drop, drop_of_length-le}
use Rattle.std.specs.Prelude.{Option, Some, None, option_map, option_to_list}
use Rattle.values.specs.declared.Row.{Row}
use Rattle.values.specs.declared.uses.Use.{Use}
use Rattle.values.specs.declared.uses.Use.TheVariants as use'
use Rattle.values.specs.Values as values
use Rattle.values.specs.Values.{Term, Origin, interval, pitch, Own, Value, plus, total, summed, start_of, shifted, of_origin, references}
use Rattle.values.specs.Rows.{row_terms, row_own}
use Rattle.values.specs.Inner.{used_in, base_of, use_in, uses_of, begun, gathered, joined}

-- ---- one by one

of_terms : (ts : List Term) → map used_in (map use'.Term ts) ≡ map (λ (t : Term). t.of) ts
of_terms [] = refl
of_terms (t ∷ ts) = ap (λ rs. t.of ∷ rs) (of_terms ts)

pub of_uses : (o : Own) → map used_in (uses_of o) ≡ references o
of_uses o = go o.origin
  where
    go : (x : Origin) → map used_in (option_to_list (base_of x) ++ map use'.Term o.terms) ≡ of_origin x ++ map (λ (t : Term). t.of) o.terms
    go (interval d) = of_terms o.terms
    go (pitch p) = of_terms o.terms
    go (values.base k) = ap (λ rs. k ∷ rs) (of_terms o.terms)

module _ (value : ℕ → Value) where
  gathered_terms : (a b : Value) (ts : List Term) → gathered value (record { start = a; sum = b }) (map use'.Term ts) ≡ record { start = a; sum = total value b ts }
  unfolding gathered total
  gathered_terms a b [] = refl
  gathered_terms a b (t ∷ ts) = gathered_terms a (plus b t (value t.of)) ts

  pub gathered_all : (o : Own) → joined (gathered value (begun o.origin) (uses_of o)) ≡ shifted (start_of value o.origin) (summed value o.terms)
  unfolding gathered
  gathered_all o = go o.origin
    where
      go : (x : Origin) → joined (gathered value (begun x) (option_to_list (base_of x) ++ map use'.Term o.terms)) ≡ shifted (start_of value x) (summed value o.terms)
      go (interval d) = ap joined (gathered_terms (Some d) (Some (pos 0)) o.terms)
      go (pitch p) = ap joined (gathered_terms (Some p) (Some (pos 0)) o.terms)
      go (values.base k) = ap joined (gathered_terms (value k) (Some (pos 0)) o.terms)

-- ---- place by place, as a row has them

-- the uses of a row from a place on
abbrev pub uses_from : Row → ℕ → List Use
uses_from r zero = uses_of (row_own r)
uses_from r (suc j) = map use'.Term (row_terms (drop j r.terms))

terms_step : (l : List (Option Term)) (j : ℕ) → map use'.Term (row_terms (drop j l)) ≡ option_to_list (option_map use'.Term (get_or l j None)) ++ map use'.Term (row_terms (drop (suc j) l))
terms_step [] zero = refl
terms_step [] (suc j) = refl
terms_step (None ∷ l) zero = refl
terms_step (Some t ∷ l) zero = refl
terms_step (x ∷ l) (suc j) = terms_step l j

uses_step : (r : Row) (j : ℕ) → uses_from r j ≡ option_to_list (use_in r j) ++ uses_from r (suc j)
uses_step r zero = refl
uses_step r (suc j) = terms_step r.terms j

module _ (r : Row) (j : ℕ) {x : Option Use} (e : x ≡ use_in r j) where
  -- a place is passed on where there is nothing, and has a use where there is something
  pub place_passed : x ≡ None → uses_from r j ≡ uses_from r (j + 1)
  place_passed h = let q : j + 1 ≡ suc j = omega arith in rw q (uses_step r j ∙ ap (λ y. option_to_list y ++ uses_from r (suc j)) (sym e ∙ h))

  pub place_used : {u : Use} → x ≡ Some u → uses_from r j ≡ u ∷ uses_from r (j + 1)
  place_used h = let q : j + 1 ≡ suc j = omega arith in rw q (uses_step r j ∙ ap (λ y. option_to_list y ++ uses_from r (suc j)) (sym e ∙ h))

pub uses_out : (r : Row) (j : ℕ) → length r.terms < j → uses_from r j ≡ []
uses_out r zero h = absurd (omega arith)
uses_out r (suc j) h = ap (λ l. map use'.Term (row_terms l)) (drop_of_length-le r.terms (omega arith))

pub refs_all : (r : Row) → references (row_own r) ≡ map used_in (uses_from r 0)
refs_all r = sym (of_uses (row_own r))
