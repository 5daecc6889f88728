-- The entry of each interval and tone of an accepted text follows its value, through the references; and its numbers are in their ranges.
use mathlib.Core.Path.{◌≡◌, refl, sym, ◌∙◌, ap, ap₂, subst}
use mathlib.Core.Bool.{true, false, ◌||◌, or-false}
use mathlib.Core.List.{List, [], ◌∷◌, map}
use Rattle.std.specs.Prelude.{Option, None, Ok}
use Prim.Native.Nat.{ℕ, zero, suc, ◌<◌}
use borrow.Author.Tests.{eqb-true}
use lib.Dec.{eqb}
use lib.IntN.{ℤ, ◌+ℤ◌, *ℤ_comm, +ℤ_idl, +ℤ_idr}
use lib.ListN.{length, get_or, get_or-map}
use Rattle.cents.specs.Measure as measures
use Rattle.grammar.specs.declared.Kind.{Kind}
use Rattle.grammar.specs.declared.Kind.TheVariants.{Interval, Tone, System, Retuning, Logic, Order as AnOrder, Harmony}
use Rattle.grammar.specs.Moves.{kinds, kind_number}
use Rattle.names.proofs.Searching.{kind_back}
use Rattle.values.specs.Values.{Term, weight, references}
use Rattle.values.specs.Inner.{Uses, here, there, refs_of, shallow}
use Rattle.values.proofs.Cases.{clash}
use Rattle.values.proofs.Chains.{below, all_shallow}
use Rattle.values.proofs.Plain.{sum_of, start_at, done_acyclic}
use Rattle.tuning.specs.Desk.{cents}
use Rattle.program.specs.Program as text
use Rattle.program.specs.Program.{Declaration, Placed, Program}
use Rattle.program.specs.Meaning.{own_of, nothing, declaration_at, own, value_of, valued}
use Rattle.program.specs.Allowed.{Decimal, kind_of, Refers, Each, Terms, Fits, Allowed}
use Rattle.program.proofs.AcceptedText.{fits_at, closed, outcome_done, value_is}
use Rattle.exact.specs.Book.{Declared, frequency, ratio, root, Powers, entries}
use Rattle.exact.proofs.Ranges.{Amount, AllInRange, no_more, number_and, passing}
use Rattle.exact.specs.Actions.{total, declared_by, declared_in, entry_by, entry_within, entry_of}
use Rattle.exact.proofs.Measured.{MeasuredStep, MeasuredTone, measure_follows, plus, own_ratio, own_root, own_frequency}
use Rattle.exact.proofs.Worked.{terms_refer, total_follows}

-- ---- the kinds of references

one_kind : (j k : Kind) → eqb (kind_number j) (kind_number k) || false ≡ true → j ≡ k
one_kind j k h =
    let e : kind_number j ≡ kind_number k = eqb-true (kind_number j) (kind_number k) (sym (or-false _) ∙ h) in
    sym (kind_back j) ∙ ap (λ (n : ℕ). get_or kinds n AnOrder) e ∙ kind_back k

refers_kind : (p : Program) (k : Kind) {r : ℕ} → Refers p (k ∷ []) r → kind_of (declaration_at p r) ≡ k
refers_kind p k {r} w = one_kind (kind_of (declaration_at p r)) k w.kind

-- ---- the value of an accepted declaration: what it starts from, and its terms

sum_is : (value : ℕ → ℤ) (ts : List Term) → sum_of value ts ≡ total cents value value ts
sum_is value [] = refl
sum_is value (t ∷ ts) = ap₂ (λ (x y : ℤ). x +ℤ y) (*ℤ_comm (value t.of) (weight t)) (sum_is value ts)

module _ (p : Program) (allowed : Allowed p) (done : valued p ≡ Ok tt) where
  pub value_at_step : (i : ℕ) → i < length p → (d : Declaration) → declaration_at p i ≡ d
      → value_of p i ≡ start_at (value_of p) (own_of d).origin +ℤ total cents (value_of p) (value_of p) (own_of d).terms
  value_at_step i l d e =
      value_is p done allowed i l
      ∙ ap (λ (x : Declaration). start_at (value_of p) (own_of x).origin +ℤ sum_of (value_of p) (own_of x).terms) e
      ∙ ap (λ (x : ℤ). start_at (value_of p) (own_of d).origin +ℤ x) (sum_is (value_of p) (own_of d).terms)

-- ---- entries

-- an interval's entry measures its value, and a tone's stands there; the others have none
abbrev Entered : List (Option Declared) → Kind → Powers → ℤ → Type 0
Entered ds Interval e z = MeasuredStep ds e z
Entered ds Tone e z = MeasuredTone ds e z
Entered ds System e z = Unit
Entered ds Retuning e z = Unit
Entered ds Logic e z = Unit
Entered ds AnOrder e z = Unit
Entered ds Harmony e z = Unit

number_at : (p : Program) (i : ℕ) (d : Declaration) → declaration_at p i ≡ d → get_or (declared_in p) i None ≡ declared_by d
number_at p i d e = get_or-map (λ (x : Placed). declared_by x.is) p i nothing ∙ ap declared_by e

module _ (p : Program) (allowed : Allowed p) (done : valued p ≡ Ok tt) where
  abbrev numbers : List (Option Declared)
  numbers = declared_in p

  abbrev EntryAt : (ℕ → Powers) → ℕ → Type 0
  EntryAt of r = Entered numbers (kind_of (declaration_at p r)) (of r) (value_of p r)

  as_kind : (of : ℕ → Powers) (k : Kind) {r : ℕ} → Refers p (k ∷ []) r → EntryAt of r → Entered numbers k (of r) (value_of p r)
  as_kind of k {r} w h = subst (λ (x : Kind). Entered numbers x (of r) (value_of p r)) (refers_kind p k w) h

  terms_entered : (of : ℕ → Powers) (ts : List Term) → Terms p ts → ((r : ℕ) → Uses (map (λ (t : Term). t.of) ts) r → EntryAt of r)
      → MeasuredStep numbers (total entries of of ts) (total cents (value_of p) (value_of p) ts)
  terms_entered of ts w h =
      total_follows (measure_follows numbers) of of (value_of p) (value_of p) ts (λ r u. as_kind of Interval (terms_refer p ts w.each u) (h r u))

  -- a declaration follows where those that it uses do
  one_entered : (of : ℕ → Powers) (i : ℕ) → i < length p → (d : Declaration) → declaration_at p i ≡ d → Fits p d
      → ((r : ℕ) → Uses (references (own_of d)) r → EntryAt of r) → Entered numbers (kind_of d) (entry_by of i d) (value_of p i)
  one_entered of i l (text.ratio a b) e w h =
      rw (value_at_step p allowed done i l (text.ratio a b) e ∙ +ℤ_idr (measures.ratio a b)) (own_ratio numbers i a b (number_at p i (text.ratio a b) e))
  one_entered of i l (text.root a b) e w h =
      rw (value_at_step p allowed done i l (text.root a b) e ∙ +ℤ_idr (measures.root a b)) (own_root numbers i a b (number_at p i (text.root a b) e))
  one_entered of i l (text.sequence ts) e w h =
      rw (value_at_step p allowed done i l (text.sequence ts) e ∙ +ℤ_idl (total cents (value_of p) (value_of p) ts)) (terms_entered of ts w h)
  one_entered of i l (text.frequency f) e w h =
      rw (value_at_step p allowed done i l (text.frequency f) e ∙ +ℤ_idr (measures.frequency f))
      (own_frequency numbers i f (number_at p i (text.frequency f) e))
  one_entered of i l (text.from k ts) e w h =
      rw (value_at_step p allowed done i l (text.from k ts) e)
      (plus numbers (as_kind of Tone w.0 (h k (here refl))) (terms_entered of ts w.1 (λ r u. h r (there u))))
  one_entered of i l (text.system a ps ts) e w h = tt
  one_entered of i l (text.anchor m) e w h = tt
  one_entered of i l (text.width m) e w h = tt
  one_entered of i l (text.fresh_period ts) e w h = tt
  one_entered of i l (text.onward_period ts) e w h = tt
  one_entered of i l (text.tones ps) e w h = tt
  one_entered of i l (text.logic c s os) e w h = tt
  one_entered of i l text.pattern e w h = tt
  one_entered of i l (text.harmony ks) e w h = tt

  -- along the references, no chain of which is as long as there are declarations
  entered_within : (k i : ℕ) → i < length p → shallow (refs_of (own p)) k i ≡ true → EntryAt (entry_within p k) i
  unfolding entry_within shallow
  entered_within zero i l h = absurd (clash h refl)
  entered_within (suc k) i l h =
      one_entered (entry_within p k) i l (declaration_at p i) refl (fits_at allowed i l)
      (λ r u. entered_within k r (closed allowed i r u) (below (refs_of (own p)) k i r h u))

  entered : (i : ℕ) → i < length p → EntryAt (entry_of p) i
  entered i l =
      entered_within (length p) i l
      (all_shallow (refs_of (own p)) (length p) (closed allowed) (done_acyclic (own p) (length p) (outcome_done p done)) i l)

  pub interval_entered : (r : ℕ) → Refers p (Interval ∷ []) r → MeasuredStep (declared_in p) (entry_of p r) (value_of p r)
  interval_entered r w = as_kind (entry_of p) Interval w (entered r w.within)

  pub tone_entered : (r : ℕ) → Refers p (Tone ∷ []) r → MeasuredTone (declared_in p) (entry_of p r) (value_of p r)
  tone_entered r w = as_kind (entry_of p) Tone w (entered r w.within)

-- ---- the numbers

amount : {n : ℕ} → Decimal n → Amount n
amount w = record { least = w.least; most = w.most }

number_in_range : (p : Program) (d : Declaration) → Fits p d → (l : List (Option Declared)) → AllInRange l → AllInRange (declared_by d ∷ l)
number_in_range p (text.ratio a b) w l h = number_and {d = ratio a b} (amount w.0, amount w.1) h
number_in_range p (text.root a b) w l h = number_and {d = root a b} (w.0.least, amount w.1) h
number_in_range p (text.sequence ts) w l h = passing h
number_in_range p (text.frequency f) w l h = number_and {d = frequency f} (amount w) h
number_in_range p (text.from k ts) w l h = passing h
number_in_range p (text.system a ps ts) w l h = passing h
number_in_range p (text.anchor m) w l h = passing h
number_in_range p (text.width m) w l h = passing h
number_in_range p (text.fresh_period ts) w l h = passing h
number_in_range p (text.onward_period ts) w l h = passing h
number_in_range p (text.tones ps) w l h = passing h
number_in_range p (text.logic c s os) w l h = passing h
number_in_range p text.pattern w l h = passing h
number_in_range p (text.harmony ks) w l h = passing h

numbers_in_range : (p l : Program) → Each (λ (d : Placed). Fits p d.is) l → AllInRange (declared_in l)
numbers_in_range p [] w = no_more
numbers_in_range p (d ∷ l) w = number_in_range p d.is w.0 (declared_in l) (numbers_in_range p l w.1)

pub in_range_holds : (p : Program) → Allowed p → AllInRange (declared_in p)
in_range_holds p w = numbers_in_range p p w.each
