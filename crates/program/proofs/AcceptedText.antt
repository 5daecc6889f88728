-- For users of an accepted text: what its being accepted says, step by step, and the laws of its program, by the number of a declaration.
use mathlib.Core.Path.{◌≡◌, refl, sym, ◌∙◌, ap, subst}
use mathlib.Core.Bool.{Bool, true, false}
use mathlib.Core.List.{List, [], ◌∷◌, map}
use Prim.Native.Nat.{ℕ, zero, suc, ◌+◌, ◌-◌, ◌≤◌, ◌<◌}
use native.Mathlib.Omega.{arith}
use borrow.Author.Tests.{ltb-true, ltb-false, le-leb}
use lib.Dec.{ltb, eqb}
use lib.IntN.{ℤ, pos, negsuc, nat_abs, ◌+ℤ◌}
use lib.ListN.{length, get_or, get_or-eq_default}
use Rattle.status.specs.Status.{done}
use Rattle.tuning.specs.Desk.{is_period, is_tone}
use Rattle.std.specs.Prelude.{Option, Some, Result, Ok, Err, unwrap_or}
use Rattle.values.specs.declared.Fault.{Fault}
use Rattle.values.specs.declared.Fault.TheVariants.{Circular, OutOfRange}
use Rattle.values.specs.Values.{Term, farthest_tone, within, value_at, references, outcome}
use Rattle.values.specs.Inner.{Uses, here, there}
use Rattle.values.proofs.Cases.{impossible}
use Rattle.values.proofs.Plain.{sum_of, start_at, done_exact, done_small, done_sums}
use Rattle.grammar.specs.declared.Kind.{Kind}
use Rattle.grammar.specs.declared.Kind.TheVariants.{Interval, Tone, System, Retuning, Logic, Harmony}
use Rattle.grammar.specs.Moves.{kind_number}
use Rattle.grammar.specs.Reading.{read_items}
use Rattle.names.specs.Names.{meanings}
use Rattle.limits.specs.Limits.{most_rows}
use Rattle.placeholders.specs.Filling.{settled}
use Rattle.program.specs.Program.{Placed, Program, program_of, Declaration, ratio, root, sequence, frequency, from, system}
use Rattle.program.specs.Program.{anchor, width, fresh_period, onward_period, tones, pattern, logic, harmony}
use Rattle.program.specs.Meaning.{nothing, declaration_at, own, own_of, value_of, valued}
use Rattle.program.specs.Allowed.{kind_of, Each, FitTerm, Fits, if_kind, count_of, Allowed}
use Rattle.program.specs.Text.{Verdict, accepted, by_value, if_zero, read_text}

-- ---- the steps of reading

pub record Steps (text : List ℕ) (p : Program) : Type 0 where
  pub read : (read_items text).number ≡ done
  pub meant : (meanings text (read_items text).items).number ≡ done
  pub filled : (settled text (meanings text (read_items text).items).items).number ≡ done
  pub program : program_of (settled text (meanings text (read_items text).items).items).items ≡ p
  pub values : valued p ≡ Ok tt

module _ {p : Program} where
  number_done : (n place : ℕ) (v : Verdict) → if_zero n place v ≡ accepted p → (n ≡ done) × (v ≡ accepted p)
  number_done zero place v e = (refl, e)
  number_done (suc n) place v e = impossible (cc)

  values_done : (q : Program) (o : Result Unit Fault) → by_value q o ≡ accepted p → (o ≡ Ok tt) × (q ≡ p)
  values_done q (Ok u) e = (refl, cc)
  values_done q (Err (Circular i)) e = impossible (cc)
  values_done q (Err (OutOfRange i)) e = impossible (cc)

pub steps : (text : List ℕ) (p : Program) → read_text text ≡ accepted p → Steps text p
unfolding read_text
steps text p e =
    let r = number_done _ _ _ e in
    let m = number_done _ _ _ r.1 in
    let f = number_done _ _ _ m.1 in
    let v = values_done _ _ f.1 in
    record { read = r.0; meant = m.0; filled = f.0; program = v.1; values = subst (λ q. valued q ≡ Ok tt) v.1 v.0 }

-- ---- each declaration fits

each_at : {A : Type 0} (P : A → Type 0) (xs : List A) → Each P xs → (i : ℕ) (d : A) → i < length xs → P (get_or xs i d)
each_at P [] w i d h = absurd (omega arith)
each_at P (x ∷ xs) w zero d h = w.0
each_at P (x ∷ xs) w (suc i) d h = each_at P xs w.1 i d (omega arith)

pub fits_at : {p : Program} → Allowed p → (i : ℕ) → i < length p → Fits p (declaration_at p i)
fits_at {p} w i h = each_at (λ (d : Placed). Fits p d.is) p w.each i nothing h

-- ---- the references of a value are to declarations of the program

terms_within : (p : Program) (ts : List Term) {r : ℕ} → Uses (map (λ (t : Term). t.of) ts) r → Each (FitTerm p) ts → r < length p
terms_within p [] x w = elim x [ ]
terms_within p (t ∷ ts) (here e) w = rw e at w.0.of.within
terms_within p (t ∷ ts) (there u) w = terms_within p ts u w.1

refers_within : (p : Program) (d : Declaration) {r : ℕ} → Fits p d → Uses (references (own_of d)) r → r < length p
refers_within p (ratio a b) w u = elim u [ ]
refers_within p (root a b) w u = elim u [ ]
refers_within p (sequence ts) w u = terms_within p ts u w.each
refers_within p (frequency f) w u = elim u [ ]
refers_within p (from k ts) w (here e) = rw e at w.0.within
refers_within p (from k ts) w (there u) = terms_within p ts u w.1.each
refers_within p (system a l ts) w u = terms_within p ts u w.period.each
refers_within p (anchor m) w u = elim u [ ]
refers_within p (width m) w u = elim u [ ]
refers_within p (fresh_period ts) w u = elim u [ ]
refers_within p (onward_period ts) w u = elim u [ ]
refers_within p (tones l) w u = elim u [ ]
refers_within p pattern w u = elim u [ ]
refers_within p (logic c s os) w u = elim u [ ]
refers_within p (harmony ks) w u = elim u [ ]

-- as values/proofs/Plain.antt takes it
pub closed : {p : Program} → Allowed p → (i r : ℕ) → Uses (references (own p i)) r → r < length p
closed {p} w i r u = go (ltb i (length p)) refl
  where
    go : (b : Bool) → ltb i (length p) ≡ b → r < length p
    go true e = refers_within p (declaration_at p i) (fits_at w i (ltb-true i (length p) e)) u
    go false e =
        let v = subst (λ (d : Placed). Uses (references (own_of d.is)) r) (get_or-eq_default p nothing (ltb-false i (length p) e)) u in
        elim v [ ]

-- ---- how many declarations there are, with those that are filled in: each is of one of six kinds

pub counts_add : (p : Program) → count_of Interval p + count_of Tone p + count_of System p + count_of Retuning p + count_of Logic p + count_of Harmony p ≡ length p
unfolding count_of
counts_add [] = refl
counts_add (d ∷ p) = go d.is (counts_add p)
  where
    counted : Declaration → Kind → ℕ
    counted c k = if_kind (eqb (kind_number (kind_of c)) (kind_number k)) (count_of k p)

    go : (c : Declaration) → count_of Interval p + count_of Tone p + count_of System p + count_of Retuning p + count_of Logic p + count_of Harmony p ≡ length p
        → counted c Interval + counted c Tone + counted c System + counted c Retuning + counted c Logic + counted c Harmony ≡ suc (length p)
    go (ratio a b) e = omega arith
    go (root a b) e = omega arith
    go (sequence ts) e = omega arith
    go (frequency f) e = omega arith
    go (from k ts) e = omega arith
    go (system a l ts) e = omega arith
    go (anchor m) e = omega arith
    go (width m) e = omega arith
    go (fresh_period ts) e = omega arith
    go (onward_period ts) e = omega arith
    go (tones l) e = omega arith
    go pattern e = omega arith
    go (logic c s os) e = omega arith
    go (harmony ks) e = omega arith

pub few_declarations : {p : Program} → Allowed p → length p ≤ most_rows
few_declarations {p} w = omega (arith, counts_add p, w.few Interval, w.few Tone, w.few System, w.few Retuning, w.few Logic, w.few Harmony)

-- ---- the values

tone_in : (z : ℤ) → nat_abs z ≤ farthest_tone → is_tone z ≡ true
tone_in (pos n) h = le-leb n farthest_tone h
tone_in (negsuc n) h = rw (le-leb n (farthest_tone - 1) (omega arith))

module _ (p : Program) (e : valued p ≡ Ok tt) where
  -- as values/proofs/Plain.antt takes it
  pub outcome_done : outcome (own p) (length p) ≡ Ok tt
  unfolding valued
  outcome_done = e

  value_within : (i : ℕ) → i < length p
      → (value_at (own p) (length p) i ≡ Some (value_of p i)) × (within (own p i).range (value_of p i) ≡ true)
  unfolding value_of
  value_within i h =
      let x = done_exact (own p) (length p) outcome_done i h in
      let z : value_of p i ≡ x.0 = ap (λ v. unwrap_or v (pos 0)) x.1 in
      (x.1 ∙ ap Some (sym z), rw z x.2)

  pub value_exact : (i : ℕ) → i < length p → value_at (own p) (length p) i ≡ Some (value_of p i)
  value_exact i h = (value_within i h).0

  pub value_small : (i : ℕ) → i < length p → nat_abs (value_of p i) ≤ farthest_tone
  value_small i h = done_small (own p) (length p) outcome_done i h (value_exact i h)

  pub value_tone : (i : ℕ) → i < length p → is_tone (value_of p i) ≡ true
  value_tone i h = tone_in (value_of p i) (value_small i h)

  pub value_period : (i : ℕ) {a : ℕ} {l : List (Option ℕ)} {ts : List Term} → i < length p → declaration_at p i ≡ system a l ts
      → is_period (value_of p i) ≡ true
  value_period i h d = subst (λ c. within (own_of c).range (value_of p i) ≡ true) d (value_within i h).1

  -- what it starts from and the sum of its terms
  pub value_is : Allowed p → (i : ℕ) → i < length p → value_of p i ≡ start_at (value_of p) (own p i).origin +ℤ sum_of (value_of p) (own p i).terms
  value_is w = done_sums (own p) (length p) outcome_done (closed w) (value_of p) value_exact
