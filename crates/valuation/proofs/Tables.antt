-- The rows after the first d declarations are in them.
-- Assumes nothing.
use Prim.Native.Nat.{ℕ, ◌+◌, ◌<◌}
use mathlib.Core.Path.{◌≡◌, refl, sym, ◌∙◌, ap, subst, fun_ext}
use mathlib.Core.Bool.{Bool, true, false}
use mathlib.Core.List.{List}
use native.Mathlib.Omega.{arith}
use borrow.Author.Count.{below_more}
use borrow.Author.Tests.{ltb-true, ltb-false}
use lib.Dec.{ltb}
use lib.IntN.{ℤ}
use lib.ListN.{length, set, get_or-eq_default}
use lib.Seq.{get_or-set_same, get_or-set_other}
use Rattle.std.specs.Prelude.{Result}
use Rattle.values.specs.declared.Row.{Row}
use Rattle.values.specs.declared.Fault.{Fault}
use Rattle.values.specs.Values.{Own, references}
use Rattle.values.specs.Rows.{no_row, row_own, own_in, Uses, Resolved}
use Rattle.program.specs.Program.{Declaration, Placed, Program}
use Rattle.program.specs.Meaning.{nothing, declaration_at, own_of, own}
use Rattle.program.specs.Allowed.{Allowed}
use Rattle.program.proofs.AcceptedText.{closed, few_declarations}
use Rattle.valuation.specs.Inner.{Gathered}

module _ (p : Program) where
  abbrev pub Filled : ℕ → List Row → Type 0
  Filled d rows = (i : ℕ) → i < d → own_in rows i ≡ own p i

  -- the row of declaration d is put in
  pub filled_more : (d : ℕ) (rows : List Row) (r : Row) → Filled d rows → d < length rows → {c : Declaration} → c ≡ declaration_at p d → row_own r ≡ own_of c → Filled (d + 1) (set rows d r)
  filled_more d rows r f h q e =
      below_more (λ i. own_in (set rows d r) i ≡ own p i) d
      (λ i k. ap row_own (get_or-set_other rows d i r no_row (λ z. omega arith)) ∙ f i k)
      (ap row_own (get_or-set_same rows d r no_row h) ∙ e ∙ ap own_of q)

  module _ (rows : List Row) (a : Allowed p) (n : length rows ≡ length p) (f : Filled (length rows) rows) where
    -- past the last declaration there is nothing
    all : (i : ℕ) → own_in rows i ≡ own p i
    all i = go (ltb i (length rows)) refl
      where
        go : (b : Bool) → ltb i (length rows) ≡ b → own_in rows i ≡ own p i
        go true e = f i (ltb-true i (length rows) e)
        go false e =
            let h = ltb-false i (length rows) e in
            ap row_own (get_or-eq_default rows no_row h) ∙ ap (λ (x : Placed). own_of x.is) (sym (get_or-eq_default p nothing (omega arith)))

    pub filled_all : Gathered p rows
    filled_all =
        record {
          declared = record {
            few = rw n (few_declarations a);
            closed = λ i r u. rw n (closed a i r (subst (λ (o : Own). Uses (references o) r) (all i) u));
          };
          own_all = all;
        }

-- what is resolved from rows that hold a program is the program's
pub resolved_of : {p : Program} (n m : ℕ) {rows : List Row} {r : Result Unit Fault} {values' : List ℤ}
    → Gathered p rows → m ≡ n → Resolved (own_in rows) m r values' → Resolved (own p) n r values'
resolved_of n m {r} {values'} g e x = rw (← e) (subst (λ o. Resolved o m r values') (fun_ext g.own_all) x)
