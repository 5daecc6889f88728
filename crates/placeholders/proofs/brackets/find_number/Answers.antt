-- The invariant: the number that the pairs from the present one on give is the one that all give.
-- Assumes nothing.
use Prim.Native.Nat.{ℕ}
use mathlib.Core.Path.{◌≡◌, refl, sym, ◌∙◌, ap}
use mathlib.Core.Bool.{Bool, true, false, cond}
use mathlib.Core.List.{List, [], ◌∷◌}
use mathlib.Core.Logic.{⊎_elim}
use native.Mathlib.Omega.{arith}
use lib.ListN.{length}
use Rattle.symbols.specs.Bytes.{same}
use Rattle.symbols.specs.Names.{name_at}
use Rattle.grammar.specs.declared.Item.{Item}
use Rattle.placeholders.specs.Placeholders.{named, handed}
use Rattle.placeholders.specs.Filling.{given}
use Rattle.placeholders.proofs.Items.{named_first, named_none, handed_first, handed_none}
use Rattle.placeholders.proofs.brackets.find_number.Goals as goal

-- ---- the number for a name

module _ (text name : List ℕ) where
  no_names : {ps : List ℕ} (ns : List ℕ) → ps ≡ [] → given text ps ns name ≡ 0
  unfolding given
  no_names ns e = rw e

  no_numbers : (ps : List ℕ) {ns : List ℕ} → ns ≡ [] → given text ps ns name ≡ 0
  unfolding given
  no_numbers [] e = refl
  no_numbers (p ∷ ps) e = rw e

  first_number : {ps ns : List ℕ} {p n : ℕ} {ps' ns' : List ℕ} {r b : Bool} → ps ≡ p ∷ ps' → ns ≡ n ∷ ns' → r ≡ same (name_at text p) name → r ≡ b
      → given text ps ns name ≡ cond b n (given text ps' ns' name)
  unfolding given
  first_number {b = true} e f h g = rw (e, f, given, ← h, g)
  first_number {b = false} e f h g = rw (e, f, given, ← h, g)

empty : (is : List Item) → length is ≡ 0 → is ≡ []
empty [] e = refl
empty (i ∷ is) e = absurd (omega (arith, e))

pub loop-name-init : goal.loop-name-init
loop-name-init c = cc

pub returns-in_default : goal.returns-in_default
returns-in_default c =
    sym (no_names _ _ _ (ap named c.in-Some.ensures.steps.0 ∙ named_none _ c.see.ensures _ c.in_default.not-Names)) ∙ c.loop-name.invariant

pub returns-in_default-see : goal.returns-in_default-see
returns-in_default-see c =
    sym (no_numbers _ _ _ (ap handed c.in-Some.ensures.steps.1 ∙ handed_none _ c.see-in-loop-name.ensures _ c.in_default-see.not-Hands)) ∙ c.loop-name.invariant

pub returns-then-same_name : goal.returns-then-same_name
returns-then-same_name c =
    sym (first_number _ _ (ap named c.in-Some.ensures.steps.0 ∙ named_first _ c.see.ensures _ c.in-Names.is)
    (ap handed c.in-Some.ensures.steps.1 ∙ handed_first _ c.see-in-loop-name.ensures _ c.in-Hands.is) c.same_name.ensures c.if-same_name.true)
    ∙ c.loop-name.invariant

pub loop-name-preserved : goal.loop-name-preserved
loop-name-preserved c =
    sym (first_number _ _ (ap named c.in-Some.ensures.steps.0 ∙ named_first _ c.see.ensures _ c.in-Names.is)
    (ap handed c.in-Some.ensures.steps.1 ∙ handed_first _ c.see-in-loop-name.ensures _ c.in-Hands.is) c.same_name.ensures c.if-same_name.false)
    ∙ c.loop-name.invariant

pub returns : goal.returns
unfolding named handed
returns c =
    ⊎_elim
    (λ e. sym (no_names _ _ _ (ap named (empty _ e.1.0))))
    (λ e. sym (no_numbers _ _ _ (ap handed (empty _ e.1.0))))
    c.in-None.ensures.steps
    ∙ c.loop-name.invariant
