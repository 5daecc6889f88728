-- Laws of where declarations begin among items.
-- Assumes nothing.
use mathlib.Core.Path.{◌≡◌, refl, ◌∙◌, ap}
use mathlib.Core.List.{List, [], ◌∷◌, ◌++◌}
use Prim.Native.Nat.{ℕ, suc, ◌+◌, ◌≤◌}
use native.Mathlib.Omega.{arith}
use lib.ListN.{length}
use Rattle.grammar.specs.declared.Item.{Item}
use Rattle.names.specs.Parts.{Part, declares, gives, uses, says, part}
use Rattle.names.specs.Names.{declared, named_by}
use Rattle.names.specs.Inner.{beginning_by, beginnings_from}

-- as many as there are declared names
pub as_many : (k : ℕ) (is : List Item) → length (beginnings_from k is) ≡ length (declared is)
unfolding beginnings_from declared
as_many k [] = refl
as_many k (i ∷ is) = go (part i) (as_many (suc k) is)
  where
    go : (p : Part) → length (beginnings_from (suc k) is) ≡ length (declared is)
        → length (beginning_by k p (beginnings_from (suc k) is)) ≡ length (named_by p (declared is))
    go (declares x y) e = ap suc e
    go (gives g a b) e = e
    go (uses u a p) e = e
    go (says m) e = e

-- no more than there are items
pub beginnings_few : (k : ℕ) (is : List Item) → length (beginnings_from k is) ≤ length is
unfolding beginnings_from
beginnings_few k [] = omega arith
beginnings_few k (i ∷ is) = go (part i) (beginnings_few (suc k) is)
  where
    go : (p : Part) → length (beginnings_from (suc k) is) ≤ length is → length (beginning_by k p (beginnings_from (suc k) is)) ≤ suc (length is)
    go (declares x y) h = omega arith
    go (gives g a b) h = omega arith
    go (uses u a p) h = omega arith
    go (says m) h = omega arith

-- of items behind others
pub beginnings_append : (k : ℕ) (is js : List Item) → beginnings_from k (is ++ js) ≡ beginnings_from k is ++ beginnings_from (k + length is) js
unfolding beginnings_from
beginnings_append k [] js = let e : k ≡ k + 0 = omega arith in ap (λ (m : ℕ). beginnings_from m js) e
beginnings_append k (i ∷ is) js =
    let e : suc k + length is ≡ k + suc (length is) = omega arith in
    ap (beginning_by k (part i)) (beginnings_append (suc k) is js ∙ ap (λ (m : ℕ). beginnings_from (suc k) is ++ beginnings_from m js) e)
    ∙ go (part i) (beginnings_from (suc k) is) (beginnings_from (k + suc (length is)) js)
  where
    go : (p : Part) (xs ys : List ℕ) → beginning_by k p (xs ++ ys) ≡ beginning_by k p xs ++ ys
    go (declares x y) xs ys = refl
    go (gives g a b) xs ys = refl
    go (uses u a p) xs ys = refl
    go (says m) xs ys = refl
