-- A number that is judged is at most its range's highest.
-- Assumes nothing.
use mathlib.Core.Bool.{Bool, true, false, cond, ◌&&◌, and-eq-true_iff}
use mathlib.Core.List.{List, [], ◌∷◌}
use mathlib.Core.Path.{◌≡◌, refl, sym, ◌∙◌, subst}
use Prim.Native.Nat.{ℕ, ◌≤◌}
use borrow.Author.Tests.{leb-true}
use Rattle.std.specs.Prelude.{Option, Some, None}
use lib.Dec.{leb, ltb, eqb}
use lib.ListN.{length}
use Rattle.symbols.specs.Bytes.{hash}
use Rattle.numerals.specs.Numbers.{numeral, before_point, ranged, whole_of}
use Rattle.grammar.specs.declared.NumberRange.{NumberRange}
use Rattle.grammar.specs.declared.NumberRange.TheVariants.{Decimal, Whole}
use Rattle.grammar.specs.Reading.{number_in}
use Rattle.grammar.specs.Inner.{in_range}

-- what is outside, or at most `high`
abbrev AtMost : ℕ → Option ℕ → Type 0
AtMost high None = Unit
AtMost high (Some v) = v ≤ high

either : (high : ℕ) (b : Bool) (o p : Option ℕ) → AtMost high o → AtMost high p → AtMost high (cond b o p)
either high true o p h k = h
either high false o p h k = k

ranged_most : (low high x : ℕ) → AtMost high (ranged low high x)
unfolding ranged
ranged_most low high x = go (leb low x && leb x high) refl
  where
    go : (b : Bool) → (leb low x && leb x high) ≡ b → AtMost high (cond b (Some x) None)
    go true e = leb-true x high ((and-eq-true_iff (leb low x) (leb x high)).0 e).1
    go false e = tt

whole_most : (low high : ℕ) (bytes : List ℕ) → AtMost high (whole_of low high bytes)
unfolding whole_of
whole_most low high [] = tt
whole_most low high (b ∷ rest) =
    either high (eqb b hash) _ _ (ranged_most low high (numeral 16 rest))
    (either high (ltb (length (before_point (b ∷ rest))) (length (b ∷ rest))) None _ tt (ranged_most low high (numeral 10 (b ∷ rest))))

pub judged_most : (r : NumberRange) (bytes : List ℕ) {o : Option ℕ} {v : ℕ} → o ≡ number_in r bytes → o ≡ Some v → in_range r v
judged_most Decimal bytes e f = tt
judged_most (Whole low high) bytes e f = subst (AtMost high) (sym e ∙ f) (whole_most low high bytes)
