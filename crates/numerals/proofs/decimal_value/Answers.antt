-- The point stands at `point`, or nowhere; the parts before and after it are read up to the cap.
use mathlib.Core.Path.{refl, ◌∙◌}
use native.Mathlib.Nat.{mul-le-mul}
use native.Mathlib.Omega.{arith}
use borrow.Author.Rules.{rules}
use borrow.Author.Tests.{tests}
use lib.Dec.{eqb}
use Rattle.symbols.specs.Bytes.{point}
use Rattle.std.proofs.lemmas.Iterator.{YieldsList-from_slice}
use Rattle.std.proofs.lemmas.Iterator.Search.{position_from_yields_List}
use Rattle.numerals.proofs.Values.{capped_le, pow_bounds, found_none, found_some, point_none, point_many, point_some}
use Rattle.numerals.proofs.decimal_value.Goals as goal

pub returns-in_default : goal.returns-in_default
returns-in_default c =
    c.within_range.ensures
    ∙ point_none _ refl
    (found_none c.args.number.now (position_from_yields_List {all = c.args.number.now} (λ b. eqb b point) _ _ _ c.position.ensures.ran (YieldsList-from_slice _ cc) (λ x b q k. search (rules, tests))) c.in_default.is)
    c.value_of.ensures

pub returns-then-places-gt-MOST_PLACES : goal.returns-then-places-gt-MOST_PLACES
returns-then-places-gt-MOST_PLACES c =
    point_many _
    (found_some c.args.number.now (position_from_yields_List {all = c.args.number.now} (λ b. eqb b point) _ _ _ c.position.ensures.ran (YieldsList-from_slice _ cc) (λ x b q k. search (rules, tests))) _ c.in-Some.is)
    _ refl c.if-places-gt-MOST_PLACES.true

pub overflow_add-value_of : goal.overflow_add-value_of
overflow_add-value_of c = omega (arith, mul-le-mul (capped_le _ c.value_of-2.ensures) (pow_bounds _ c.pow.ensures).1)

pub returns : goal.returns
returns c =
    c.within_range-2.ensures
    ∙ point_some _
    (found_some c.args.number.now (position_from_yields_List {all = c.args.number.now} (λ b. eqb b point) _ _ _ c.position.ensures.ran (YieldsList-from_slice _ cc) (λ x b q k. search (rules, tests))) _ c.in-Some.is)
    _ refl c.if-places-gt-MOST_PLACES.false c.value_of-3.ensures c.value_of-2.ensures c.pow.ensures (pow_bounds _ c.pow.ensures).0
