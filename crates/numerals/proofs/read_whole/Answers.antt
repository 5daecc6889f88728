-- The number is the part of the text; its first byte tells its base.
use mathlib.Core.Path.{refl, sym, ◌∙◌, ap}
use native.Mathlib.Omega.{arith}
use borrow.Author.Rules.{rules}
use borrow.Author.Tests.{tests}
use lib.Dec.{eqb}
use Rattle.std.proofs.lemmas.Iterator.{YieldsList-from_slice}
use Rattle.std.proofs.lemmas.Iterator.Search.{any_from_yields_List}
use Rattle.symbols.specs.Bytes.{point}
use Rattle.numerals.specs.Numbers.{whole_of}
use Rattle.numerals.proofs.Values.{whole_none, whole_hex, whole_point, whole_digits, before_any, before_all}
use Rattle.numerals.proofs.read_whole.Goals as goal

pub returns-in-empty : goal.returns-in-empty
returns-in-empty c = whole_none _ c.in-empty.len_below _ _ ∙ ap (whole_of _ _) c.part.ensures

pub returns-in-35 : goal.returns-in-35
returns-in-35 c =
    c.within_range.ensures ∙ whole_hex _ c.in-35.len_at_least c.value_of.ensures (omega arith) _ _ (search rules) ∙ ap (whole_of _ _) c.part.ensures

pub returns-in_default : goal.returns-in_default
returns-in_default c =
    whole_point _ c.in_default.len_at_least (λ q. omega arith) _ _ refl (before_any _ (sym (any_from_yields_List {all = c.part.result.now} (λ b. eqb b point) _ _ _ c.any.ensures.ran (YieldsList-from_slice _ cc) (λ x b q k. search (rules, tests))) ∙ c.if-any.true))
    ∙ ap (whole_of _ _) c.part.ensures

pub returns-in_default-2 : goal.returns-in_default-2
returns-in_default-2 c =
    c.within_range-in_default-2.ensures
    ∙ whole_digits _ c.in_default.len_at_least (λ q. omega arith) _ _ refl (before_all _ (sym (any_from_yields_List {all = c.part.result.now} (λ b. eqb b point) _ _ _ c.any.ensures.ran (YieldsList-from_slice _ cc) (λ x b q k. search (rules, tests))) ∙ c.if-any.false)) (search rules) c.value_of-in_default-2.ensures
    ∙ ap (whole_of _ _) c.part.ensures
