-- The sum is capped once; the first item tells whether the period is a new one.
use mathlib.Core.Path.{◌≡◌, sym, ◌∙◌, ap}
use mathlib.Core.List.{List}
use lib.IntN.{ℤ}
use Rattle.tuning.specs.declared.PeriodChange.TheVariants.{Fresh, Onward}
use Rattle.tuning.specs.declared.Retuning.TheVariants.{Period}
use Rattle.tables.specs.declared.Row.TheVariants.{Retuning}
use Rattle.grammar.specs.declared.Item.{Item}
use Rattle.program.specs.Program.{Declaration, terms_of, period_of, fresh_period}
use Rattle.tuning.specs.Capped.{capped}
use Rattle.filling.specs.Tables.{sum, row_of}
use Rattle.filling.specs.Inner.{value_in}
use Rattle.filling.proofs.Forms.{period_form_holds, period_fit, period_none, as_fresh, period_onward}
use Rattle.filling.proofs.rows.read_period.Goals.{After-to_interval-sum, After-make_retuning-fresh}
use Rattle.filling.proofs.rows.read_period.Goals as goal

-- the sum as the row has it
summed : (c : goal.After-to_interval-sum) → let args = c.args in
    c.to_interval-sum.result.0 ≡ sum (value_in args.values.now) (terms_of args.items.now)
summed c = c.to_interval-sum.ensures ∙ ap capped c.sum_terms.ensures

-- the row of a new period
fresh : (c : goal.After-make_retuning-fresh) → period_of c.args.items.now ≡ fresh_period (terms_of c.args.items.now)
    → c.make_retuning-fresh.result ≡ row_of (value_in c.args.values.now) 0 0 0 0 (period_of c.args.items.now)
fresh c e =
    c.make_retuning-fresh.ensures
    ∙ ap (λ (z : ℤ). Retuning (Period (Fresh (record { 0 = z }))) 0 0) (summed (goal.at.After-make_retuning-fresh c).After-to_interval-sum)
    ∙ ap (λ (d : Declaration). row_of (value_in c.args.values.now) 0 0 0 0 d) (sym e)

pub sum_terms-requires : goal.sum_terms-requires
sum_terms-requires c = period_fit _ (period_form_holds _) c.requires

pub returns-in_default : goal.returns-in_default
returns-in_default c = fresh (goal.at.returns-in_default c).After-make_retuning-fresh (period_none _ c.in_default.ensures.cases)

pub returns-in_default-first : goal.returns-in_default-first
returns-in_default-first c =
    let e = c.in-Some.ensures.cases.0 in
    fresh (goal.at.returns-in_default-first c).After-make_retuning-fresh
    (ap period_of e ∙ as_fresh c.in-Some.first.now c.in_default-first.not-Onward _ ∙ ap (λ (is : List Item). fresh_period (terms_of is)) (sym e))

pub returns : goal.returns
returns c =
    c.make_retuning.ensures
    ∙ ap (λ (z : ℤ). Retuning (Period (Onward (record { 0 = z }))) 0 0) (summed (goal.at.returns c).After-to_interval-sum)
    ∙ ap (λ (d : Declaration). row_of (value_in c.args.values.now) 0 0 0 0 d) (sym (period_onward c.in-Some.ensures.cases.0 c.in-Onward.is))
