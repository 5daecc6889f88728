-- `validity::Rows::is_other_row` meets its contract. Each arm is the test of its form. Assumes nothing.
use borrow.Author.Rules.{rules}
use mir.Facts.{to_z-of_z}
use mir.Syntax.{w32}
use mir.Val.{SFits}
use Rattle.validity.proofs.Runs.{zero_tested, form_right}
use Rattle.tables.specs.Layout.{system_form, period_form, tones_form, logic_form, pattern_form}
use Rattle.validity.specs.Inner.{fast_row}
use Rattle.validity.proofs.Rows.is_other_row.Goals.{Start}
use Rattle.validity.proofs.Rows.is_other_row.Goals as goal

first_fits : (c : goal.Start) → SFits w32 c.args.n.first
first_fits c = search rules

second_fits : (c : goal.Start) → SFits w32 c.args.n.second
second_fits c = search rules

pub returns-in-3 : goal.returns-in-3
unfolding fast_row
returns-in-3 c =
    let s = (goal.at.returns-in-3 c).Start in
    let f = first_fits s in
    let g = second_fits s in
    rw (simp to_z-of_z at c.is_between.ensures, simp to_z-of_z at c.is_between-in-3.ensures, c.is_part.ensures)
    (form_right s.args.self.numbers.now s.args.self.count s.args.ends s.args.n system_form c.in-3.is)

pub returns-in-6 : goal.returns-in-6
unfolding fast_row
returns-in-6 c =
    let s = (goal.at.returns-in-6 c).Start in
    let f = first_fits s in
    let g = second_fits s in
    rw (simp to_z-of_z at c.is_between-in-6.ensures, simp to_z-of_z at c.is_between-in-6-2.ensures, c.is_nothing-in-6.ensures)
    (form_right s.args.self.numbers.now s.args.self.count s.args.ends s.args.n period_form c.in-6.is)

pub returns-in-7 : goal.returns-in-7
unfolding fast_row
returns-in-7 c =
    let s = (goal.at.returns-in-7 c).Start in
    rw (zero_tested s.args.n.first (first_fits s), zero_tested s.args.n.second (second_fits s), c.is_part-in-7.ensures)
    (form_right s.args.self.numbers.now s.args.self.count s.args.ends s.args.n tones_form c.in-7.is)

pub returns-in-8 : goal.returns-in-8
unfolding fast_row
returns-in-8 c =
    let s = (goal.at.returns-in-8 c).Start in
    let f = first_fits s in
    let g = second_fits s in
    rw (simp to_z-of_z at c.is_trigger.ensures, simp to_z-of_z at c.is_start.ensures, c.is_part-in-8.ensures)
    (form_right s.args.self.numbers.now s.args.self.count s.args.ends s.args.n logic_form c.in-8.is)

pub returns-in-10 : goal.returns-in-10
unfolding fast_row
returns-in-10 c =
    let s = (goal.at.returns-in-10 c).Start in
    rw (zero_tested s.args.n.first (first_fits s), zero_tested s.args.n.second (second_fits s), c.is_nothing-in-10.ensures)
    (form_right s.args.self.numbers.now s.args.self.count s.args.ends s.args.n pattern_form c.in-10.is)
