-- By the row's form.
use mathlib.Core.Path.{◌≡◌, sym, ap, ◌∙◌}
use Rattle.std.specs.Prelude.{Option}
use native.Mathlib.Omega.{arith}
use borrow.Author.Tests.{ne_eqb, le-leb, lt-leb}
use Rattle.orders.specs.declared.Kind.{Kind}
use Rattle.tables.specs.declared.Numbers.{Numbers}
use Rattle.tables.specs.Layout.{system_form, anchor_form, tones_form, logic_form, row_of}
use Rattle.protocol.specs.Inner.{kind_of, kind_at}
use Rattle.protocol.proofs.Forms.{kind_by, kind_by_step}
use Rattle.protocol.proofs.triggers.kind_of.Goals.{After-numbers_at-n}
use Rattle.protocol.proofs.triggers.kind_of.Goals as goal

-- the kind by the form that was read is that of the definition
kind_here_holds : (c : goal.After-numbers_at-n) {k : Option Kind} → kind_by c.numbers_at-n.result.form ≡ k → k ≡ kind_at c.args.rows.now c.args.k
kind_here_holds c e = sym e ∙ kind_by_step c.numbers_at-n.result ∙ ap (λ (n : Numbers). kind_of (row_of n)) c.numbers_at-n.ensures

pub returns-in-3 : goal.returns-in-3
returns-in-3 c = kind_here_holds (goal.at.returns-in-3 c).After-numbers_at-n (rw c.in-3.is)

pub returns-in-8 : goal.returns-in-8
returns-in-8 c = kind_here_holds (goal.at.returns-in-8 c).After-numbers_at-n (rw c.in-8.is)

pub returns-in-4 : goal.returns-in-4
returns-in-4 c =
    let f = c.numbers_at-n.result.form in
    kind_here_holds (goal.at.returns-in-4 c).After-numbers_at-n (rw (ne_eqb f system_form (omega arith), le-leb anchor_form f (omega arith), le-leb f tones_form (omega arith)))

pub returns-in_default : goal.returns-in_default
returns-in_default c =
    let f = c.numbers_at-n.result.form in
    kind_here_holds (goal.at.returns-in_default c).After-numbers_at-n (rw (ne_eqb f system_form (omega arith), lt-leb anchor_form f (omega arith), ne_eqb f logic_form (omega arith)))

pub returns-in_default-2 : goal.returns-in_default-2
returns-in_default-2 c =
    let f = c.numbers_at-n.result.form in
    kind_here_holds (goal.at.returns-in_default-2 c).After-numbers_at-n
    (rw (ne_eqb f system_form (omega arith), lt-leb f tones_form (omega arith), le-leb anchor_form f (omega arith), ne_eqb f logic_form (omega arith)))
