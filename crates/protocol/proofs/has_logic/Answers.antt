-- By the row's form, and the number of rows.
use mathlib.Core.Path.{ap, ◌∙◌}
use mathlib.Core.Bool.{Bool, ◌&&◌}
use mathlib.Core.List.{List}
use lib.Dec.{ltb, eqb}
use lib.IntN.{ℤ}
use Rattle.tables.specs.declared.Counts.{Counts}
use Rattle.tables.specs.declared.Numbers.{Numbers}
use Rattle.tables.specs.Layout.{row_count, read_at, logic_form}
use Rattle.tables.specs.Lent.{tables_of}
use Rattle.protocol.proofs.Forms.{logic_is}
use Rattle.protocol.proofs.has_logic.Goals as goal

pub returns : goal.returns
returns c =
    let t = tables_of c.args.tables in
    let i = c.args.i in
    ap (λ (n : Numbers). ltb i c.counts.result.rows && eqb n.form logic_form) (c.numbers_at-n.ensures ∙ ap (λ (rows : List ℤ). read_at rows i) c.rows.ensures)
    ∙ ap (λ (u : Counts). ltb i u.rows && eqb (read_at t.rows i).form logic_form) c.counts.ensures
    ∙ ap (λ (b : Bool). ltb i (row_count t) && b) (logic_is (read_at t.rows i))
