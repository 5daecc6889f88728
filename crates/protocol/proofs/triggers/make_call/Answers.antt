-- A call changes the desk's tuning alone.
use mathlib.Core.Path.{ap, ◌∙◌}
use Rattle.tables.specs.Lent.{tables_of}
use Rattle.protocol.specs.declared.Desk.{Desk}
use Rattle.protocol.proofs.Calls.{found_leaves}
use Rattle.protocol.proofs.triggers.make_call.Goals as goal

pub returns : goal.returns
returns c =
    let a = c.args in
    let called = c.call_found-reply in
    ap (λ (d : Desk). record { desk = d; number = called.result.number }) c.with_tuning.ensures ∙ found_leaves (tables_of a.tables) a.house a.desk a.called called.ensures
