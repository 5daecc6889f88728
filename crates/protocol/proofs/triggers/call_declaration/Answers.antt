-- A tone system is taken.
use mathlib.Core.Path.{sym, ap, ◌∙◌}
use Rattle.tuning.specs.Tuning.{Tuning, system}
use Rattle.tuning.specs.Desk.{cents}
use Rattle.tuning.specs.State.{held, replied}
use Rattle.tuning.proofs.Held.{held_coded}
use Rattle.tables.specs.Lent.{tables_of}
use Rattle.protocol.proofs.Calls.{call_row}
use Rattle.protocol.proofs.triggers.call_declaration.Goals as goal

pub returns-in-System : goal.returns-in-System
returns-in-System c =
    c.take_system.ensures
    ∙ ap (λ (y : Tuning cents). replied c.args.s (system y)) (ap held c.system.ensures ∙ held_coded _)
    ∙ call_row (tables_of c.args.tables) c.args.s c.args.k (sym c.in-System.is ∙ c.row.ensures)
