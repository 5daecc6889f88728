-- A logic, else an order of the active logic.
use mathlib.Core.Path.{sym, ap, ◌∙◌}
use mathlib.Core.List.{List}
use lib.IntN.{ℤ}
use Rattle.tables.specs.Layout.{triggers_in, calls_in}
use Rattle.protocol.specs.Triggers.{matching, first_order}
use Rattle.protocol.specs.Inner.{called_in, sounds_in}
use Rattle.protocol.specs.OnBoard.{tables_on}
use Rattle.protocol.proofs.Active.{called_logic, called_order}
use Rattle.protocol.proofs.board.Board.find_called.Goals as goal

pub returns-in-Some : goal.returns-in-Some
returns-in-Some c = called_logic (tables_on c.args.self.now) c.args.active (matching c.args.chord) (sym c.find_logic.ensures ∙ c.in-Some.is)

pub returns-in-None : goal.returns-in-None
returns-in-None c =
    c.find_order.ensures
    ∙ ap (λ (rows : List ℤ). called_in rows (first_order (sounds_in rows c.args.chord) (triggers_in c.orders_of.result.now) (calls_in c.orders_of.result.now))) c.rows.ensures
    ∙ called_order (tables_on c.args.self.now) c.args.active (matching c.args.chord) (sym c.find_logic.ensures ∙ c.in-None.is) c.orders_of.ensures
