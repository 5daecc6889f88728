-- `tables::Tables::orders` meets its contract: the last section of the codes goes to their end. Assumes nothing.
use Rattle.std.proofs.Common.{ap}
use Rattle.tables.specs.Layout.{tables_in, triggers_in, calls_in, orders_at}
use Rattle.std.proofs.lemmas.List.{take_rest}
use Rattle.tables.proofs.Tables.orders.Goals as goal

pub returns-clause-triggers : goal.returns-clause-triggers
unfolding tables_in
returns-clause-triggers c = ap triggers_in (take_rest c.args.self.codes.now orders_at)

pub returns-clause-calls : goal.returns-clause-calls
unfolding tables_in
returns-clause-calls c = ap calls_in (take_rest c.args.self.codes.now orders_at)
