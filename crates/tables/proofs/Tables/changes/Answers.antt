-- `tables::Tables::changes` meets its contract: the last section of the numbers goes to their end. Assumes nothing.
use Rattle.tables.specs.Layout.{tables_in, changes_at}
use Rattle.std.proofs.lemmas.List.{take_rest}
use Rattle.tables.proofs.Tables.changes.Goals as goal

pub returns : goal.returns
unfolding tables_in
returns c = take_rest c.args.self.numbers.now changes_at
