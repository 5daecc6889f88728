-- `tables::Tables::new` meets its contract: the tables are of full size where both slices are. Assumes nothing.
use Rattle.std.proofs.Common.{rules}
use Rattle.tables.proofs.Sizes.{slices_of}
use Rattle.tables.proofs.Tables.new.Goals as goal

pub invariant_of-result : goal.invariant_of-result
invariant_of-result c = record { full = slices_of c.args.numbers.now c.args.codes.now (search rules) }
