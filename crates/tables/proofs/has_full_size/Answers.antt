-- `tables::has_full_size` meets its contract: the last section of a slice goes to its end. Assumes nothing.
use Rattle.tables.proofs.Sizes.{sizes_told}
use Rattle.tables.proofs.has_full_size.Goals as goal

pub returns : goal.returns
returns c = sizes_told c.args.numbers.now c.args.codes.now
