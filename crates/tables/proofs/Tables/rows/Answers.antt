-- `tables::Tables::rows` meets its contract. Assumes nothing.
use Rattle.std.proofs.Common.{sym, arith}
use Rattle.tables.specs.Layout.{tones_at}
use Rattle.tables.proofs.Sizes.{section_size}
use Rattle.tables.proofs.Tables.rows.Goals as goal

pub slice_bounds-result-end : goal.slice_bounds-result-end
slice_bounds-result-end c = sym (section_size 0 tones_at c.args.self.numbers.now (omega (arith, c.args.self.full)))
