-- The tables are cleared; the text is refused where a slice is not of full size, else its symbols are read.
use mathlib.Core.Path.{ap}
use mathlib.Core.Bool.{not}
use Rattle.mutabor.proofs.Steps.{too_small, large_enough, now_blank, goes_on}
use Rattle.mutabor.proofs.read_text.Goals as goal

pub returns-then-not-has_full_size : goal.returns-then-not-has_full_size
returns-then-not-has_full_size c = too_small _ c.clear_tables.ensures c.has_full_size.ensures (ap not c.if-not-has_full_size.true)

pub take_symbols-requires : goal.take_symbols-requires
take_symbols-requires c = now_blank c.clear_tables.ensures (large_enough c.clear_tables.ensures c.has_full_size.ensures (ap not c.if-not-has_full_size.false))

pub returns : goal.returns
returns c = goes_on _ _ (large_enough c.clear_tables.ensures c.has_full_size.ensures (ap not c.if-not-has_full_size.false)) c.take_symbols.ensures
