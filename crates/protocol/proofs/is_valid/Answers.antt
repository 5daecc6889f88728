-- Right tables are of full size.
use Rattle.std.proofs.Common.{sym, ◌∙◌}
use Rattle.validity.proofs.Laws.{slices_valid}
use Rattle.protocol.proofs.is_valid.Goals as goal

pub invariant_of-tables : goal.invariant_of-tables
invariant_of-tables c = record { full = slices_valid c.args.numbers.now c.args.codes.now (sym c.valid_tables.ensures ∙ c.if-not-valid_tables.false) }
