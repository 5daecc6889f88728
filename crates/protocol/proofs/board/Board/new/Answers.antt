-- Right tables are of full size, and have no more rows than there is room for.
use native.Mathlib.Omega.{arith}
use mathlib.Core.Path.{ap}
use Rattle.tables.specs.declared.Counts.{Counts}
use Rattle.tables.specs.Layout.{tables_in}
use Rattle.validity.proofs.Laws.{valid_of, slices_valid}
use Rattle.protocol.proofs.board.Board.new.Goals as goal

pub invariant_of-tables : goal.invariant_of-tables
invariant_of-tables c = record { full = slices_valid c.args.numbers.now c.args.codes.now c.requires }

pub index_rows-requires-clause-most : goal.index_rows-requires-clause-most
index_rows-requires-clause-most c =
    let w = (valid_of (tables_in c.args.numbers.now c.args.codes.now) c.requires).room.rows in
    omega (arith, w, ap (λ (u : Counts). u.rows) c.counts.ensures)
