-- The invariant: the rows have the declarations before the present one (`Filled`).
-- Assumes nothing.
use Rattle.program.specs.Program.{program_of}
use Rattle.valuation.proofs.Tables.{Filled}
use Rattle.valuation.proofs.gather_all.Given as goal

abbrev pub invariant-loop-d : goal.invariant-loop-d
invariant-loop-d l = Filled (program_of l.items) l.d l.rows
