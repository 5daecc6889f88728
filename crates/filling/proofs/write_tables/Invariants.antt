-- The invariant: the declarations in front of the present one are written (`Filling`). The measure is the declarations that are left.
use Prim.Native.Nat.{◌-◌}
use lib.ListN.{length}
use Rattle.tables.specs.Layout.{tables_in}
use Rattle.tables.specs.Values.{Slices}
use Rattle.program.specs.Program.{program_of}
use Rattle.filling.specs.Inner.{value_in, lists_of}
use Rattle.filling.proofs.Filling.{Filling}
use Rattle.filling.proofs.write_tables.Given as goal

abbrev pub invariant-loop-d : goal.invariant-loop-d
invariant-loop-d l = Slices l.numbers l.codes
    × Filling (value_in l.values) (program_of l.items) l.d l.used (tables_in l.numbers l.codes).rows (lists_of (tables_in l.numbers l.codes))

abbrev pub decreases-loop-d : goal.decreases-loop-d
decreases-loop-d l = length l.starts - l.d
