-- The invariant: what is written and what is left of the positions (`Making`). The measure is the items that are left.
use Prim.Native.Nat.{◌-◌}
use lib.ListN.{length, drop}
use Rattle.tables.specs.Layout.{change_code, change_number}
use Rattle.program.specs.Program.{grouped}
use Rattle.filling.specs.Tables.{change_of}
use Rattle.filling.specs.Inner.{value_in, FitPosition}
use Rattle.filling.proofs.Writing.{Making}
use Rattle.filling.proofs.lists.write_changes.Given as goal

abbrev pub invariant-loop-i : goal.invariant-loop-i
invariant-loop-i l =
    Making (FitPosition l.values) (change_of (value_in l.values)) change_code change_number
    (grouped l.items).positions l.at l.initial.kinds l.initial.changes (grouped (drop l.i l.items)).positions l.kinds l.changes l.count

abbrev pub decreases-loop-i : goal.decreases-loop-i
decreases-loop-i l = length l.items - l.i
