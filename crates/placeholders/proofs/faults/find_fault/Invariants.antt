-- The invariant: the first fault from the present item on is that of all, `from` being where the names of the declaration under way begin. The measure is the
-- items that are left.
use Prim.Native.Nat.{◌-◌, ◌≤◌}
use mathlib.Core.Path.{◌≡◌}
use mathlib.Core.List.{[]}
use lib.ListN.{length, drop}
use Rattle.placeholders.specs.Placeholders.{fault_from}
use Rattle.placeholders.specs.Inner.{names_in, takes_by}
use Rattle.placeholders.proofs.Wrong.{part}
use Rattle.placeholders.proofs.faults.find_fault.Given as goal

abbrev pub invariant-loop-i : goal.invariant-loop-i
invariant-loop-i l =
    (l.from ≤ l.i)
    × (fault_from l.text (takes_by l.starts l.items) (names_in (part l.from l.i l.items)) (drop l.i l.items)
    ≡ fault_from l.text (takes_by l.starts l.items) [] l.items)

abbrev pub decreases-loop-i : goal.decreases-loop-i
decreases-loop-i l = length l.items - l.i
