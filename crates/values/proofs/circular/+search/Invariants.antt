-- The measure is `left`. The loop's invariant: all that the uses before `place` are of was gone through.
use Prim.Native.Nat.{◌+◌, ◌-◌, ◌≤◌, ◌<◌}
use mathlib.Core.List.{map}
use lib.ListN.{length}
use Rattle.values.specs.Rows.{own_in}
use Rattle.values.specs.Inner.{used_in, refs_of, counted, marked}
use Rattle.values.proofs.Used.{uses_from}
use Rattle.values.proofs.Marks.{Scanning}
use Rattle.values.proofs.circular.+search.Given as goal

abbrev pub invariant-loop-place : goal.invariant-loop-place
invariant-loop-place l =
    (0 < l.left) × (length l.rows ≤ l.left - 1 + counted (marked l.initial.marks) (length l.rows))
    × Scanning (refs_of (own_in l.rows)) (length l.rows) l.target l.row l.initial.marks l.marks (map used_in (uses_from l.here l.place))

abbrev pub decreases-search : goal.decreases-search
decreases-search l = l.left
