-- The measure is `left`. The loop's invariant: the uses before `place` are gathered in `parts`, and the memo has grown.
use Prim.Native.Nat.{suc, ◌+◌, ◌-◌, ◌*◌, ◌≤◌}
use lib.ListN.{length}
use Rattle.values.specs.Rows.{terms_per_row, own_in}
use Rattle.values.specs.Inner.{size, largest_measure, largest_product, largest_sum}
use Rattle.values.proofs.Used.{uses_from}
use Rattle.values.proofs.Visits.{Going}
use Rattle.values.proofs.memo.+visit.Given as goal

abbrev pub invariant-loop-place : goal.invariant-loop-place
invariant-loop-place l =
    (size l.parts.start ≤ largest_measure) × (size l.parts.sum + largest_product * (suc terms_per_row - l.place) ≤ largest_sum)
    × Going (own_in l.rows) (length l.rows) l.row l.initial.memo l.memo l.parts (uses_from l.here l.place)

abbrev pub decreases-visit : goal.decreases-visit
decreases-visit l = l.left
