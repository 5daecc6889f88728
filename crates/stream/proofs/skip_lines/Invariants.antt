-- What is held of the line and what is left of the chunk come to the same as before.
use Prim.Native.Nat.{◌≤◌}
use lib.ListN.{length}
use Rattle.stream.specs.Line.{held_in}
use Rattle.stream.specs.Inner.{SameSkipped}
use Rattle.stream.proofs.skip_lines.Given as goal

abbrev pub invariant-loop-end : goal.invariant-loop-end
invariant-loop-end l = (length l.rest ≤ length l.chunk) × SameSkipped (held_in l.fn.line) l.chunk (held_in l.line) l.rest

abbrev pub decreases-loop-end : goal.decreases-loop-end
decreases-loop-end l = length l.rest
