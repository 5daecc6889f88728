-- The loop's invariant: the front of the table has the values of the memo before `i`.
use mathlib.Core.Path.{◌≡◌}
use mathlib.Core.List.{◌++◌}
use lib.ListN.{take, drop}
use Rattle.values.specs.Inner.{numbers_in}
use Rattle.values.proofs.hand_over.Given as goal

abbrev pub invariant-loop-i : goal.invariant-loop-i
invariant-loop-i l = l.table ≡ numbers_in (take l.i l.memo) ++ drop l.i l.initial.table
