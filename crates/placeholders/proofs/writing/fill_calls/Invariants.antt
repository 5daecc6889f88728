-- The invariant: what has become of the items in front of the present one, and what stands behind them all (`Writing`). The measure is the items that are left.
use Prim.Native.Nat.{◌-◌}
use lib.ListN.{take}
use Rattle.placeholders.proofs.Written.{Writing}
use Rattle.placeholders.proofs.writing.fill_calls.Given as goal

abbrev pub invariant-loop-i : goal.invariant-loop-i
invariant-loop-i l = Writing l.text (take l.count l.initial.items) l.initial.items l.initial.starts l.items l.starts l.end l.next l.i

abbrev pub decreases-loop-i : goal.decreases-loop-i
decreases-loop-i l = l.count - l.i
