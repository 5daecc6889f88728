-- With the records that are left stored, the array is the one that is asked for.
use mathlib.Core.Path.{◌≡◌}
use Rattle.tables.specs.Layout.{order_width}
use Rattle.protocol.proofs.Records.{Gathering}
use Rattle.protocol.proofs.triggers.gather_orders.Given as goal

abbrev pub invariant-loop-i : goal.invariant-loop-i
invariant-loop-i l = (l.i-iterator.iter.size ≡ order_width) × Gathering l.rows l.orders l.all l.i-iterator.iter.rest.now l.i-iterator.count
