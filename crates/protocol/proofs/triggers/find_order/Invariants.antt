-- From the present part on the same is found as among all.
use mathlib.Core.Path.{◌≡◌}
use Prim.Native.Nat.{◌*◌}
use Rattle.tables.specs.Layout.{order_width}
use Rattle.protocol.specs.Inner.{is_trigger, part_size}
use Rattle.protocol.proofs.Records.{Searching}
use Rattle.protocol.proofs.triggers.find_order.Given as goal

abbrev pub invariant-loop-part : goal.invariant-loop-part
invariant-loop-part l = (l.part-iterator.size ≡ order_width * part_size) × Searching (is_trigger l.trigger) l.orders l.part-iterator.rest.now
