-- The invariant: what is written and what is left of the orders (`Making`). The measure is the items that are left.
use Prim.Native.Nat.{◌-◌}
use lib.ListN.{length, drop}
use Rattle.tables.specs.Layout.{triggers_in, calls_in}
use Rattle.program.specs.Program.{Order, orders_of}
use Rattle.filling.specs.Inner.{trigger_of, call_of, FitOrder}
use Rattle.filling.proofs.Writing.{Making}
use Rattle.filling.proofs.lists.write_orders.Given as goal

-- an order is written as it is
abbrev pub as_is : Order → Order
as_is x = x

abbrev pub invariant-loop-i : goal.invariant-loop-i
invariant-loop-i l =
    Making FitOrder as_is trigger_of call_of (orders_of l.items) l.at (triggers_in l.initial.orders) (calls_in l.initial.orders)
    (orders_of (drop l.i l.items)) (triggers_in l.orders) (calls_in l.orders) l.count

abbrev pub decreases-loop-i : goal.decreases-loop-i
decreases-loop-i l = length l.items - l.i
