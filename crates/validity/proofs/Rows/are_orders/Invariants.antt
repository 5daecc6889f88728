-- `validity::Rows::are_orders` meets its contract. The loop's invariant: what is left gives the answer. Assumes nothing.
use mathlib.Core.Path.{◌≡◌}
use Prim.Native.Nat.{◌-◌}
use Rattle.tables.specs.Layout.{triggers_in, calls_in}
use Rattle.validity.specs.Inner.{fast_orders}
use Rattle.validity.proofs.Rows.are_orders.Given as goal

abbrev pub invariant-loop-i : goal.invariant-loop-i
invariant-loop-i l =
    let from = fast_orders l.self.numbers.now l.self.count (triggers_in l.orders) (calls_in l.orders) in
    from l.i (l.count - l.i) ≡ from 0 l.count
