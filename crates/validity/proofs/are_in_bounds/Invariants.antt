-- `validity::are_in_bounds` meets its contract. The loop's invariant: what was found so far and what is left give the answer. Assumes nothing.
use Rattle.std.proofs.Common.{◌≡◌, ◌&&◌, drop}
use Rattle.tuning.specs.Desk.{between}
use Rattle.validity.specs.Inner.{fast_each}
use Rattle.validity.proofs.are_in_bounds.Given as goal

abbrev pub invariant-loop-i : goal.invariant-loop-i
invariant-loop-i l =
    let each = fast_each l.bounds.last (between l.bounds.low l.bounds.high) in
    l.ok && each (drop l.i l.kinds) (drop l.i l.numbers) ≡ each l.kinds l.numbers
