-- `validity::is_block_of` meets its contract. The loop's invariant: what was found so far. Assumes nothing.
use Rattle.std.proofs.Common.{◌≡◌, take}
use Rattle.std.specs.List.{list_all}
use Rattle.validity.proofs.is_block_of.Given as goal

abbrev pub invariant-loop-y : goal.invariant-loop-y
invariant-loop-y g l = l.ok ≡ list_all (λ y. g.T.PartialEq.eq y l.x) (take l.y-index l.block)
