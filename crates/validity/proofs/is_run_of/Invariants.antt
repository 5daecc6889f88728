-- `validity::is_run_of` meets its contract. The loop's invariant: what is left gives the answer. Assumes nothing.
use Rattle.std.proofs.Common.{◌≡◌, length}
use Rattle.std.specs.List.{list_all}
use Rattle.validity.proofs.is_run_of.Given as goal

abbrev pub invariant-loop-rest : goal.invariant-loop-rest
invariant-loop-rest g l = list_all (λ y. g.T.PartialEq.eq y l.x) l.rest ≡ list_all (λ y. g.T.PartialEq.eq y l.x) l.table

abbrev pub decreases-loop-rest : goal.decreases-loop-rest
decreases-loop-rest g l = length l.rest
