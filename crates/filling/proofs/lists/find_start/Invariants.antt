-- The invariant: what the present item and those after it start with is what all start with.
use mathlib.Core.Path.{◌≡◌}
use lib.ListN.{drop}
use Rattle.program.specs.Program.{start_of}
use Rattle.filling.proofs.lists.find_start.Given as goal

abbrev pub invariant-loop-item : goal.invariant-loop-item
invariant-loop-item l = start_of (drop l.item-index l.items) ≡ start_of l.items
