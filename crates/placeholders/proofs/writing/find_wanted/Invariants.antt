-- The invariant: what the present item and those after it want is what all want.
use mathlib.Core.Path.{◌≡◌}
use lib.ListN.{drop}
use Rattle.placeholders.specs.Filling.{wanted_by}
use Rattle.placeholders.proofs.writing.find_wanted.Given as goal

abbrev pub invariant-loop-item : goal.invariant-loop-item
invariant-loop-item l = wanted_by (drop l.item-index l.items) ≡ wanted_by l.items
