-- The invariant: what is found from the present item on is what is found among all.
use mathlib.Core.Path.{◌≡◌}
use lib.ListN.{drop}
use Rattle.symbols.specs.Names.{name_at}
use Rattle.placeholders.specs.Placeholders.{is_among}
use Rattle.placeholders.specs.Inner.{names_in}
use Rattle.placeholders.proofs.brackets.is_among.Given as goal

abbrev pub invariant-loop-item : goal.invariant-loop-item
invariant-loop-item l = is_among l.text (names_in (drop l.item-index l.items)) (name_at l.text l.at) ≡ is_among l.text (names_in l.items) (name_at l.text l.at)
