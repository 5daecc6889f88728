-- The invariant: the number that the pairs from the present one on give is the one that all give.
use mathlib.Core.Path.{◌≡◌}
use Rattle.std.specs.Iterator.Adapters.{zip_first, zip_second}
use Rattle.std.specs.Slice.Iter.{iter_rest}
use Rattle.symbols.specs.Names.{name_at}
use Rattle.placeholders.specs.Placeholders.{named, handed}
use Rattle.placeholders.specs.Filling.{given}
use Rattle.placeholders.proofs.brackets.find_number.Given as goal

abbrev pub invariant-loop-name : goal.invariant-loop-name
invariant-loop-name l =
    given l.text (named (iter_rest (zip_first l.name-iterator))) (handed (iter_rest (zip_second l.name-iterator))) (name_at l.text l.at)
    ≡ given l.text (named l.body) (handed l.after) (name_at l.text l.at)
