-- The invariant: the first symbol from the present place on is the first from `at` on. The measure is what is left of the text.
use Prim.Native.Nat.{◌-◌}
use mathlib.Core.Path.{◌≡◌}
use lib.ListN.{length, drop}
use Rattle.symbols.specs.Symbols.{next_symbol, symbol_from}
use Rattle.symbols.proofs.next_symbol.Given as goal

abbrev pub invariant-loop-i : goal.invariant-loop-i
invariant-loop-i l = symbol_from l.i (drop l.i l.text) ≡ next_symbol l.text l.at

abbrev pub decreases-loop-i : goal.decreases-loop-i
decreases-loop-i l = length l.text - l.i
