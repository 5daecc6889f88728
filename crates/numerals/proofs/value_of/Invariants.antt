-- The invariant: the value read so far, read on, is up to the cap the value of all digits.
use Prim.Native.Nat.{◌≤◌, min}
use mathlib.Core.Path.{◌≡◌}
use lib.ListN.{drop}
use Rattle.numerals.specs.Numbers.{numeral_after, numeral}
use Rattle.numerals.proofs.Values.{C}
use Rattle.numerals.proofs.value_of.Given as goal

abbrev pub invariant-loop-b : goal.invariant-loop-b
invariant-loop-b l = record {
  capped : l.value ≤ C;
  read : min (numeral_after l.base l.value (drop l.b-index l.digits)) C ≡ min (numeral l.base l.digits) C;
}
