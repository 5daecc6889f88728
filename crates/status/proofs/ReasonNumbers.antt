-- No reason has the number of what is done.
-- Assumes nothing.
use mathlib.Core.Path.{◌≡◌}
use native.Mathlib.Omega.{arith}
use Rattle.status.specs.declared.Reason.{Reason}
use Rattle.status.specs.declared.Reason.TheVariants.{TextTooLong, NoSymbol, SymbolNotAllowed, NumberOutOfRange, NameTwice, NameNotDeclared, DependsOnItself, ValueOutOfRange, ItemTooMany, PlaceholderWrong}
use Rattle.status.specs.Reasons.{number_of}
use Rattle.status.specs.Status.{done}

pub never_done : (r : Reason) → number_of r ≡ done → ⊥
never_done TextTooLong e = omega arith
never_done NoSymbol e = omega arith
never_done SymbolNotAllowed e = omega arith
never_done NumberOutOfRange e = omega arith
never_done NameTwice e = omega arith
never_done NameNotDeclared e = omega arith
never_done DependsOnItself e = omega arith
never_done ValueOutOfRange e = omega arith
never_done ItemTooMany e = omega arith
never_done PlaceholderWrong e = omega arith
