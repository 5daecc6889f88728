-- A byte past the end is read as 0, which is in no name.
use Rattle.std.proofs.Common.{arith}
use Rattle.std.proofs.lemmas.Grind.{common_steps}
use Rattle.std.proofs.lemmas.Option.{gets}
use Rattle.symbols.proofs.Letters.{zero_outside}
use Rattle.symbols.proofs.spelling.goes_on.Goals as goal

pub returns : goal.returns
returns c = grind (arith, common_steps, gets, zero_outside)
