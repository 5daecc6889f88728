-- A place of the text leaves room for the mark.
use native.Mathlib.Omega.{arith}
use Rattle.symbols.specs.Names.{name_at}
use Rattle.names.proofs.Marks.{mark_few}
use Rattle.names.proofs.pack.Goals as goal

pub overflow_add-result : goal.overflow_add-result
overflow_add-result c = omega (arith, c.mark_of.ensures, mark_few c.args.kind (name_at c.args.text.now c.args.place))
