-- The test of the mark, and then that of the name.
use borrow.Author.Tests.{eq-eqb, ne_eqb}
use Rattle.names.proofs.declares.Goals as goal

pub returns-then-kept-mark : goal.returns-then-kept-mark
returns-then-kept-mark c = simp (ne_eqb _ _ c.if-kept-mark.true)

pub returns : goal.returns
returns c = simp (← c.same_name.ensures, eq-eqb _ _ c.if-kept-mark.false)
