use borrow.Author.Rules.{rules}
use Rattle.sets.proofs.Members.{added_least, removed_added}
use Rattle.sets.proofs.without.Goals as goal

pub overflow_sub-result : goal.overflow_sub-result
overflow_sub-result c = let a = c.args in rw (c.single.ensures, c.with.ensures) (added_least a.set a.at)

pub returns : goal.returns
returns c = rw (c.single.ensures, c.with.ensures, removed_added)
