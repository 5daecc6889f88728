use mathlib.Core.Path.{sym}
use borrow.Author.Rules.{rules}
use Rattle.sets.proofs.Members.{has_shift}
use Rattle.sets.proofs.has.Goals as goal

pub returns : goal.returns
returns c = sym (has_shift c.args.set c.args.at)
