use mathlib.Core.Path.{ap, ◌∙◌}
use borrow.Author.Rules.{rules}
use lib.Bits.{bit_or}
use Rattle.sets.proofs.Members.{added_or}
use Rattle.sets.proofs.with.Goals as goal

pub returns : goal.returns
returns c = let a = c.args in ap (bit_or a.set) c.single.ensures ∙ added_or a.set a.at
