-- The invariant: what is found up to the row that is tried next is what is found in all rows (`Ahead`). The measure is one more than that row.
use Rattle.symbols.specs.Names.{name_at}
use Rattle.names.proofs.Chains.{Ahead}
use Rattle.names.proofs.Declarations.find.Given as goal

abbrev pub invariant-loop-next : goal.invariant-loop-next
invariant-loop-next l = Ahead l.self.text.now l.self.kept.now (name_at l.self.text.now l.at) l.mark l.next

abbrev pub decreases-loop-next : goal.decreases-loop-next
decreases-loop-next l = l.next
