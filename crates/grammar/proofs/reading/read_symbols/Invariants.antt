-- The invariant: the slice holds the items so far, and what is left to read gives the rest; or the text is complete.
-- The measure is what is left of the text.
-- Assumes nothing.
use Rattle.grammar.proofs.Turns.{Walking, turns_left}
use Rattle.grammar.proofs.reading.read_symbols.Given as goal

abbrev pub invariant-loop-node : goal.invariant-loop-node
invariant-loop-node l = Walking l.text l.initial.items l.items l.s l.node l.at l.count

abbrev pub decreases-loop-node : goal.decreases-loop-node
decreases-loop-node l = turns_left l.text l.node l.at
