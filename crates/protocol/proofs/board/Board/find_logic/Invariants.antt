-- What is found from the next logic of the chain on is what is found among all.
use Rattle.tables.specs.Layout.{row_count}
use Rattle.protocol.specs.Inner.{sounds_in}
use Rattle.protocol.specs.OnBoard.{tables_on}
use Rattle.protocol.proofs.Index.{Seeking, left}
use Rattle.protocol.proofs.board.Board.find_logic.Given as goal

abbrev pub invariant-loop-next : goal.invariant-loop-next
invariant-loop-next l = Seeking (tables_on l.self).rows (sounds_in (tables_on l.self).rows l.chord) (row_count (tables_on l.self)) l.next

abbrev pub decreases-loop-next : goal.decreases-loop-next
decreases-loop-next l = left (row_count (tables_on l.self)) l.next
