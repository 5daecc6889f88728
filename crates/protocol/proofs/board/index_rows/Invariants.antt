-- The index is that of the rows from the present one on.
use Rattle.protocol.proofs.Index.{From}
use Rattle.protocol.proofs.board.index_rows.Given as goal

abbrev pub invariant-loop-i : goal.invariant-loop-i
invariant-loop-i l = From l.rows l.count l.i l.letters l.chords l.first
