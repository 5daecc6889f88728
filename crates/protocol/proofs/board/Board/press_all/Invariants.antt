-- The presses that are left come to what all come to.
use Rattle.protocol.specs.Inner.{presses_of, steps_from}
use Rattle.protocol.specs.OnBoard.{tables_on}
use Rattle.protocol.proofs.InTurn.{Pressing}
use Rattle.protocol.proofs.board.Board.press_all.Given as goal

abbrev pub invariant-loop-i : goal.invariant-loop-i
invariant-loop-i l =
    let t = tables_on l.self in
    Pressing t (steps_from t l.initial.d (presses_of l.frame l.letters)) (presses_of l.frame l.letters) l.i l.d l.last l.all
