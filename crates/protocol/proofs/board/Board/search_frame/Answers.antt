-- By the frame's kind.
use mathlib.Core.Path.{sym, subst}
use Rattle.frames.specs.declared.Decoded.{Decoded}
use Rattle.protocol.specs.Inner.{head_of, step_of, Finds}
use Rattle.protocol.specs.OnBoard.{tables_on}
use Rattle.protocol.proofs.board.Board.search_frame.Goals as goal

pub returns-in-Letter : goal.returns-in-Letter
returns-in-Letter c =
    let t = tables_on c.args.self.now in
    subst (λ (f : Decoded). Finds t (head_of f).house c.args.desk (step_of t c.args.desk f) c.search_letter.result) (sym c.in-Letter.is) (c.search_letter.ensures _)
