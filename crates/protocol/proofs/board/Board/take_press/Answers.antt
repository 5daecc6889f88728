-- The desk stays right.
use mathlib.Core.Path.{◌≡◌, ap, ◌∙◌}
use lib.ListN.{length}
use Rattle.tuning.proofs.Lists.{length_mapped}
use Rattle.protocol.specs.declared.Desk.{Desk}
use Rattle.frames.specs.declared.Head.{Head}
use Rattle.protocol.specs.declared.Stepped.{Stepped}
use Rattle.protocol.specs.Steps.{with_keys}
use Rattle.protocol.specs.Answers.{valid_desk}
use Rattle.protocol.specs.Inner.{struck_leaves}
use Rattle.protocol.specs.OnBoard.{tables_on}
use Rattle.protocol.proofs.Ways.{tables_right}
use Rattle.protocol.proofs.Stays.{right_valid, change_right_step, valid_right}
use Rattle.protocol.proofs.board.Board.take_press.Goals.{Start}
use Rattle.protocol.proofs.board.Board.take_press.Goals as goal

-- the state has sixty places
long : (a : goal.Start) → length a.args.desk.tuning.tones ≡ 60
long a = search length_mapped

pub returns-clause-stays : goal.returns-clause-stays
returns-clause-stays c =
    let t = tables_on c.args.self.now in
    let r = c.search_frame-found.result in
    let v = tables_right t c.args.desk c.requires.desk_value in
    let left =
    c.strike.ensures
    ∙ ap (λ (d : Desk). struck_leaves t c.head_of-head.result.house d r.found) c.with_keys.ensures
    ∙ ap (λ (x : Head). struck_leaves t x.house (with_keys r.keys c.args.desk) r.found) c.head_of-head.ensures
    ∙ c.search_frame-found.ensures.leaves in
    ap (λ (q : Stepped). valid_desk t q.desk) left
    ∙ right_valid t v _ (change_right_step t v c.args.desk (valid_right t c.args.desk c.requires.desk_value (long (goal.at.returns-clause-stays c).Start)) c.args.press)
