-- The logic that is active then, and the call.
use mathlib.Core.Path.{◌≡◌, sym, ap, ◌∙◌, subst}
use mathlib.Core.List.{List}
use lib.IntN.{ℤ}
use Rattle.protocol.specs.declared.Desk.{Desk}
use Rattle.protocol.specs.declared.triggers.Press.{Press}
use Rattle.protocol.specs.Steps.{with_active}
use Rattle.protocol.specs.Inner.{Within, calls_of, press_as, calls_leave}
use Rattle.protocol.specs.OnBoard.{tables_on}
use Rattle.protocol.proofs.Callable.{callable_found}
use Rattle.protocol.proofs.board.Board.strike.Goals.{After-press_found-active}
use Rattle.protocol.proofs.board.Board.strike.Goals as goal

pressed : (c : goal.After-press_found-active) → c.press_found-active.result ≡ press_as (tables_on c.args.self.now).rows c.args.desk.active c.args.found
pressed c = c.press_found-active.ensures ∙ ap (λ (rows : List ℤ). press_as rows c.args.desk.active c.args.found) c.rows.ensures

pub make_call-requires-clause-callable_found : goal.make_call-requires-clause-callable_found
make_call-requires-clause-callable_found c =
    let t = tables_on c.args.self.now in
    callable_found t c.args.self.now.right c.press_found-active.result.called
    (subst (λ (p : Press). Within t (calls_of p.called)) (sym (pressed (goal.at.make_call-requires-clause-callable_found c).After-press_found-active)) c.requires.within)

pub returns : goal.returns
returns c =
    let t = tables_on c.args.self.now in
    c.make_call.ensures
    ∙ ap (λ (d : Desk). calls_leave t c.args.house d c.press_found-active.result.called) c.with_active.ensures
    ∙ ap (λ (p : Press). calls_leave t c.args.house (with_active p.active c.args.desk) p.called) (pressed (goal.at.returns c).After-press_found-active)
