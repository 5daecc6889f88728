-- One press after the other.
use Prim.Native.Nat.{◌<◌}
use mathlib.Core.Path.{◌≡◌, sym, ap, ◌∙◌}
use native.Mathlib.Omega.{arith}
use borrow.Author.Rules.{rules}
use lib.ListN.{length}
use Rattle.frames.specs.Frames.{most_presses}
use Rattle.frames.specs.declared.Decoded.{Decoded}
use Rattle.protocol.specs.Inner.{step_leaves, step_of, press_count}
use Rattle.protocol.specs.OnBoard.{tables_on}
use Rattle.protocol.proofs.InTurn.{presses_length, count_most, press_here, pressing_on, pressing_ends}
use Rattle.protocol.proofs.board.Board.press_all.Goals.{Start}
use Rattle.protocol.proofs.board.Board.press_all.Goals as goal

-- there is room for so many letters
sized : (a : goal.Start) → length a.args.letters ≡ most_presses
sized a = search rules

pub loop-i-preserved : goal.loop-i-preserved
loop-i-preserved c =
    let t = tables_on c.args.self.now in
    let all = sized (goal.at.loop-i-preserved c).Start in
    let i = c.loop-i.i in
    let here : i < press_count c.args.frame = omega (arith, c.loop-i-test.true, c.press_count-i-end.ensures) in
    let below : i < most_presses = omega (arith, here, count_most c.args.frame c.requires.frame_inside) in
    let same = c.press_at-press.ensures.0 ∙ sym (press_here c.args.letters all c.args.frame c.requires.frame_inside i here) in
    pressing_on t _ _ c.loop-i.invariant (omega (arith, here, presses_length c.args.letters all c.args.frame c.requires.frame_inside)) below
    (c.take_press-step.ensures.leaves ∙ ap (λ (f : Decoded). step_leaves (step_of t c.loop-i.d f)) same) c.take_press-step.ensures.stays

pub returns-clause-pressed : goal.returns-clause-pressed
returns-clause-pressed c =
    let all = sized (goal.at.returns-clause-pressed c).Start in
    let same : c.loop-i.i ≡ press_count c.args.frame = omega (arith, c.loop-i.auto.i-end, c.loop-i-test.false, c.press_count-i-end.ensures) in
    pressing_ends (tables_on c.args.self.now) _ _ c.loop-i.invariant same (omega (arith, presses_length c.args.letters all c.args.frame c.requires.frame_inside, same))
