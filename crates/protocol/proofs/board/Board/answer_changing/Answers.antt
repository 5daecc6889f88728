-- The presses one after the other, and the state after them answered.
use Prim.Native.Nat.{ℕ}
use mathlib.Core.Path.{refl, ap, ◌∙◌}
use lib.ListN.{take}
use Rattle.frames.specs.Frames.{frame_of}
use Rattle.frames.proofs.Ranges.{frame_inside as line-inside}
use Rattle.protocol.specs.Inner.{FrameInside, press_count, presses_of, steps_from}
use Rattle.protocol.proofs.Ways.{gives, state_right, frame_inside}
use Rattle.protocol.specs.OnBoard.{tables_on}
use Rattle.protocol.proofs.InTurn.{on_change, struct_outcome, struct_gives}
use Rattle.protocol.proofs.board.Board.answer_changing.Goals.{Start}
use Rattle.protocol.proofs.board.Board.answer_changing.Goals as goal

-- the frame lies in its ranges
within : (a : goal.Start) → FrameInside a.args.frame
within a = frame_inside (frame_of a.args.line.now) a.requires.frame_value.0 (line-inside a.args.line.now)

pub press_all-pressed-requires-clause-frame_inside : goal.press_all-pressed-requires-clause-frame_inside
press_all-pressed-requires-clause-frame_inside c = within (goal.at.press_all-pressed-requires-clause-frame_inside c).Start

pub answer_presses-length-requires-clause-smallest_buffer_in_bounds : goal.answer_presses-length-requires-clause-smallest_buffer_in_bounds
answer_presses-length-requires-clause-smallest_buffer_in_bounds c =
    (c.requires.room, state_right (tables_on c.args.self.now) c.press_all-pressed.result.desk c.press_all-pressed.ensures.stays, within (goal.at.answer_presses-length-requires-clause-smallest_buffer_in_bounds c).Start)

pub returns-clause-gives : goal.returns-clause-gives
returns-clause-gives c =
    let w = c.answer_presses-length.ensures in
    let t = tables_on c.args.self.now in
    let f = c.args.frame in
    let d = c.args.desk in
    let letters = c.letters_of-letters.result in
    let steps = steps_from t d (presses_of f letters) in
    let whole =
    ap (λ (m : ℕ). struct_outcome t d f (take m letters) steps.made m c.press_all-pressed.result) c.press_count-n.ensures
    ∙ struct_gives t d f (take (press_count f) letters) steps (press_count f) c.press_all-pressed.result c.press_all-pressed.ensures.pressed
    ∙ on_change t d (frame_of c.args.line.now) letters c.requires.frame_value.0 c.requires.frame_value.1 c.letters_of-letters.ensures in
    gives whole (record { desk = refl; number = refl; size = w.0; buffer = w.1 })
