-- Each of the three bytes is there.
use mathlib.Core.Path.{sym, ◌∙◌}
use Rattle.frames.proofs.Lines.{head_there}
use Rattle.frames.proofs.read_head.Goals as goal

pub returns : goal.returns
returns c =
    head_there _ _ _ _ c.if-line-lt-HEAD_DIGITS.false
    (sym c.byte_value.ensures ∙ c.in_ok-house.was)
    (sym c.byte_value-2.ensures ∙ c.in_ok-kind.was)
    (sym c.byte_value-3.ensures ∙ c.in_ok-value.was)
