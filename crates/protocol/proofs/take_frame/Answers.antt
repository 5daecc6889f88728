-- A frame that changes nothing.
use mathlib.Core.Path.{sym, ◌∙◌}
use Rattle.protocol.proofs.Ways.{told_gives}
use Rattle.protocol.proofs.take_frame.Goals as goal

pub returns : goal.returns
returns c = told_gives _ c.args.desk _ c.decode-taken.ensures.0 (sym c.may_change.ensures ∙ c.if-may_change.false) c.tell-told.ensures
