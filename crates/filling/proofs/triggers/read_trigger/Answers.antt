-- By the item; one that is neither a letter nor a harmony's name is no trigger.
use borrow.Enum.Refused.{opened}
use mathlib.Core.Path.{sym}
use Rattle.filling.proofs.Inside.{inside, no_trigger}
use Rattle.filling.proofs.triggers.read_trigger.Goals as goal

pub returns-in-Letter : goal.returns-in-Letter
returns-in-Letter c = rw c.in-Letter.is

pub returns-in-Trigger : goal.returns-in-Trigger
returns-in-Trigger c = rw c.in-Trigger.is

pub returns-in_default : goal.returns-in_default
returns-in_default c = sym (no_trigger (inside c.args.item) (opened c.in_default.in_default-own.keys3))
