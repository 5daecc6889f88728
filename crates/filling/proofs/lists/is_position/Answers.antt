-- By the item.
use borrow.Enum.Refused.{opened}
use mathlib.Core.Path.{sym, ap}
use mathlib.Core.Logic.{⊎_elim}
use mathlib.Core.List.{List, []}
use lib.Dec.{ltb}
use lib.ListN.{length}
use Rattle.program.specs.Program.{Position}
use Rattle.filling.proofs.Inside.{inside, no_position}
use Rattle.filling.proofs.lists.is_position.Goals as goal

pub returns-in-MutedPosition : goal.returns-in-MutedPosition
returns-in-MutedPosition c =
    ⊎_elim (λ e. rw e) (λ h. ⊎_elim (λ e. rw e) (λ e. rw e.1) h) c.in-MutedPosition.is

pub returns-in_default : goal.returns-in_default
returns-in_default c = ap (λ (l : List Position). ltb 0 (length l)) (sym (no_position (inside c.args.item) (opened c.in_default.in_default-own.keys2) []))
