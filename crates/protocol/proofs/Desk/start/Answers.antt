-- `protocol::Desk::start` meets its contract. Assumes nothing.
use mathlib.Core.Path.{ap, ◌∙◌}
use Rattle.keys.specs.declared.HeldKeys.{HeldKeys}
use Rattle.tuning.specs.declared.State.{State}
use Rattle.std.specs.Prelude.{None}
use Rattle.keys.specs.Keys.{no_keys}
use Rattle.protocol.specs.declared.Desk.{Desk}
use Rattle.protocol.proofs.Desk.start.Goals as goal

-- no logic active and no key held, at any tuning
abbrev with_tuning_holds : State → Desk
with_tuning_holds s = record { tuning = s; active = None; keys = no_keys }

pub returns : goal.returns
returns c = ap (λ (h : HeldKeys). record { tuning = c.start.result; active = None; keys = h }) c.none.ensures ∙ ap with_tuning_holds c.start.ensures
