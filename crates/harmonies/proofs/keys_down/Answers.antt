use mathlib.Core.Path.{ap₂, ◌∙◌}
use mathlib.Core.Bool.{◌||◌}
use Rattle.sets.proofs.Members.{has_or}
use Rattle.harmonies.proofs.keys_down.Goals as goal

pub returns : goal.returns
returns c = λ i h.
    has_or c.held_in_half.result c.held_in_half-2.result i ∙ ap₂ ◌||◌ (c.held_in_half.ensures i h) (c.held_in_half-2.ensures i h)
