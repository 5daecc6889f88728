use mathlib.Core.Path.{sym, ap₂, ◌∙◌}
use mathlib.Core.Bool.{◌&&◌}
use Rattle.sets.proofs.Tests.{all_and}
use Rattle.sets.proofs.Bits.{part_of, below}
use Rattle.harmonies.specs.Harmonies.{matches}
use Rattle.harmonies.proofs.matches_chord.Goals as goal

pub returns : goal.returns
unfolding matches
returns c =
    let a = c.args in
    sym
    (all_and 60 _ _
    ∙ ap₂ ◌&&◌ (all_and 60 _ _ ∙ ap₂ ◌&&◌ (part_of 60 a.chord a.harmony.named c.requires.0) (part_of 60 a.harmony.needed a.chord c.requires.1))
    (below 60 a.width a.harmony.named c.requires.2))
