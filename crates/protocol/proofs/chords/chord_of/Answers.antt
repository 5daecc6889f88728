-- `protocol::chords::chord_of` meets its contract: the width is the number of tones held. Assumes nothing.
use mathlib.Core.Path.{◌≡◌, sym, ap, ◌∙◌}
use Prim.Native.Nat.{ℕ}
use native.Mathlib.Omega.{arith}
use lib.ListN.{length}
use Rattle.tuning.specs.Tuning.{width}
use Rattle.tuning.specs.Desk.{cents}
use Rattle.tuning.specs.State.{places, held}
use Rattle.tuning.proofs.Lists.{length_mapped}
use Rattle.tuning.proofs.Held.{ValidTuning, held_width, valid_held}
use Rattle.harmonies.specs.Harmonies.{chord_of}
use Rattle.protocol.proofs.chords.chord_of.Goals.{Start}
use Rattle.protocol.proofs.chords.chord_of.Goals as goal

long : (c : goal.Start) → length c.args.desk.tuning.tones ≡ places
long c = search length_mapped

wide : (c : goal.Start) → width cents (held c.args.desk.tuning) ≡ c.args.desk.tuning.width
wide c = held_width c.args.desk.tuning c.requires (long c)

valid : (c : goal.Start) → ValidTuning (held c.args.desk.tuning)
valid c = valid_held c.args.desk.tuning c.requires (long c)

pub project-positions-requires : goal.project-positions-requires
project-positions-requires c =
    (omega (arith, (valid (goal.at.project-positions-requires c).Start).anchor), omega (arith, (valid (goal.at.project-positions-requires c).Start).least, wide (goal.at.project-positions-requires c).Start), omega (arith, (valid (goal.at.project-positions-requires c).Start).most, wide (goal.at.project-positions-requires c).Start))

pub returns : goal.returns
returns c =
    let w = c.args.desk.tuning.width in (
      ap (λ (p : ℕ). record { positions = p; width = w }) c.project-positions.ensures.0
          ∙ ap (λ (n : ℕ). record { positions = chord_of c.args.desk.keys c.args.desk.tuning.anchor.0 n; width = n }) (sym (wide (goal.at.returns c).Start)),
      record { positions = c.project-positions.ensures.1; width = omega (arith, (valid (goal.at.returns c).Start).most, wide (goal.at.returns c).Start) },
    )
