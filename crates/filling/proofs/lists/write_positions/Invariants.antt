-- The invariant: what is written and what is left of the positions (`Making`).
use lib.ListN.{drop}
use Rattle.tables.specs.Layout.{sounding_of, pitch_of}
use Rattle.program.specs.Program.{system_positions_of}
use Rattle.filling.specs.Tables.{tone_of}
use Rattle.filling.specs.Inner.{value_in, FitSystemPosition}
use Rattle.filling.proofs.Writing.{Making}
use Rattle.filling.proofs.lists.write_positions.Given as goal

abbrev pub invariant-loop-item : goal.invariant-loop-item
invariant-loop-item l =
    Making (FitSystemPosition l.values) (tone_of (value_in l.values)) sounding_of pitch_of
    (system_positions_of l.items) l.at l.initial.sounding l.initial.tones (system_positions_of (drop l.item-index l.items)) l.sounding l.tones l.count
