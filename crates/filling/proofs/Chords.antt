-- The tables of a text with a harmony as the trigger of a logic: its rows, read back from the tables.
use mathlib.Core.Path.{◌≡◌, refl}
use mathlib.Core.List.{[], ◌∷◌}
use lib.IntN.{pos}
use lib.ListN.{take}
use Rattle.sets.specs.Sets.{has, added}
use Rattle.tables.specs.Layout as tablesLayout
use Rattle.tuning.specs.declared.Operator.TheVariants.{Plus}
use Rattle.tuning.specs.declared.Amount.TheVariants.{Relative}
use Rattle.tuning.specs.declared.Retuning.TheVariants.{Anchor}
use Rattle.tables.specs.declared.Row.TheVariants as row
use Rattle.tables.specs.Layout.{harmony_form, row_width, row_at}
use Rattle.program.specs.Chords.{program}
use Rattle.filling.specs.Tables.{filled_from, tables_of}

-- C, which needs 0 and 4 and names 0, 4 and 7, so that its sets are 1 + 16 and 1 + 16 + 128; Up; and L, whose trigger is the harmony of declaration 0
pub chords_rows : (row_at (tables_of program) 0 ≡ row.Harmony 17 145) × (row_at (tables_of program) 1 ≡ row.Retuning (Anchor (Relative Plus 7)) 0 0)
    × (row_at (tables_of program) 2 ≡ row.Logic 256 2 0 0) × (row_at (tables_of program) 3 ≡ row.Unused)
unfolding has added tablesLayout.row_of tablesLayout.written_all filled_from tables_of
chords_rows = (refl, refl, refl, refl)

-- the numbers of C's row, and how many there are of each
pub chords_numbers : (take row_width (tables_of program).rows ≡ pos harmony_form ∷ pos 17 ∷ pos 0 ∷ pos 145 ∷ pos 0 ∷ []) × ((tables_of program).counts ≡ 3 ∷ 0 ∷ 0 ∷ 0 ∷ [])
unfolding has added tablesLayout.written_all filled_from tables_of
chords_numbers = (refl, refl)
