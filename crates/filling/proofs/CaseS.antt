-- The tables of case S: its rows, tones and orders, read back from the tables.
use mathlib.Core.Path.{◌≡◌, refl}
use mathlib.Core.List.{[], ◌∷◌}
use lib.Count.{count_leading_zeros}
use lib.IntN.{pos}
use lib.ListN.{take}
use Rattle.values.specs.Values as valuesValues
use Rattle.cents.specs.Log as centsLog
use Rattle.cents.specs.Measure as centsMeasure
use Rattle.program.specs.Meaning as programMeaning
use Rattle.tables.specs.Layout as tablesLayout
use Rattle.tuning.specs.declared.Operator.TheVariants.{Plus}
use Rattle.tuning.specs.declared.Amount.TheVariants.{Relative}
use Rattle.tuning.specs.declared.Retuning.TheVariants.{Anchor}
use Rattle.tuning.specs.declared.Tone.TheVariants.{At}
use Rattle.tables.specs.declared.Row.TheVariants as row
use Rattle.tables.specs.Layout.{row_at, tones_from}
use Rattle.program.specs.CaseS.{program}
use Rattle.filling.specs.Tables.{filled_from, tables_of}

-- Fifth, a, Two, Up and L
pub case_s_rows : (row_at (tables_of program) 1 ≡ row.Interval (record { 0 = pos 701955 })) × (row_at (tables_of program) 2 ≡ row.Tone (record { 0 = pos 6900000 }))
    × (row_at (tables_of program) 4 ≡ row.System (record { 0 = 69 }) (record { 0 = pos 1200000 }) 0 2)
    × (row_at (tables_of program) 5 ≡ row.Retuning (Anchor (Relative Plus 1)) 0 0) × (row_at (tables_of program) 6 ≡ row.Logic 77 5 0 1)
    × (row_at (tables_of program) 7 ≡ row.Unused)
unfolding count_leading_zeros valuesValues.plus valuesValues.total valuesValues.shifted valuesValues.ranged valuesValues.value_at valuesValues.any_of valuesValues.leads valuesValues.is_beyond valuesValues.first_from valuesValues.verdict valuesValues.outcome valuesValues.numbers valuesValues.handed valuesValues.value_table centsLog.highest_bit centsLog.bits centsLog.L centsMeasure.nearest centsMeasure.measure programMeaning.value_of programMeaning.valued tablesLayout.row_of tablesLayout.written_all tablesLayout.joined filled_from tables_of
case_s_rows = (refl, refl, refl, refl, refl, refl)

-- the tones of Two, the order of L, and how many there are of each
pub case_s_lists : (tones_from (tables_of program) 0 2 ≡ At (record { 0 = pos 6900000 }) ∷ At (record { 0 = pos 7601955 }) ∷ [])
    × (take 1 (tables_of program).triggers ≡ 85 ∷ []) × (take 1 (tables_of program).calls ≡ 5 ∷ []) × ((tables_of program).counts ≡ 7 ∷ 2 ∷ 0 ∷ 1 ∷ [])
unfolding count_leading_zeros valuesValues.plus valuesValues.total valuesValues.shifted valuesValues.ranged valuesValues.value_at valuesValues.any_of valuesValues.leads valuesValues.is_beyond valuesValues.first_from valuesValues.verdict valuesValues.outcome valuesValues.numbers valuesValues.handed valuesValues.value_table centsLog.highest_bit centsLog.bits centsLog.L centsMeasure.nearest centsMeasure.measure programMeaning.value_of programMeaning.valued tablesLayout.row_of tablesLayout.written_all tablesLayout.joined filled_from tables_of
case_s_lists = (refl, refl, refl, refl)
