-- The row is stored, and says how many there are then.
use mathlib.Core.Path.{sym, ◌∙◌, subst}
use Rattle.tables.specs.declared.Row.{Row}
use Rattle.tables.specs.Layout.{numbers_of}
use Rattle.tables.specs.Values.{NumbersFit}
use Rattle.filling.proofs.Entries.{numbers_fit}
use Rattle.filling.proofs.Slices.{row_in}
use Rattle.filling.proofs.rows.write_parts.Goals as goal

pub store_row-requires : goal.store_row-requires
store_row-requires c = subst (λ (r : Row). NumbersFit (numbers_of r)) (sym c.write_lists-row.ensures.rowed.row) (numbers_fit _ _ _ c.requires.writable)

pub returns : goal.returns
returns c = let w = c.write_lists-row in
    let s = c.requires.slices in
    row_in (record { all_numbers_case = w.auto.numbers ∙ s.all_numbers_case; all_codes_case = w.auto.codes ∙ s.all_codes_case }) w.ensures
    c.store_row.new.rows c.store_row.auto.rows c.store_row.ensures c.count_row.ensures
