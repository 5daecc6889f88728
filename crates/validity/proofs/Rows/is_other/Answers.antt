-- `validity::Rows::is_other` meets its contract. The five numbers are those of the row. Assumes nothing.
use mathlib.Core.Bool.{true, ◌&&◌}
use mathlib.Core.List.{List}
use mathlib.Core.Path.{◌≡◌, sym}
use Prim.Native.Nat.{ℕ, ◌*◌}
use native.Mathlib.Nat.{add-zero}
use borrow.Author.Rules.{rules}
use lib.IntN.{ℤ, pos}
use lib.ListN.{get_or}
use lib.Signed.{le_z}
use mir.Facts.{to_z-of_z}
use mir.Syntax.{w32}
use mir.Val.{SFits}
use Rattle.tuning.proofs.Lists.{both}
use Rattle.tables.specs.Layout.{row_width, number_at}
use Rattle.validity.proofs.Runs.{natural_is}
use Rattle.validity.proofs.Rows.is_other.Goals.{Else-not-natural}
use Rattle.validity.proofs.Rows.is_other.Goals as goal

-- the form as the code reads it
abbrev form : List ℤ → ℕ → ℤ
form rows i = get_or rows (row_width * i) (pos 0)

-- what the test says of the numbers that were read first
record Naturals (rows : List ℤ) (i : ℕ) : Type 0 where
  form_fits : SFits w32 (form rows i)
  from_fits : SFits w32 (number_at rows i 3)
  to_fits : SFits w32 (number_at rows i 4)
  natural : le_z (pos 0) (form rows i) ≡ true
  from : le_z (pos 0) (number_at rows i 3) ≡ true
  to : le_z (pos 0) (number_at rows i 4) ≡ true

naturals : (c : Else-not-natural) → Naturals c.args.self.numbers.now c.args.i
naturals c =
    let rows = c.args.self.numbers.now in
    let i = c.args.i in
    let f : SFits w32 (form rows i) = search rules in
    let g : SFits w32 (number_at rows i 3) = search rules in
    let h : SFits w32 (number_at rows i 4) = search rules in
    let a = both (le_z (pos 0) (form rows i) && le_z (pos 0) (number_at rows i 3)) (le_z (pos 0) (number_at rows i 4)) (simp to_z-of_z at c.if-not-natural.false) in
    let b = both (le_z (pos 0) (form rows i)) (le_z (pos 0) (number_at rows i 3)) a.0 in
    record { form_fits = f; from_fits = g; to_fits = h; natural = b.0; from = b.1; to = a.1 }

pub returns : goal.returns
returns c =
    let rows = c.args.self.numbers.now in
    let i = c.args.i in
    let n = naturals (goal.at.returns c).Else-not-natural in
    let d = n.form_fits in
    let e : SFits w32 (number_at rows i 1) = search rules in
    let f : SFits w32 (number_at rows i 2) = search rules in
    let g = n.from_fits in
    let k = n.to_fits in
    rw (
      add-zero (row_width * i),
      n.natural,
      n.from,
      n.to,
      sym (natural_is (form rows i) n.natural),
      sym (natural_is (number_at rows i 3) n.from),
      sym (natural_is (number_at rows i 4) n.to),
    )
    (simp to_z-of_z at c.is_other_row.ensures)
