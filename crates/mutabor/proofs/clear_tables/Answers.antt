-- Cleared slices are cleared tables.
use mathlib.Core.Path.{◌≡◌, ◌∙◌, ap}
use mathlib.Core.List.{List}
use borrow.Author.Rules.{rules}
use lib.IntN.{ℤ, pos}
use lib.ListN.{length, replicate}
use Rattle.tables.specs.Layout.{tables_in}
use Rattle.tables.proofs.Sections.{cleared}
use Rattle.mutabor.proofs.clear_tables.Goals as goal

pub returns : goal.returns
returns c =
    let ns = c.args.numbers.now in
    let cs = c.args.codes.now in
    let n : c.fill.new.self ≡ replicate (length ns) (pos 0) = search rules in
    let k : c.fill-2.new.self ≡ replicate (length cs) 0 = search rules in
    record { zeros = ap (λ (l : List ℤ). tables_in l c.fill-2.new.self) n ∙ ap (tables_in (replicate (length ns) (pos 0))) k ∙ cleared ns cs }
