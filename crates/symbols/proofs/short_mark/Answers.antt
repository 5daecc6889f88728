-- The byte is a mark, or none.
use mathlib.Core.Path.{sym, ◌∙◌}
use Rattle.symbols.proofs.Scan.{mark_missing, mark_found}
use Rattle.symbols.proofs.short_mark.Goals as goal

pub returns-in_default : goal.returns-in_default
returns-in_default c = mark_missing _ _ _ (sym c.single_mark.ensures ∙ c.in_default.is)

pub returns : goal.returns
returns c = mark_found _ _ _ (sym c.single_mark.ensures ∙ c.in-Some.is)
