-- The two bytes are a mark, or the first alone may be one.
use mathlib.Core.Path.{sym, ◌∙◌}
use native.Mathlib.Omega.{arith}
use Rattle.symbols.proofs.Scan.{mark_missing, mark_found, mark_last, mark_here}
use Rattle.symbols.proofs.mark_at.Goals as goal

pub returns-in_default : goal.returns-in_default
returns-in_default c = c.short_mark.ensures ∙ mark_last _ _ c.requires (omega (arith, c.in_default.ensures))

pub returns-in_default-double_mark : goal.returns-in_default-double_mark
returns-in_default-double_mark c =
    c.short_mark-in_default-double_mark.ensures
    ∙ mark_missing _ _ _ (sym c.double_mark.ensures ∙ c.in_default-double_mark.is)
    ∙ mark_here _ _ c.requires (c.in-Some.ensures.lookup.3.1 0) (omega (arith, c.in-Some.ensures))

pub returns : goal.returns
returns c =
    mark_found _ _ _ (sym c.double_mark.ensures ∙ c.in-Some-double_mark.is)
    ∙ mark_here _ _ c.requires (c.in-Some.ensures.lookup.3.1 0) (omega (arith, c.in-Some.ensures))
