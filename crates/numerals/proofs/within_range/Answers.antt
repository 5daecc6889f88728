-- The test is that of the range.
use mathlib.Core.Path.{sym, ◌∙◌}
use Rattle.numerals.proofs.Values.{range_out, range_told}
use Rattle.numerals.proofs.within_range.Goals as goal

pub returns-then-not-contains : goal.returns-then-not-contains
returns-then-not-contains c =
    range_out _ _ _ (rw (c.new.ensures.start, c.new.ensures.end, c.new.ensures.exhausted) at (sym c.contains.ensures.value ∙ c.if-not-contains.true))

pub returns : goal.returns
returns c =
    range_told _ _ _ (rw (c.new.ensures.start, c.new.ensures.end, c.new.ensures.exhausted) at (sym c.contains.ensures.value ∙ c.if-not-contains.false))
