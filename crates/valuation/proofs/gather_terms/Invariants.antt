-- The invariant: the terms that are in the row, and those that are left, make the whole (`Gathering`).
-- Assumes nothing.
use Rattle.valuation.proofs.Terms.{Gathering}
use Rattle.valuation.proofs.gather_terms.Given as goal

abbrev pub invariant-loop-item : goal.invariant-loop-item
invariant-loop-item l = Gathering l.items l.places l.next l.item-index
