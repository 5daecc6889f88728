-- The invariant: the sum so far, with that of the terms that are left, is the whole (`Adding`).
use Rattle.filling.proofs.Terms.{Adding}
use Rattle.filling.proofs.sums.sum_terms.Given as goal

abbrev pub invariant-loop-item : goal.invariant-loop-item
invariant-loop-item l = Adding l.values l.items l.item-index l.sum
