-- The invariant: the terms that are in the row, and those that are left, make the whole (`Gathering`).
-- Assumes nothing.
use mathlib.Core.Path.{sym, ◌∙◌}
use Rattle.valuation.proofs.Terms.{gathering_none, gathering_all, small_here, gathering_on, has_room, gathering_more}
use Rattle.valuation.proofs.gather_terms.Goals as goal

pub loop-item-init : goal.loop-item-init
loop-item-init c = rw c.requires.empty (gathering_none _ c.requires.holdable)

pub term_of-requires : goal.term_of-requires
term_of-requires c = small_here _ c.loop-item.invariant c.loop-item-test.true _

pub loop-item-preserved-in_default : goal.loop-item-preserved-in_default
loop-item-preserved-in_default c = gathering_on _ c.loop-item.invariant c.loop-item-test.true _ (sym c.term_of.ensures ∙ c.in_default.is)

pub bounds-places-next : goal.bounds-places-next
bounds-places-next c = has_room _ c.loop-item.invariant c.loop-item-test.true _ (sym c.term_of.ensures ∙ c.in-Some.is)

pub loop-item-preserved : goal.loop-item-preserved
loop-item-preserved c = gathering_more _ c.loop-item.invariant c.loop-item-test.true _ (sym c.term_of.ensures ∙ c.in-Some.is)

pub returns : goal.returns
returns c = gathering_all _ c.loop-item.invariant c.loop-item-test.false
