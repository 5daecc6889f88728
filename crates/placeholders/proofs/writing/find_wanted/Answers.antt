-- The invariant: what the present item and those after it want is what all want.
-- Assumes nothing.
use mathlib.Core.Path.{sym, ◌∙◌}
use Rattle.placeholders.proofs.Items.{wanted_end, wanted_later, wanted_here, wanted_stop}
use Rattle.placeholders.proofs.writing.find_wanted.Goals as goal

pub returns-in-Wants : goal.returns-in-Wants
returns-in-Wants c =
    sym (wanted_here _ _ c.loop-item-test.true _ c.see.ensures c.in-Wants.is) ∙ c.loop-item.invariant

pub returns-in_default : goal.returns-in_default
returns-in_default c =
    sym (wanted_stop _ _ c.loop-item-test.true _ c.see.ensures c.in_default.not-Names c.in_default.not-Wants) ∙ c.loop-item.invariant

pub loop-item-preserved : goal.loop-item-preserved
loop-item-preserved c =
    sym (wanted_later _ _ c.loop-item-test.true _ c.see.ensures c.in-Names.is) ∙ c.loop-item.invariant

pub returns : goal.returns
returns c = sym (wanted_end _ _ c.loop-item-test.false) ∙ c.loop-item.invariant
