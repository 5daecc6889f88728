-- The invariant: the tag, counted on from the present place, is that of the name. The measure is what is left of the text.
use mathlib.Core.Path.{refl, sym, ◌∙◌}
use native.Mathlib.Omega.{arith}
use Rattle.names.proofs.Marks.{tag_out, tag_stop, tag_on}
use Rattle.names.proofs.tag_of.Goals as goal

pub loop-i-init : goal.loop-i-init
loop-i-init c = (omega arith, refl)

pub returns-then-not-in_name : goal.returns-then-not-in_name
returns-then-not-in_name c = tag_stop _ _ _ c.loop-i-test.true (sym c.in_name.ensures ∙ c.if-not-in_name.true) ∙ c.loop-i.invariant.1

pub overflow_mul-tag : goal.overflow_mul-tag
overflow_mul-tag c = omega (arith, c.loop-i.invariant.0)

pub loop-i-preserved : goal.loop-i-preserved
loop-i-preserved c = (
  omega arith,
  rw c.small.ensures (tag_on _ _ _ c.loop-i-test.true (sym c.in_name.ensures ∙ c.if-not-in_name.false)) ∙ c.loop-i.invariant.1,
)

pub returns : goal.returns
returns c = tag_out _ _ _ c.loop-i-test.false ∙ c.loop-i.invariant.1
