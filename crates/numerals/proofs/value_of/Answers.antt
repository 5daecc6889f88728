-- The invariant: the value read so far, read on, is up to the cap the value of all digits.
use mathlib.Core.Path.{refl, ◌∙◌}
use native.Mathlib.Nat.{mul-le-mul}
use native.Mathlib.Omega.{arith}
use Rattle.numerals.specs.Numbers.{numeral}
use Rattle.numerals.proofs.Values.{numeral_on, numeral_end}
use Rattle.numerals.proofs.value_of.Goals as goal

pub loop-b-init : goal.loop-b-init
unfolding numeral
loop-b-init c = record { capped = omega arith; read = refl }

pub overflow_mul-value : goal.overflow_mul-value
overflow_mul-value c = omega (arith, mul-le-mul c.loop-b.invariant.capped c.requires.1)

pub overflow_add-value : goal.overflow_add-value
overflow_add-value c = omega (arith, mul-le-mul c.loop-b.invariant.capped c.requires.1)

pub loop-b-preserved : goal.loop-b-preserved
loop-b-preserved c = record {
  capped = omega arith;
  read = numeral_on _ _ _ _ c.requires.0 c.loop-b-test.true c.digit_value.ensures.0 c.min-value.ensures ∙ c.loop-b.invariant.read;
}

pub returns : goal.returns
returns c = numeral_end _ _ _ _ c.loop-b-test.false c.loop-b.invariant.capped ∙ c.loop-b.invariant.read
