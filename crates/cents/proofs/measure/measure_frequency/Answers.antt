-- 440 hertz and a measure that is small: their sum is far from the ends of 32 bits.
use mathlib.Core.Path.{◌≡◌, ◌∙◌, ap}
use Rattle.integers.proofs.Signed.{signed, sum}
use Rattle.cents.specs.Passages.{shift}
use Rattle.cents.specs.Measure.{pitch440}
use Rattle.cents.proofs.measure.measure_frequency.Goals as goal

pub shift-requires : goal.shift-requires
shift-requires c = omega (signed, sum pitch440 c.measure_of.result.0, c.measure_of.ensures.1)

pub returns : goal.returns
returns c =
    let z = c.measure_of.result.0 in
    let e : c.shift.result.0 ≡ shift pitch440 z = c.shift.ensures in
    (e ∙ ap (shift pitch440) c.measure_of.ensures.0, rw e (omega (signed, sum pitch440 z, c.measure_of.ensures.1)))
