-- What the division gives is the measure, and it fits 32 bits.
use mathlib.Core.Path.{◌≡◌}
use mir.Facts.{to_z-of_z}
use mir.Syntax.{w32, w64}
use mir.Val.{SFits, to_z, of_z}
use Rattle.integers.proofs.Signed.{signed, abs}
use Rattle.cents.proofs.Rounding.{Holds, measured}
use Rattle.cents.proofs.measure.measure_of.Goals as goal

holds : (c : goal.After-div_euclid) → Holds c.div_euclid.result c.args.a c.args.p c.args.q
holds c =
    measured c.args.a c.logarithm_of.result c.logarithm_of-2.result c.requires.0 c.requires.1 c.logarithm_of.ensures.1 c.logarithm_of-2.ensures.1
    c.args.p c.args.q c.div_euclid.result c.logarithm_of.ensures.0 c.logarithm_of-2.ensures.0 (rw c.scale-x.ensures at c.div_euclid.ensures)

wide : (c : goal.After-div_euclid) → to_z w64 (of_z w64 c.div_euclid.result) ≡ c.div_euclid.result
wide c = let f : SFits w64 c.div_euclid.result = omega (signed, abs c.div_euclid.result, (holds c).small) in to_z-of_z f

fits : (c : goal.After-div_euclid) → SFits w32 c.div_euclid.result
fits c = omega (signed, abs c.div_euclid.result, (holds c).small)

pub overflow_cast-result : goal.overflow_cast-result
overflow_cast-result c = rw (wide c) (fits c)

pub returns : goal.returns
returns c = let f = fits c in rw (wide c, to_z-of_z f) ((holds c).value, (holds c).small)
