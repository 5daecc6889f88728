-- The sounds and calls of specs/AtLimits.antt, by computing. Assumes nothing.
use mathlib.Core.Path.{refl}
use Rattle.cents.specs.Sums.{Hold}
use Rattle.tuning.specs.Desk.{first_failing, any_beyond, called}
use Rattle.tuning.specs.AtLimits.{at_limits, unlimited_pitch}

pub at_limits_holds : Hold at_limits
unfolding Hold at_limits called first_failing any_beyond
at_limits_holds = (refl, (refl, (refl, (refl, (refl, (refl, (refl, (refl, tt))))))))

pub unlimited_pitch_holds : Hold unlimited_pitch
unfolding Hold unlimited_pitch called first_failing any_beyond
unlimited_pitch_holds = (refl, (refl, (refl, (refl, (refl, tt)))))
