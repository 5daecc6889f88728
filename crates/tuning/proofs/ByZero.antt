-- The calls of specs/ByZero.antt, by computing. Assumes nothing.
use mathlib.Core.Path.{refl}
use Rattle.cents.specs.Sums.{Hold}
use Rattle.tuning.specs.Desk.{first_failing, any_beyond, called}
use Rattle.tuning.specs.ByZero.{zeros}

pub by_zero : Hold zeros
unfolding Hold zeros called first_failing any_beyond
by_zero = (refl, (refl, (refl, (refl, (refl, (refl, tt))))))
