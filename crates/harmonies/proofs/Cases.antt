-- The cases come out as they should.
use mathlib.Core.Path.{refl}
use Rattle.cents.specs.Sums.{Hold}
use Rattle.sets.specs.Sets.{has, all, added}
use Rattle.harmonies.specs.Harmonies.{matches}
use Rattle.harmonies.specs.Cases.{cases}

pub cases_hold : Hold cases
unfolding Hold cases matches all has added
cases_hold = (refl, (refl, (refl, (refl, (refl, (refl, (refl, (refl, (refl, tt)))))))))
