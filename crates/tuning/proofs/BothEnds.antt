-- The calls of specs/BothEnds.antt, by computing. Assumes nothing.
use mathlib.Core.Path.{refl}
use Rattle.cents.specs.Sums.{Hold}
use Rattle.tuning.specs.Desk.{first_failing, any_beyond, called}
use Rattle.tuning.specs.BothEnds.{whole_periods, ends_silent, order_stays}

pub whole_periods_holds : Hold whole_periods
unfolding Hold whole_periods called first_failing any_beyond
whole_periods_holds = (refl, (refl, (refl, (refl, (refl, (refl, (refl, (refl, tt))))))))

pub ends_silent_holds : Hold ends_silent
unfolding Hold ends_silent called first_failing any_beyond
ends_silent_holds = (refl, (refl, (refl, (refl, (refl, (refl, tt))))))

pub order_stays_holds : Hold order_stays
unfolding Hold order_stays called first_failing any_beyond
order_stays_holds = (refl, (refl, (refl, (refl, (refl, tt)))))
