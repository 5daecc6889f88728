-- "Small sums to try", all at once. Assumes nothing.
use mathlib.Core.Path.{refl}
use mathlib.Core.List.{List, [], ◌∷◌, ◌++◌}
use lib.Count.{count_leading_zeros}
use Rattle.cents.specs.Log.{highest_bit, bits, L}
use Rattle.cents.specs.Measure.{nearest, measure}
use Rattle.cents.specs.Sums.{Row, ◌gives◌, Hold, measure_sums}
use Rattle.cents.proofs.Sums.{measure_sums_holds}
use Rattle.tuning.specs.Desk.{first_failing, any_beyond, called}
use Rattle.tuning.specs.Sums.{start_sums, tuning_sums, small_sums, compared_sums}

hold_append : (a b : List Row) → Hold a → Hold b → Hold (a ++ b)
unfolding Hold
hold_append [] b h k = k
hold_append ((x gives y) ∷ a) b h k = (h.0, hold_append a b h.1 k)

pub start_sums_holds : Hold start_sums
unfolding Hold start_sums
start_sums_holds = (refl, (refl, (refl, (refl, tt))))

tuning_sums_holds : Hold tuning_sums
unfolding Hold tuning_sums measure nearest L bits highest_bit count_leading_zeros called first_failing any_beyond
tuning_sums_holds = (refl, (refl, (refl, (refl, (refl, (refl, tt))))))

pub small_sums_holds : Hold small_sums
unfolding small_sums
small_sums_holds = hold_append measure_sums tuning_sums measure_sums_holds tuning_sums_holds

pub compared_sums_holds : Hold compared_sums
unfolding Hold compared_sums measure nearest L bits highest_bit count_leading_zeros called first_failing any_beyond
compared_sums_holds = (refl, (refl, (refl, (refl, (refl, (refl, (refl, (refl, (refl, (refl, (refl, (refl, tt))))))))))))
