-- The product of an interval in range and a factor fits an `i64`.
use Prim.Native.Nat.{◌≤◌}
use mathlib.Core.Path.{ap}
use lib.IntN.{ℤ, nat_abs, ◌*ℤ◌}
use mir.Facts.{to_z-of_z}
use mir.Syntax.{w32, w64}
use mir.Val.{SFits}
use Rattle.integers.proofs.Signed.{signed, mul_size, mul_bound}
use Rattle.values.specs.Values.{farthest_tone}
use Rattle.filling.proofs.sums.multiply.Goals.{After-interval_at}
use Rattle.filling.proofs.sums.multiply.Goals as goal

module _ (c : goal.After-interval_at) where
  abbrev z : ℤ
  z = c.interval_at.result.0

  small : nat_abs z ≤ farthest_tone
  small = rw c.interval_at.ensures c.requires.fit_value.small

  narrow : SFits w32 z
  narrow = omega (signed, small)

  wide : SFits w64 z
  wide = omega (signed, small)

  product_fits : SFits w64 (z *ℤ c.args.times)
  product_fits = omega (signed, mul_size z c.args.times, mul_bound small c.requires.times_bound)

pub overflow_cast-result : goal.overflow_cast-result
overflow_cast-result c = let f = narrow (goal.at.overflow_cast-result c).After-interval_at in simp to_z-of_z (wide (goal.at.overflow_cast-result c).After-interval_at)

pub overflow_mul-result : goal.overflow_mul-result
overflow_mul-result c =
    let f = narrow (goal.at.overflow_mul-result c).After-interval_at in
    let g = wide (goal.at.overflow_mul-result c).After-interval_at in
    let h = c.ranges.times in
    simp to_z-of_z (product_fits (goal.at.overflow_mul-result c).After-interval_at)

pub returns : goal.returns
returns c =
    let f = narrow (goal.at.returns c).After-interval_at in
    let g = wide (goal.at.returns c).After-interval_at in
    let h = c.ranges.times in
    let p = product_fits (goal.at.returns c).After-interval_at in
    simp to_z-of_z (ap (λ (y : ℤ). y *ℤ c.args.times) c.interval_at.ensures)
