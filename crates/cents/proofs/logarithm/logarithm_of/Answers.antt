-- The loop's invariant: the bits so far and those to come are L(n).
use Prim.Native.Nat.{◌-◌}
use native.Mathlib.Omega.{arith}
use Rattle.cents.proofs.LogBounds.{highest_bounds}
use Rattle.cents.proofs.Turns.{start_fits, room, next_nil_by, next_one_by, end}
use Rattle.cents.proofs.logarithm.logarithm_of.Goals.{then-q-lt4294967296, else-q-lt4294967296}
use Rattle.cents.proofs.logarithm.logarithm_of.Goals as goal

pub overflow_sub-m : goal.overflow_sub-m
overflow_sub-m c = omega (arith, highest_bounds c.args.n c.requires c.ranges.n.fits)

pub overflow_shl-m : goal.overflow_shl-m
overflow_shl-m c = omega (arith, highest_bounds c.args.n c.requires c.ranges.n.fits)

pub overflow_cast-bits : goal.overflow_cast-bits
overflow_cast-bits c = omega (arith, highest_bounds c.args.n c.requires c.ranges.n.fits)

pub loop-init : goal.loop-init
loop-init c = start_fits c.args.n c.highest_bit-k.result c.requires c.ranges.n.fits c.highest_bit-k.ensures.0

pub overflow_mul-bits : goal.overflow_mul-bits
overflow_mul-bits c = omega (arith, room _ _ _ _ c.loop.invariant (omega arith))

pub overflow_cast-m-else-q-lt4294967296 : goal.overflow_cast-m-else-q-lt4294967296
overflow_cast-m-else-q-lt4294967296 c = omega (arith, (next_one_by _ _ _ _ (29 - c.loop.counter) _ c.square-q.ensures (omega arith) c.loop.invariant c.if-q-lt4294967296.false).high)

pub overflow_mul-bits-else-q-lt4294967296 : goal.overflow_mul-bits-else-q-lt4294967296
overflow_mul-bits-else-q-lt4294967296 c = omega (arith, room _ _ _ _ c.loop.invariant (omega arith))

pub overflow_add-bits : goal.overflow_add-bits
overflow_add-bits c = omega (arith, room _ _ _ _ c.loop.invariant (omega arith))

pub loop-preserved : goal.loop-preserved
loop-preserved c =
    let g = c.loop.invariant in
    let e = c.square-q.ensures in
    elim c.if-q-lt4294967296.branch [
      | then-q-lt4294967296 w ↦ rw (w.m-is, w.bits-is) (next_nil_by _ _ _ _ _ _ e (omega arith) g w.if-q-lt4294967296.true)
      | else-q-lt4294967296 w ↦ rw (w.m-is, w.bits-is) (next_one_by _ _ _ _ _ _ e (omega arith) g w.if-q-lt4294967296.false)
    ]

pub returns : goal.returns
returns c =
    let e = end _ _ _ _ c.loop.invariant (omega arith) in
    (e, omega (arith, e, c.loop.invariant.small))
