-- The loop's invariant: the bits so far and those to come are L(n).
use Prim.Native.Nat.{◌-◌}
use Rattle.cents.proofs.Turns.{Going}
use Rattle.cents.proofs.logarithm.logarithm_of.Given as goal

abbrev pub invariant-loop : goal.invariant-loop
invariant-loop l = Going l.n l.m l.bits (30 - l.counter)
