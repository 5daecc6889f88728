-- The invariant: what is kept of the declarations in front of the present item (`Passed`), and their chains. The measure is the items that are left.
use Prim.Native.Nat.{◌-◌}
use lib.ListN.{length, take}
use Rattle.names.specs.Inner.{Chained}
use Rattle.names.proofs.FirstPass.{Passed}
use Rattle.names.proofs.declare_all.Given as goal

abbrev pub invariant-loop-i : goal.invariant-loop-i
invariant-loop-i l =
    Passed l.text l.items l.initial.declared l.initial.starts l.declared l.starts l.n l.i × Chained (take l.n l.declared) l.heads l.links

abbrev pub decreases-loop-i : goal.decreases-loop-i
decreases-loop-i l = length l.items - l.i
