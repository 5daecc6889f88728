-- The invariant: what has become of the items in front of the present one (`Replacing`). The measure is the items that are left.
use Prim.Native.Nat.{◌-◌}
use lib.ListN.{length}
use Rattle.names.specs.Inner.{named_of}
use Rattle.names.proofs.SecondPass.{Replacing}
use Rattle.names.proofs.resolve_uses.Given as goal

abbrev pub invariant-loop-i : goal.invariant-loop-i
invariant-loop-i l = Replacing l.known.text.now (named_of l.known.kept.now) l.initial.items l.items l.i

abbrev pub decreases-loop-i : goal.decreases-loop-i
decreases-loop-i l = length l.items - l.i
