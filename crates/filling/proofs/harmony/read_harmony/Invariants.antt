-- The invariant: the harmony of the keys so far, with those that are left, is the whole (`Naming`).
use Rattle.filling.proofs.Naming.{Naming}
use Rattle.filling.proofs.harmony.read_harmony.Given as goal

abbrev pub invariant-loop-item : goal.invariant-loop-item
invariant-loop-item l = Naming l.items l.item-index l.harmony
