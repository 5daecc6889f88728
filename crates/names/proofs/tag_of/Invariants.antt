-- The invariant: the tag, counted on from the present place, is that of the name. The measure is what is left of the text.
use Prim.Native.Nat.{◌-◌, ◌<◌}
use mathlib.Core.Path.{◌≡◌}
use lib.ListN.{length}
use Rattle.symbols.specs.Names.{name_at}
use Rattle.names.specs.Inner.{tag_room, tag_from, tag_of}
use Rattle.names.proofs.tag_of.Given as goal

abbrev pub invariant-loop-i : goal.invariant-loop-i
invariant-loop-i l = (l.tag < tag_room) × (tag_from l.tag (name_at l.text l.i) ≡ tag_of (name_at l.text l.at))

abbrev pub decreases-loop-i : goal.decreases-loop-i
decreases-loop-i l = length l.text - l.i
