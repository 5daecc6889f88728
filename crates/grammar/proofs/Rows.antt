-- Laws of the items that a slice begins with.
-- Assumes nothing.
use mathlib.Core.List.{List, [], ◌∷◌, ◌++◌}
use mathlib.Core.Path.{◌≡◌, refl, ◌∙◌}
use Prim.Native.Nat.{◌≤◌, ◌<◌}
use native.Mathlib.Omega.{arith}
use lib.ListN.{length, set, drop, length-append, length-drop}
use lib.Seq.{sets-eq, take_at, drop-append-add, drop-drop}
use Rattle.grammar.specs.declared.Item.{Item}
use Rattle.grammar.specs.Items.{holding}

-- one item more
pub holding_more : (is : List Item) (i : Item) (l : List Item) → length is < length l
    → set (holding is l) (length is) i ≡ holding (is ++ i ∷ []) l
holding_more is i l h =
    sets-eq (i ∷ []) (holding is l) (length is) (simp (length-append, length-drop) (omega arith))
    ∙ rw (take_at is (drop (length is) l) (length is) refl, drop-append-add is (drop (length is) l) 1, drop-drop 1 (length is) l, length-append is (i ∷ []))

-- the slice keeps its length
pub length_holding : (is l : List Item) → length is ≤ length l → length (holding is l) ≡ length l
length_holding is l h = simp (length-append, length-drop) (omega arith)
