-- The invariant: what is written and what is left of the positions (`Making`). The measure is the items that are left.
use Prim.Native.Nat.{ℕ, ◌+◌, ◌<◌}
use mathlib.Core.Path.{◌≡◌, sym, ◌∙◌, ap}
use mathlib.Core.List.{List, ◌++◌}
use native.Mathlib.Omega.{arith}
use lib.ListN.{length, get_or, drop}
use Rattle.program.specs.Program.{Grouped, grouped}
use Rattle.grammar.specs.declared.Item.{Item}
use Rattle.names.specs.Parts.{part}
use Rattle.filling.specs.Inner.{position_by, found}
use Rattle.filling.proofs.Items.{rest_after, rest_after_is, groups_end, positions_next}
use Rattle.filling.proofs.Writing.{making_none, making_all, making_now, making_skip, making_room, making_next, making_first_length, making_second_length}
use Rattle.filling.proofs.lists.write_changes.Goals as goal

-- the positions that are left: that which begins with the present item, and those after it
next : (items : List Item) (i : ℕ) → i < length items → (none : Item)
    → (grouped (drop i items)).positions ≡ position_by (part (get_or items i none)) (grouped (rest_after i items)).before ++ (grouped (drop (i + 1) items)).positions
next items i h none = rw (rest_after_is i items) (positions_next items i h none)

pub loop-i-init : goal.loop-i-init
loop-i-init c = making_none c.requires.each

pub read_change-requires : goal.read_change-requires
read_change-requires c = making_now c.loop-i.invariant _ _ (next _ _ c.loop-i-test.true _)

pub loop-i-preserved-in_default : goal.loop-i-preserved-in_default
loop-i-preserved-in_default c =
    making_skip c.loop-i.invariant _ _ (next _ _ c.loop-i-test.true _) (ap found (sym c.in_default.is) ∙ c.read_change.ensures)

pub overflow_add-count : goal.overflow_add-count
overflow_add-count c =
    let given = ap found (sym c.in-Some.is) ∙ c.read_change.ensures in
    let room = making_room c.loop-i.invariant _ _ (next _ _ c.loop-i-test.true _) given c.requires.to_bound in
    omega (arith, room)

pub loop-i-preserved : goal.loop-i-preserved
loop-i-preserved c =
    let given = ap found (sym c.in-Some.is) ∙ c.read_change.ensures in
    making_next c.loop-i.invariant _ _ (next _ _ c.loop-i-test.true _) given c.store_change.ensures.0 c.store_change.ensures.1

pub shape_of-kinds : goal.shape_of-kinds
shape_of-kinds c = making_first_length c.loop-i.invariant

pub shape_of-changes : goal.shape_of-changes
shape_of-changes c = making_second_length c.loop-i.invariant

pub returns : goal.returns
returns c = making_all c.loop-i.invariant (ap (λ (g : Grouped). g.positions) (groups_end _ _ c.loop-i-test.false))
