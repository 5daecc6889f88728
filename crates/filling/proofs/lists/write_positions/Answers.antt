-- The invariant: what is written and what is left of the positions (`Making`).
use mathlib.Core.Path.{sym, ◌∙◌, ap}
use native.Mathlib.Omega.{arith}
use Rattle.filling.specs.Inner.{found}
use Rattle.filling.proofs.Items.{places_end, places_next}
use Rattle.filling.proofs.Writing.{making_none, making_all, making_now, making_skip, making_room, making_next, making_first_length, making_second_length}
use Rattle.filling.proofs.lists.write_positions.Goals as goal

pub loop-item-init : goal.loop-item-init
loop-item-init c = making_none c.requires.each

pub read_tone-requires : goal.read_tone-requires
read_tone-requires c = making_now c.loop-item.invariant _ _ (places_next _ _ c.loop-item-test.true _)

pub loop-item-preserved-in_default : goal.loop-item-preserved-in_default
loop-item-preserved-in_default c =
    making_skip c.loop-item.invariant _ _ (places_next _ _ c.loop-item-test.true _)
    (ap found (sym c.in_default.is) ∙ c.read_tone.ensures)

pub overflow_add-count : goal.overflow_add-count
overflow_add-count c =
    let given = ap found (sym c.in-Some.is) ∙ c.read_tone.ensures in
    let room = making_room c.loop-item.invariant _ _ (places_next _ _ c.loop-item-test.true _) given c.requires.to_bound in
    omega (arith, room)

pub loop-item-preserved : goal.loop-item-preserved
loop-item-preserved c =
    let given = ap found (sym c.in-Some.is) ∙ c.read_tone.ensures in
    making_next c.loop-item.invariant _ _ (places_next _ _ c.loop-item-test.true _) given c.store_tone.ensures.0 c.store_tone.ensures.1

pub shape_of-sounding : goal.shape_of-sounding
shape_of-sounding c = making_first_length c.loop-item.invariant

pub shape_of-tones : goal.shape_of-tones
shape_of-tones c = making_second_length c.loop-item.invariant

pub returns : goal.returns
returns c = making_all c.loop-item.invariant (places_end _ _ c.loop-item-test.false)
