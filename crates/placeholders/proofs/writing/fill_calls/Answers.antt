-- The invariant: what has become of the items in front of the present one, and what stands behind them all (`Writing`). The measure is the items that are left.
use mathlib.Core.Path.{refl, sym, ap, ◌∙◌}
use mathlib.Core.List.{◌++◌}
use native.Mathlib.Omega.{arith}
use lib.ListN.{take, drop, set, length-set, take-append-drop}
use lib.Seq.{length-take-le}
use Rattle.placeholders.proofs.Written.{writing_none, writing_on, room_here, writing_more, writing_all}
use Rattle.placeholders.proofs.writing.fill_calls.Goals as goal

pub loop-i-init : goal.loop-i-init
loop-i-init c =
    let a = c.args in
    let n = length-take-le a.count a.items.now c.requires.counted in
    writing_none _ _ _ _ (sym n) (sym (take-append-drop a.count a.items.now) ∙ ap (λ k. take a.count a.items.now ++ drop k a.items.now) (sym n)) c.requires.begun

pub loop-i-preserved-in_default : goal.loop-i-preserved-in_default
loop-i-preserved-in_default c =
    let a = c.args in
    let n = length-take-le a.count a.items.now c.requires.counted in
    writing_on _ _ _ _ c.loop-i.invariant _ (sym n) c.requires.begun (rw n c.loop-i-test.true) c.read_call.ensures c.in_default.is

pub overflow_cast-next : goal.overflow_cast-next
overflow_cast-next c =
    let a = c.args in
    let n = length-take-le a.count a.items.now c.requires.counted in
    let r = room_here _ _ _ _ c.loop-i.invariant _ (sym n) c.requires.begun (rw n c.loop-i-test.true) c.read_call.ensures c.in-Some.is c.requires.roomy in
    omega (arith, r.items_fit, r.start_fits, r.few, c.requires.size, c.loop-i.invariant.room)

pub offset_bounds-items-end : goal.offset_bounds-items-end
offset_bounds-items-end c =
    let a = c.args in
    let n = length-take-le a.count a.items.now c.requires.counted in
    let r = room_here _ _ _ _ c.loop-i.invariant _ (sym n) c.requires.begun (rw n c.loop-i-test.true) c.read_call.ensures c.in-Some.is c.requires.roomy in
    omega (arith, r.items_fit, r.start_fits, r.few, c.requires.size, c.loop-i.invariant.room)

pub bounds-items-end : goal.bounds-items-end
bounds-items-end c =
    let a = c.args in
    let n = length-take-le a.count a.items.now c.requires.counted in
    let r = room_here _ _ _ _ c.loop-i.invariant _ (sym n) c.requires.begun (rw n c.loop-i-test.true) c.read_call.ensures c.in-Some.is c.requires.roomy in
    simp length-set (omega (arith, r.items_fit, r.start_fits, r.few, c.requires.size, c.loop-i.invariant.room))

pub overflow_add-end : goal.overflow_add-end
overflow_add-end c =
    let a = c.args in
    let n = length-take-le a.count a.items.now c.requires.counted in
    let r = room_here _ _ _ _ c.loop-i.invariant _ (sym n) c.requires.begun (rw n c.loop-i-test.true) c.read_call.ensures c.in-Some.is c.requires.roomy in
    omega (arith, r.items_fit, r.start_fits, r.few, c.requires.size, c.loop-i.invariant.room)

pub offset_bounds-items-end-in-loop-i : goal.offset_bounds-items-end-in-loop-i
offset_bounds-items-end-in-loop-i c =
    let a = c.args in
    let n = length-take-le a.count a.items.now c.requires.counted in
    let r = room_here _ _ _ _ c.loop-i.invariant _ (sym n) c.requires.begun (rw n c.loop-i-test.true) c.read_call.ensures c.in-Some.is c.requires.roomy in
    omega (arith, r.items_fit, r.start_fits, r.few, c.requires.size, c.loop-i.invariant.room)

pub bounds-items-end-in-loop-i : goal.bounds-items-end-in-loop-i
bounds-items-end-in-loop-i c =
    let a = c.args in
    let n = length-take-le a.count a.items.now c.requires.counted in
    let r = room_here _ _ _ _ c.loop-i.invariant _ (sym n) c.requires.begun (rw n c.loop-i-test.true) c.read_call.ensures c.in-Some.is c.requires.roomy in
    simp length-set (omega (arith, r.items_fit, r.start_fits, r.few, c.requires.size, c.loop-i.invariant.room))

pub overflow_cast-starts : goal.overflow_cast-starts
overflow_cast-starts c =
    let a = c.args in
    let n = length-take-le a.count a.items.now c.requires.counted in
    let r = room_here _ _ _ _ c.loop-i.invariant _ (sym n) c.requires.begun (rw n c.loop-i-test.true) c.read_call.ensures c.in-Some.is c.requires.roomy in
    omega (arith, r.items_fit, r.start_fits, r.few, c.requires.size, c.loop-i.invariant.room)

pub bounds-starts-next : goal.bounds-starts-next
bounds-starts-next c =
    let a = c.args in
    let n = length-take-le a.count a.items.now c.requires.counted in
    let r = room_here _ _ _ _ c.loop-i.invariant _ (sym n) c.requires.begun (rw n c.loop-i-test.true) c.read_call.ensures c.in-Some.is c.requires.roomy in
    omega (arith, r.items_fit, r.start_fits, r.few, c.requires.size, c.loop-i.invariant.room)

pub overflow_add-end-in-loop-i : goal.overflow_add-end-in-loop-i
overflow_add-end-in-loop-i c =
    let a = c.args in
    let n = length-take-le a.count a.items.now c.requires.counted in
    let r = room_here _ _ _ _ c.loop-i.invariant _ (sym n) c.requires.begun (rw n c.loop-i-test.true) c.read_call.ensures c.in-Some.is c.requires.roomy in
    omega (arith, r.items_fit, r.start_fits, r.few, c.requires.size, c.loop-i.invariant.room)

pub loop-i-preserved : goal.loop-i-preserved
loop-i-preserved c =
    let a = c.args in
    let n = length-take-le a.count a.items.now c.requires.counted in
    writing_more _ _ _ _ c.loop-i.invariant _ (sym n) c.requires.begun (rw n c.loop-i-test.true) c.read_call.ensures c.in-Some.is c.requires.roomy c.requires.size
    _ (ap (set c.loop-i.items c.loop-i.i) c.with_place.ensures) refl refl refl

pub returns : goal.returns
returns c =
    let a = c.args in
    writing_all _ _ _ _ c.loop-i.invariant (rw (length-take-le a.count a.items.now c.requires.counted) c.loop-i-test.false)
