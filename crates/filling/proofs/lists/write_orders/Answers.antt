-- The invariant: what is written and what is left of the orders (`Making`). The measure is the items that are left.
use Prim.Native.Nat.{ℕ, ◌+◌, ◌<◌}
use mathlib.Core.Path.{◌≡◌, sym, ◌∙◌, ap, subst}
use mathlib.Core.List.{List, ◌++◌, map, map-id}
use native.Mathlib.Omega.{arith}
use lib.ListN.{length, get_or, drop}
use Rattle.std.specs.Option.{option_map}
use Rattle.tables.specs.Layout.{triggers_in, calls_in}
use Rattle.tables.proofs.Columns.{columns_length}
use Rattle.program.specs.Program.{Order, Ordered, ordered, orders_of}
use Rattle.program.specs.Allowed.{Each}
use Rattle.grammar.specs.declared.Item.{Item}
use Rattle.names.specs.Parts.{part}
use Rattle.filling.specs.Inner.{order_by, order_read, trigger_of, call_of, found, FitOrder, Appended}
use Rattle.filling.proofs.Items.{rest_after, rest_after_is, ordered_end, orders_next}
use Rattle.filling.proofs.Writing.{making_none, making_all, making_now, making_skip, making_room, making_next, making_first_length, making_second_length}
use Rattle.filling.proofs.lists.write_orders.Invariants.{as_is}
use Rattle.filling.proofs.lists.write_orders.Goals as goal

-- the orders that are left: that which begins with the present item, and those after it
next : (items : List Item) (i : ℕ) → i < length items → (none : Item)
    → orders_of (drop i items) ≡ order_by (part (get_or items i none)) (ordered (rest_after i items)).call ++ orders_of (drop (i + 1) items)
next items i h none = rw (rest_after_is i items) (orders_next items i h none)

-- what is read is what is there
same : {xs : List Order} → {ys : List Order} → xs ≡ ys → xs ≡ map as_is ys
same e = e ∙ sym (map-id _)

pub loop-i-init : goal.loop-i-init
loop-i-init c = making_none c.requires.each

pub loop-i-preserved-in_default : goal.loop-i-preserved-in_default
loop-i-preserved-in_default c =
    making_skip c.loop-i.invariant _ _ (next _ _ c.loop-i-test.true _) (same (ap (λ o. found (option_map order_read o)) (sym c.in_default.is) ∙ c.read_order.ensures))

pub code_of-requires : goal.code_of-requires
code_of-requires c =
    let given = ap (λ o. found (option_map order_read o)) (sym c.in-Some.is) ∙ c.read_order.ensures in
    (subst (Each FitOrder) (sym given) (making_now c.loop-i.invariant _ _ (next _ _ c.loop-i-test.true _))).0.trigger

pub overflow_cast-order : goal.overflow_cast-order
overflow_cast-order c =
    let given = ap (λ o. found (option_map order_read o)) (sym c.in-Some.is) ∙ c.read_order.ensures in
    record { fits = (subst (Each FitOrder) (sym given) (making_now c.loop-i.invariant _ _ (next _ _ c.loop-i-test.true _))).0.calls }

pub overflow_add-count : goal.overflow_add-count
overflow_add-count c =
    let given = ap (λ o. found (option_map order_read o)) (sym c.in-Some.is) ∙ c.read_order.ensures in
    let room = making_room c.loop-i.invariant _ _ (next _ _ c.loop-i-test.true _) (same given) c.requires.to_bound in
    omega (arith, room)

pub loop-i-preserved : goal.loop-i-preserved
loop-i-preserved c =
    let given = ap (λ o. found (option_map order_read o)) (sym c.in-Some.is) ∙ c.read_order.ensures in
    let stored = rw c.code_of.ensures at c.store_order.ensures in
    making_next c.loop-i.invariant _ _ (next _ _ c.loop-i-test.true _) (same given) stored.0 stored.1

pub shape_of-orders : goal.shape_of-orders
shape_of-orders c = let inv = c.loop-i.invariant in
    omega (arith, making_first_length inv, making_second_length inv, columns_length c.loop-i.orders, columns_length c.args.orders.now)

pub returns : goal.returns
returns c = let os = c.args.orders.now in
    subst
    (λ (l : List Order). Appended trigger_of call_of l c.args.at (triggers_in os) (calls_in os) c.loop-i.count (triggers_in c.loop-i.orders) (calls_in c.loop-i.orders))
    (map-id _)
    (making_all c.loop-i.invariant (ap (λ (g : Ordered). g.orders) (ordered_end _ _ c.loop-i-test.false)))
