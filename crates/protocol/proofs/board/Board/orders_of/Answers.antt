-- Where no logic is active there are no orders; else they are a part of all.
use mathlib.Core.Path.{◌≡◌, sym, ap, ◌∙◌}
use native.Mathlib.Omega.{arith}
use lib.ListN.{length}
use Prim.Native.Nat.{◌*◌, ◌≤◌}
use Rattle.std.specs.Prelude.{Some, true}
use Rattle.tables.specs.declared.Row.TheVariants.{Logic}
use Rattle.tables.specs.Layout.{row_at, order_width}
use Rattle.protocol.specs.Triggers.{order_of}
use Rattle.protocol.specs.Answers.{active_right}
use Rattle.protocol.specs.OnBoard.{tables_on}
use Rattle.protocol.proofs.Active.{none_active, orders_order, orders_end, orders_own}
use Rattle.protocol.proofs.Pressable.{active_fields}
use Rattle.protocol.proofs.board.Board.orders_of.Goals.{In-Some, After-orders-orders}
use Rattle.protocol.proofs.board.Board.orders_of.Goals as goal

active : (c : goal.In-Some) → active_right (tables_on c.args.self.now) (Some c.in-Some.i) ≡ true
active c = ap (active_right (tables_on c.args.self.now)) (sym c.in-Some.is) ∙ c.requires

row_is : (c : goal.After-orders-orders) → row_at (tables_on c.args.self.now) c.in-Some.i ≡ Logic c.in-Logic.trigger c.in-Logic.start c.in-Logic.from c.in-Logic.to
row_is c = sym c.row.ensures ∙ c.in-Logic.is

-- a logic's orders stand in their order, and among all
order : (c : goal.After-orders-orders) → c.in-Logic.from ≤ c.in-Logic.to
order c =
    let e : active_right (tables_on c.args.self.now) (Some c.in-Some.i) ≡ true = ap (active_right (tables_on c.args.self.now)) (sym c.in-Some.is) ∙ c.requires in
    orders_order (tables_on c.args.self.now) c.args.self.now.right c.orders-orders.result.now c.orders-orders.ensures.triggers c.orders-orders.ensures.calls c.in-Some.i e (row_is c)

end_within : (c : goal.After-orders-orders) → order_width * c.in-Logic.to ≤ length c.orders-orders.result.now
end_within c =
    let e : active_right (tables_on c.args.self.now) (Some c.in-Some.i) ≡ true = ap (active_right (tables_on c.args.self.now)) (sym c.in-Some.is) ∙ c.requires in
    orders_end (tables_on c.args.self.now) c.args.self.now.right c.orders-orders.result.now c.orders-orders.ensures.triggers c.orders-orders.ensures.calls c.in-Some.i e (row_is c)

pub returns-in_default : goal.returns-in_default
returns-in_default c = none_active (tables_on c.args.self.now) (λ p. ap (order_of (tables_on c.args.self.now) p) (sym c.in_default.is))

pub row-requires : goal.row-requires
row-requires c = active_fields (tables_on c.args.self.now) c.args.self.now.right c.in-Some.i (active (goal.at.row-requires c).In-Some)

pub slice_bounds-result-count : goal.slice_bounds-result-count
slice_bounds-result-count c = let w = order (goal.at.slice_bounds-result-count c).After-orders-orders in omega (arith, w)

pub slice_bounds-result-start : goal.slice_bounds-result-start
slice_bounds-result-start c = let w = order (goal.at.slice_bounds-result-start c).After-orders-orders in omega (arith, w)

pub slice_bounds-result-end-2 : goal.slice_bounds-result-end-2
slice_bounds-result-end-2 c = let w = end_within (goal.at.slice_bounds-result-end-2 c).After-orders-orders in omega (arith, w)

pub returns : goal.returns
returns c =
    orders_own (tables_on c.args.self.now) c.args.self.now.right c.orders-orders.result.now c.orders-orders.ensures.triggers c.orders-orders.ensures.calls c.in-Some.i
    (active (goal.at.returns c).In-Some) (row_is (goal.at.returns c).After-orders-orders) c.in-Some.is
