-- `validity::are_valid` meets its contract. The counts give room for the lists. Assumes nothing.
use Rattle.std.proofs.Common.{◌*◌, ◌≤◌, length, sym, ap, ◌∙◌, arith}
use Rattle.std.proofs.lemmas.List.{take_rest}
use Rattle.tables.proofs.Columns.{columns_length}
use Rattle.tables.proofs.Sizes.{Sizes, slices_sizes, slices_full}
use Rattle.tables.specs.Layout.{row_width, order_width}
use Rattle.tables.specs.Lent.{tables_of}
use Rattle.validity.proofs.Runs.{zero_each, nought_each}
use Rattle.validity.proofs.Sizes.{Room, room_of}
use Rattle.validity.proofs.Slices.{few, valid_parts}
use Rattle.validity.proofs.are_valid.Goals.{After-orders-orders}
use Rattle.validity.proofs.are_valid.Goals as goal

-- once the counts give room
module _ (c : After-orders-orders) where
  sizes : Sizes (tables_of c.args.tables)
  sizes = slices_sizes _ _ c.args.tables.full

  room : Room c.counts-used.result
  room = room_of c.counts-used.result (sym c.are_counts.ensures ∙ c.if-not-are_counts.false)

  rows_room : row_width * c.counts-used.result.rows ≤ length c.rows-numbers.result.now
  rows_room = omega (arith, ap length c.rows-numbers.ensures, sizes.rows, room.rows)

  orders_room : order_width * c.counts-used.result.orders ≤ length c.orders-orders.result.now
  orders_room = omega (arith, columns_length c.orders-orders.result.now, ap length c.orders-orders.ensures.triggers, ap length c.orders-orders.ensures.calls, sizes.triggers, sizes.calls, room.orders)

pub returns-then-not-are_counts : goal.returns-then-not-are_counts
returns-then-not-are_counts c =
    let l = c.args.tables in
    few (tables_of l) c.counts-used.ensures (slices_full _ _ l.full) (sym c.are_counts.ensures ∙ c.if-not-are_counts.true)

pub invariant_of-rows : goal.invariant_of-rows
invariant_of-rows c = record { inside = rows_room c }

pub is_list-requires : goal.is_list-requires
is_list-requires c =
    let o = (goal.at.is_list-requires c).After-orders-orders in
    let s = sizes o in
    let r = room o in
    (omega (arith, ap length c.sounding.ensures), omega (arith, ap length c.tones.ensures))

pub is_list-requires-2 : goal.is_list-requires-2
is_list-requires-2 c =
    let o = (goal.at.is_list-requires-2 c).After-orders-orders in
    let s = sizes o in
    let r = room o in
    (omega (arith, ap length c.kinds.ensures), omega (arith, ap length c.changes.ensures))

pub are_orders-requires : goal.are_orders-requires
are_orders-requires c = orders_room (goal.at.are_orders-requires c).After-orders-orders

pub slice_bounds-is_run_of-count-2 : goal.slice_bounds-is_run_of-count-2
slice_bounds-is_run_of-count-2 c = orders_room (goal.at.slice_bounds-is_run_of-count-2 c).After-orders-orders

pub slice_bounds-is_run_of-start-2 : goal.slice_bounds-is_run_of-start-2
slice_bounds-is_run_of-start-2 c = orders_room (goal.at.slice_bounds-is_run_of-start-2 c).After-orders-orders

pub returns : goal.returns
returns c =
    let o = (goal.at.returns c).After-orders-orders in
    let l = c.args.tables in
    let rows = c.rows-numbers.ensures in
    let os = c.orders-orders.ensures in
    valid_parts (tables_of l) c.counts-used.ensures (slices_full _ _ l.full) (sym c.are_counts.ensures ∙ c.if-not-are_counts.false) c.orders-orders.result.now os.triggers os.calls
    (rw rows at c.are_right.ensures)
    (rw (take_rest, rows) at c.is_run_of.ensures ∙ sym (zero_each _))
    (rw (c.sounding.ensures, c.tones.ensures) at c.is_list.ensures)
    (rw (c.kinds.ensures, c.changes.ensures) at c.is_list-2.ensures)
    (rw (rows, os.triggers, os.calls) at c.are_orders.ensures)
    (rw take_rest at c.is_run_of-2.ensures ∙ sym (nought_each _))
