-- `tables::encode::store_order` meets its contract: its two codes stand side by side. Assumes nothing.
use mathlib.Core.Path.{sym}
use native.Mathlib.Omega.{arith}
use lib.Seq.{set_out}
use Rattle.tables.specs.Layout.{triggers_in, calls_in}
use Rattle.tables.proofs.Columns.{columns_length, order_stored}
use Rattle.tables.proofs.encode.store_order.Goals as goal

pub returns-then-orders-i : goal.returns-then-orders-i
returns-then-orders-i c =
    let l = c.args.orders.now in
    let e = columns_length l in
    (sym (set_out (triggers_in l) c.args.i c.args.trigger (omega arith)), sym (set_out (calls_in l) c.args.i c.args.called (omega arith)))

pub returns : goal.returns
returns c = order_stored c.args.orders.now c.args.i c.args.trigger c.args.called c.put.ensures c.put-2.ensures
