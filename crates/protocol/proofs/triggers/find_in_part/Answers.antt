-- What is found among the records is what is found among the orders.
use mathlib.Core.Path.{sym, ◌∙◌, ap}
use native.Mathlib.Omega.{arith}
use Rattle.std.specs.Prelude.{Some}
use Rattle.protocol.proofs.Records.{called_gathered, found_gathered}
use Rattle.protocol.proofs.triggers.find_in_part.Goals.{After-find_match}
use Rattle.protocol.proofs.triggers.find_in_part.Goals as goal

pub returns-in_err-i : goal.returns-in_err-i
returns-in_err-i c =
    c.from_residual.ensures
    ∙ called_gathered c.args.rows.now c.args.trigger c.args.orders.now c.requires.paired c.requires.part c.gather_orders-all.ensures (sym c.find_match.ensures ∙ c.in_err-i.was)

pub offset_bounds-all-i : goal.offset_bounds-all-i
offset_bounds-all-i c =
    omega (arith, found_gathered c.args.rows.now c.args.trigger c.args.orders.now c.requires.paired c.requires.part c.gather_orders-all.ensures (sym c.find_match.ensures) c.in_ok-i.was)

pub bounds-all-i : goal.bounds-all-i
bounds-all-i c = found_gathered c.args.rows.now c.args.trigger c.args.orders.now c.requires.paired c.requires.part c.gather_orders-all.ensures (sym c.find_match.ensures) c.in_ok-i.was

pub returns : goal.returns
returns c =
    ap Some c.by_kind.ensures
    ∙ called_gathered c.args.rows.now c.args.trigger c.args.orders.now c.requires.paired c.requires.part c.gather_orders-all.ensures (sym c.find_match.ensures ∙ c.in_ok-i.was)
