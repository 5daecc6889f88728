-- By the present item and the one after it; where they are no trigger and what it calls, there is no order.
use mathlib.Core.Path.{sym, ◌∙◌, ap}
use Rattle.std.specs.Option.{option_map}
use Rattle.filling.specs.Inner.{order_read, trigger_by, found}
use Rattle.filling.proofs.Orders.{trigger_last, trigger_alone, trigger_and_call}
use Rattle.filling.proofs.lists.read_order.Goals as goal

pub returns-in_err-next : goal.returns-in_err-next
returns-in_err-next c =
    ap (λ o. found (option_map order_read o)) c.from_residual-in_err-next.ensures
    ∙ trigger_last _ _ (ap (option_map trigger_by) (sym c.in_ok-trigger.was) ∙ c.read_trigger.ensures) c.in_err-next.ensures.cases

pub returns-in_default : goal.returns-in_default
returns-in_default c = trigger_alone _ _ (ap (option_map trigger_by) (sym c.in_ok-trigger.was) ∙ c.read_trigger.ensures) c.in_ok-next.ensures.cases.0 c.in_default.not-Order

pub returns : goal.returns
returns c = trigger_and_call _ _ (ap (option_map trigger_by) (sym c.in_ok-trigger.was) ∙ c.read_trigger.ensures) c.in_ok-next.ensures.cases.0 c.in-Order.is
