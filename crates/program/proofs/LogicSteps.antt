-- What the actions of logics, orders and harmonies lead to, from stage to stage.
-- Assumes nothing.
use mathlib.Core.List.{List, ◌∷◌}
use Prim.Native.Nat.{ℕ, suc, ◌≤◌}
use Rattle.limits.specs.Limits.{most_amount, most_placeholders}
use Rattle.grammar.specs.declared.Kind.TheVariants.{Logic, Order as AnOrder}
use Rattle.grammar.specs.declared.NumberUse.TheVariants.{Argument}
use Rattle.grammar.specs.declared.Progress.{Progress}
use Rattle.grammar.specs.declared.NameUse.TheVariants.{Start, Order, Trigger, CountedTrigger}
use Rattle.grammar.specs.declared.Action.TheVariants.{Pass, Number, Name, Letter as ALetter, CountOrder}
use Rattle.grammar.specs.declared.Item.{Item}
use Rattle.grammar.specs.declared.Item.TheVariants as item
use Rattle.grammar.specs.declared.terminals.Terminal.{Terminal}
use Rattle.grammar.specs.declared.terminals.Terminal.TheVariants.{Letter as letter}
use Rattle.grammar.specs.Terminals.{span_of}
use Rattle.grammar.specs.Reading.{limit, so_far, acted}
use Rattle.program.proofs.Formed.{no_number_case, a_number, no_start, a_start, TriggerItem, by_letter_case, by_harmony_case, OrderItems, an_order, Body, a_logic}
use Rattle.program.proofs.Ranges.{letter_there}
use Rattle.program.proofs.Ahead.{Stage, body, start, orders, order, numbers, more_numbers, NumbersThen, numbers_then, Calls, call_then, Starts, start_then_case, Comes, passed, given, Move}
use Rattle.program.proofs.Steps.{full, passing, numbering, one_fewer}

logic_with : {i : Item} {is : List Item} → TriggerItem i → Starts is → Body Logic (i ∷ is)
logic_with l (start_then_case ss os) = a_logic l ss os

pub logic_letter : Move letter (body Logic) ALetter start
unfolding acted
logic_letter = record { leads = λ text s y e. given (λ f. f) (λ is f c. logic_with (by_letter_case (letter_there text y e)) c) }

order_with : {i : Item} {is : List Item} → TriggerItem i → Calls is → OrderItems (i ∷ is)
order_with l (call_then (numbers_then ns os)) = an_order l ns os

-- further orders, where numbers might come as well
pub no_more_numbers : {n : ℕ} {is : List Item} → OrderItems is → NumbersThen n is
no_more_numbers os = numbers_then no_number_case os

-- a stage at which orders may come
abbrev pub Orders : Stage → Type 0
Orders P = (s : Progress) (is : List Item) → OrderItems is → Comes P s is

pub as_orders : Orders orders
as_orders s is os = os

pub after_numbers : Orders numbers
after_numbers s is os = no_more_numbers os

pub order_letter : Move letter orders ALetter order
unfolding acted
order_letter = record { leads = λ text s y e. given (λ f. f) (λ is f c. order_with (by_letter_case (letter_there text y e)) c) }

start_with : {q k : ℕ} {is : List Item} → NumbersThen most_placeholders is → Starts (item.Start q k ∷ is)
start_with (numbers_then ns os) = start_then_case (a_start ns) os

one_number : {n m v : ℕ} {is : List Item} → v ≤ most_amount → suc n ≤ m → NumbersThen n is → NumbersThen m (item.Argument v ∷ is)
one_number h l (numbers_then ns os) = numbers_then (more_numbers l (a_number h ns)) os

module _ {t : Terminal} where
  pub start_name : Move t start (Name Start) numbers
  unfolding acted
  start_name = record { leads = λ text s y e. given (λ f. f) (λ is f c. start_with c) }

  pub start_none : Move t start Pass orders
  start_none = passing (λ s is os. start_then_case no_start os)

  pub order_key : {P : Stage} → Orders P → Move t P CountOrder orders
  unfolding acted
  order_key w = record {
    leads = λ text s y e. full s (limit AnOrder) (so_far AnOrder s.counts) (span_of y) _ (λ h. passed (λ f. f) (λ is c. w s is c));
  }

  pub logic_harmony : Move t (body Logic) (Name Trigger) start
  unfolding acted
  logic_harmony = record { leads = λ text s y e. given (λ f. f) (λ is f c. logic_with by_harmony_case c) }

  pub order_harmony : {P : Stage} → Orders P → Move t P (Name CountedTrigger) order
  unfolding acted
  order_harmony w = record {
    leads = λ text s y e.
        full s (limit AnOrder) (so_far AnOrder s.counts) (span_of y) _ (λ h. given (λ f. f) (λ is f c. w s _ (order_with by_harmony_case c)));
  }

  pub order_name : Move t order (Name Order) numbers
  unfolding acted
  order_name = record { leads = λ text s y e. given (λ f. f) (λ is f c. call_then c) }

  -- the numbers of a call, if any, and then orders
  pub numbers_end : Move t numbers Pass orders
  numbers_end = passing (λ s is os. no_more_numbers os)

  pub numbers_on : Move t numbers Pass numbers
  numbers_on = passing (λ s is c. c)

  pub call_number_step : Move t numbers (Number Argument) numbers
  call_number_step = numbering (λ s x v h.
      full s most_placeholders s.bracketed x _ (λ l. given (λ f. f) (λ is f c. one_number h.1 (one_fewer l) c)))
