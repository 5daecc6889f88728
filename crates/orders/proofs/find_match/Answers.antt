-- The first position in the part, counted from where the part begins.
use Rattle.std.proofs.Common.{rules, tests, ◌≡◌, ◌∙◌, take, drop}
use Rattle.std.proofs.lemmas.Iterator.{YieldsList-from_slice, YieldsList-from_take}
use Rattle.std.proofs.lemmas.Iterator.Adapters.{YieldsList-from_skip, position_from-zero}
use Rattle.std.proofs.lemmas.Iterator.Consumers.{YieldsList-at}
use Rattle.std.proofs.lemmas.Iterator.Search.{position_from_yields_List}
use Rattle.std.specs.Prelude.{◌==◌}
use Rattle.std.specs.List.{position_from}
use Rattle.orders.specs.declared.Order.{Order}
use Rattle.orders.proofs.Laws.{match_of}
use Rattle.orders.proofs.find_match.Goals.{After-position}
use Rattle.orders.proofs.find_match.Goals as goal

place : (c : goal.After-position) → c.position.result ≡ position_from (λ (x : Order). x.trigger == c.args.trigger) 0 (take c.args.count (drop c.args.first c.args.orders.now))
place c =
    position_from_yields_List (λ (x : Order). x.trigger == c.args.trigger) _ _ c.position.result c.position.ensures.ran
    (YieldsList-from_take _ (YieldsList-at (c.take-part.ensures.source) (YieldsList-from_skip _ (YieldsList-at (c.skip.ensures.source) (YieldsList-from_slice _ c.iter.ensures.rest)) (c.skip.ensures.count))) (c.take-part.ensures.count))
    (λ x b q k. search (rules, tests))
    ∙ position_from-zero (λ (x : Order). x.trigger == c.args.trigger) (take c.args.count (drop c.args.first c.args.orders.now))

pub returns-in_err-i : goal.returns-in_err-i
returns-in_err-i c = c.from_residual.ensures ∙ match_of c.args.trigger c.args.orders.now c.args.first c.args.count (place (goal.at.returns-in_err-i c).After-position) (c.in_err-i.was)

pub returns : goal.returns
returns c = match_of c.args.trigger c.args.orders.now c.args.first c.args.count (place (goal.at.returns c).After-position) (c.in_ok-i.was)
