-- Order records: "Else the active logic's orders in declared order, the first with it being called".
use Rattle.std.specs.Prelude.{ℕ, List, get_or, take, drop, ◌==◌, Option, None}
use Rattle.std.specs.List.{position_from}
use Rattle.orders.specs.declared.Order.{Order}

-- what stands past the end
abbrev pub no_order : Order
no_order = record { trigger = 0; kind = None; number = 0 }

abbrev pub order_at : List Order → ℕ → Order
order_at xs i = get_or xs i no_order

-- the first of the `count` records from `first` on that has the trigger
abbrev pub first_match : ℕ → List Order → ℕ → ℕ → Option ℕ
first_match trigger xs first count = position_from (λ (x : Order). x.trigger == trigger) first (take count (drop first xs))
