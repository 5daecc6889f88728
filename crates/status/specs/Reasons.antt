-- The number of each reason for which a text is refused, and how a call tells it.
use Rattle.std.specs.Prelude.{◌≡◌, ℕ, Result, Ok, Err}
use Rattle.status.specs.declared.Reason.{Reason}
use Rattle.status.specs.declared.Reason.TheVariants.{TextTooLong, NoSymbol, SymbolNotAllowed, NumberOutOfRange, NameTwice, NameNotDeclared, DependsOnItself, ValueOutOfRange, ItemTooMany, PlaceholderWrong}
use Rattle.status.specs.declared.Refusal.{Refusal}
use Rattle.status.specs.Status.{done, text_too_long, no_symbol, symbol_not_allowed, number_out_of_range, name_twice, name_not_declared, depends_on_itself, value_out_of_range, item_too_many, placeholder_wrong}

abbrev pub number_of : Reason → ℕ
number_of TextTooLong = text_too_long
number_of NoSymbol = no_symbol
number_of SymbolNotAllowed = symbol_not_allowed
number_of NumberOutOfRange = number_out_of_range
number_of NameTwice = name_twice
number_of NameNotDeclared = name_not_declared
number_of DependsOnItself = depends_on_itself
number_of ValueOutOfRange = value_out_of_range
number_of ItemTooMany = item_too_many
number_of PlaceholderWrong = placeholder_wrong

-- a call answers with a number and a place: where it refuses, with the reason's number and its place, else with 0 and 0
abbrev pub Tells : {A : Type 0} → ℕ → ℕ → Result A Refusal → Type 0
Tells number place (Ok x) = (number ≡ done) × (place ≡ 0)
Tells number place (Err e) = (number ≡ number_of e.reason) × (place ≡ e.place)
