-- What contracts of private functions ask.
use Rattle.std.specs.Prelude.{ℕ, ◌+◌, ◌≤◌, ◌<◌, ◌^◌}
use Rattle.grammar.specs.declared.NumberRange.{NumberRange}
use Rattle.grammar.specs.declared.NumberRange.TheVariants.{Decimal, Whole}
use Rattle.grammar.specs.declared.Progress.{Progress}

-- one term more can be counted
abbrev pub room_for_term : Progress → Type 0
room_for_term s = s.term.before + 1 < 2 ^ 32

-- a whole number is at most its range's highest
abbrev pub in_range : NumberRange → ℕ → Type 0
in_range Decimal v = Unit
in_range (Whole low high) v = v ≤ high
