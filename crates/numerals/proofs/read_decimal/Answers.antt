-- The number is the part of the text; its first byte tells its base.
use mathlib.Core.Path.{◌∙◌, ap}
use native.Mathlib.Omega.{arith}
use Rattle.numerals.specs.Numbers.{decimal_of}
use Rattle.numerals.proofs.Values.{decimal_none, decimal_hex, decimal_plain}
use Rattle.numerals.proofs.read_decimal.Goals as goal

pub returns-in-empty : goal.returns-in-empty
returns-in-empty c = decimal_none _ c.in-empty.len_below ∙ ap decimal_of c.part.ensures

pub returns-in-35 : goal.returns-in-35
returns-in-35 c =
    c.within_range.ensures ∙ decimal_hex _ c.in-35.len_at_least c.value_of.ensures (omega arith) ∙ ap decimal_of c.part.ensures

pub returns-in_default : goal.returns-in_default
returns-in_default c =
    c.decimal_value.ensures ∙ decimal_plain _ c.in_default.len_at_least (λ q. omega arith) ∙ ap decimal_of c.part.ensures
