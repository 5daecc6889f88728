-- The part of the text has one byte, and its small letter is from `a` to `z`.
use mathlib.Core.Path.{sym, ◌∙◌, ap}
use native.Mathlib.Omega.{arith}
use Rattle.symbols.specs.Names.{letter_of}
use Rattle.symbols.proofs.Letters.{letter_none, letter_more, letter_other, letter_right}
use Rattle.symbols.proofs.spelling.letter_at.Goals as goal

pub returns-in_default : goal.returns-in_default
returns-in_default c = letter_none _ (omega arith) ∙ ap letter_of c.part.ensures

pub returns-in_default-2 : goal.returns-in_default-2
returns-in_default-2 c = letter_more _ c.in_default.len_at_least ∙ ap letter_of c.part.ensures

pub returns-then-not-is_ascii_alphabetic : goal.returns-then-not-is_ascii_alphabetic
returns-then-not-is_ascii_alphabetic c =
    letter_other _ (omega arith) (sym c.is_ascii_alphabetic.ensures.value ∙ c.if-not-is_ascii_alphabetic.true) ∙ ap letter_of c.part.ensures

pub returns : goal.returns
returns c =
    letter_right _ (omega arith) (sym c.is_ascii_alphabetic.ensures.value ∙ c.if-not-is_ascii_alphabetic.false) c.to_ascii_uppercase.ensures.value
    ∙ ap letter_of c.part.ensures
