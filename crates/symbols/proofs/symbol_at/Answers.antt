-- The first byte tells which of the symbols begins.
use mathlib.Core.Path.{sym, ◌∙◌}
use Rattle.symbols.specs.Bytes.{in_name}
use Rattle.symbols.proofs.Scan.{symbol_name, symbol_decimal, symbol_hex, symbol_mark}
use Rattle.symbols.proofs.symbol_at.Goals as goal

pub returns-then-is_letter : goal.returns-then-is_letter
returns-then-is_letter c = symbol_name _ _ c.requires (sym c.is_letter.ensures ∙ c.if-is_letter.true) (c.run_end-end.ensures in_name (λ b r e. e))

pub returns-then-is_digit : goal.returns-then-is_digit
returns-then-is_digit c =
    c.decimal_at.ensures
    ∙ symbol_decimal _ _ c.requires (sym c.is_letter.ensures ∙ c.if-is_letter.false) (sym c.is_digit.ensures ∙ c.if-is_digit.true)

pub returns-then-b-eq35 : goal.returns-then-b-eq35
returns-then-b-eq35 c =
    c.hex_at.ensures
    ∙ symbol_hex _ _ c.requires (sym c.is_letter.ensures ∙ c.if-is_letter.false) (sym c.is_digit.ensures ∙ c.if-is_digit.false) c.if-b-eq35.true

pub returns : goal.returns
returns c =
    c.mark_at.ensures
    ∙ symbol_mark _ _ c.requires (sym c.is_letter.ensures ∙ c.if-is_letter.false) (sym c.is_digit.ensures ∙ c.if-is_digit.false) c.if-b-eq35.false
