-- The hexadecimal digits end at `end`: at least one, or none.
use mathlib.Core.Path.{◌∙◌, ap}
use Rattle.symbols.specs.Bytes.{is_hex_digit}
use Rattle.symbols.specs.Symbols.{hex_at, digits_to}
use Rattle.symbols.proofs.Scan.{digits_some, digits_none}
use Rattle.symbols.proofs.hex_at.Goals as goal

pub returns-then-first-end : goal.returns-then-first-end
unfolding hex_at
returns-then-first-end c = digits_some c.if-first-end.true ∙ ap (digits_to _ _) (c.run_end-end.ensures is_hex_digit (λ b r e. e))

pub returns : goal.returns
unfolding hex_at
returns c = digits_none c.if-first-end.false ∙ ap (digits_to _ _) (c.run_end-end.ensures is_hex_digit (λ b r e. e))
