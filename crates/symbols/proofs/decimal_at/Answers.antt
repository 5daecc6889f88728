-- The digits before the point end at `whole`; what stands there decides.
use mathlib.Core.Path.{sym, ◌∙◌}
use Rattle.symbols.specs.Bytes.{is_digit}
use Rattle.symbols.proofs.Scan.{decimal_out, decimal_whole, decimal_point, digits_some, digits_none}
use Rattle.symbols.proofs.decimal_at.Goals as goal

pub returns-in_default : goal.returns-in_default
returns-in_default c =
    let found = rw c.in_default.is at c.get.ensures.lookup.3 in
    decimal_whole _ _ _ (c.run_end-whole.ensures is_digit (λ b r e. e)) found.0 (λ q. c.in_default.field-0-test.1 (let k = found.1 0 ∙ q in cc))

pub returns-in_default-2 : goal.returns-in_default-2
returns-in_default-2 c =
    decimal_out _ _ _ (c.run_end-whole.ensures is_digit (λ b r e. e)) (rw c.in_default.is at c.get.ensures.lookup.3)

pub returns-then-first-end : goal.returns-then-first-end
returns-then-first-end c =
    digits_some c.if-first-end.true
    ∙ decimal_point _ _ _ (c.run_end-whole.ensures is_digit (λ b r e. e)) c.in-Some-eq46.ensures.lookup.3.0
    (sym (c.in-Some-eq46.ensures.lookup.3.1 0) ∙ c.in-Some-eq46.field-0-test) (c.run_end-end.ensures is_digit (λ b r e. e))

pub returns : goal.returns
returns c =
    digits_none c.if-first-end.false
    ∙ decimal_point _ _ _ (c.run_end-whole.ensures is_digit (λ b r e. e)) c.in-Some-eq46.ensures.lookup.3.0
    (sym (c.in-Some-eq46.ensures.lookup.3.1 0) ∙ c.in-Some-eq46.field-0-test) (c.run_end-end.ensures is_digit (λ b r e. e))
