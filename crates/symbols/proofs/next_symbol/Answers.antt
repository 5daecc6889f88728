-- The invariant: the first symbol from the present place on is the first from `at` on. The measure is what is left of the text.
use mathlib.Core.Path.{refl, sym, ◌∙◌}
use native.Mathlib.Omega.{arith}
use borrow.Author.Rules.{rules}
use Rattle.symbols.specs.Symbols.{next_symbol}
use Rattle.symbols.proofs.Scan.{not_quote, run_from, from_blank, from_symbol, from_comment, from_end, comment_closed, comment_open}
use Rattle.symbols.proofs.next_symbol.Goals as goal

pub loop-i-init : goal.loop-i-init
unfolding next_symbol
loop-i-init c = refl

pub loop-i-preserved-then-is_blank : goal.loop-i-preserved-then-is_blank
loop-i-preserved-then-is_blank c = from_blank _ _ c.loop-i-test.true (sym c.is_blank.ensures ∙ c.if-is_blank.true) ∙ c.loop-i.invariant

pub returns-then-b-ne34 : goal.returns-then-b-ne34
returns-then-b-ne34 c =
    c.symbol_at.ensures
    ∙ from_symbol _ _ c.loop-i-test.true (sym c.is_blank.ensures ∙ c.if-is_blank.false) c.if-b-ne34.true
    ∙ c.loop-i.invariant

pub returns-then-text-close : goal.returns-then-text-close
returns-then-text-close c =
    comment_open _ _ _ (c.run_end-close.ensures not_quote (λ b r e. search rules)) c.if-text-close.true
    ∙ from_comment _ _ c.loop-i-test.true (sym c.is_blank.ensures ∙ c.if-is_blank.false) c.if-b-ne34.false
    ∙ c.loop-i.invariant

pub loop-i-smaller : goal.loop-i-smaller
loop-i-smaller c = omega (arith, run_from _ _ _ (c.run_end-close.ensures not_quote (λ b r e. search rules)))

pub loop-i-preserved : goal.loop-i-preserved
loop-i-preserved c =
    comment_closed _ _ _ (c.run_end-close.ensures not_quote (λ b r e. search rules)) c.if-text-close.false
    ∙ from_comment _ _ c.loop-i-test.true (sym c.is_blank.ensures ∙ c.if-is_blank.false) c.if-b-ne34.false
    ∙ c.loop-i.invariant

pub returns : goal.returns
returns c = from_end _ _ c.loop-i-test.false ∙ c.loop-i.invariant
