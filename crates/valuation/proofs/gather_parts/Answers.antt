-- The row has what the items have, which is what the declaration has.
-- Assumes nothing.
use mathlib.Core.Path.{sym, ◌∙◌, ap}
use mathlib.Core.Bool.{cond}
use mathlib.Core.List.{[]}
use Rattle.program.specs.Program.{terms_of}
use Rattle.valuation.proofs.Contents.{row_here, terms_here}
use Rattle.valuation.proofs.gather_parts.Goals as goal

pub gather_terms-requires-clause-holdable : goal.gather_terms-requires-clause-holdable
gather_terms-requires-clause-holdable c = terms_here _ c.content_at-content.ensures (sym c.has_terms.ensures ∙ c.if-has_terms.true) c.requires

pub returns-then-has_terms : goal.returns-then-has_terms
returns-then-has_terms c =
    row_here c.args.items.now c.content_at-content.ensures c.range_of-row.ensures c.origin_of-row.ensures
    (c.gather_terms.ensures ∙ ap (λ b. cond b (terms_of c.args.items.now) []) (sym c.if-has_terms.true ∙ c.has_terms.ensures))
