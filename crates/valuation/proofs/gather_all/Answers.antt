-- The invariant: the rows have the declarations before the present one (`Filled`).
-- Assumes nothing.
use mathlib.Core.Path.{◌∙◌}
use native.Mathlib.Omega.{arith}
use Rattle.valuation.proofs.Ready.{ready_number, ready_gatherable}
use Rattle.valuation.proofs.Tables.{filled_all}
use Rattle.valuation.proofs.gather_all.Goals as goal

pub gather_parts-requires : goal.gather_parts-requires
gather_parts-requires c =
    rw c.skip_names-parts.ensures (ready_gatherable c.requires.ready _ c.loop-d-test.true c.body_at.result.now c.body_at.ensures)

pub returns : goal.returns
returns c =
    let r = c.requires.ready in
    let n = c.loop-d.auto.rows ∙ c.requires.rows_len in
    filled_all _ _ r.allowed (n ∙ ready_number r) (λ i l. c.loop-d.invariant i (omega (arith, c.loop-d-test.false, n)))
