-- One order after the other.
use mathlib.Core.Path.{◌∙◌}
use native.Mathlib.Omega.{arith}
use Rattle.protocol.proofs.Records.{gathering_starts, gathering_on, gathering_ends}
use Rattle.protocol.proofs.triggers.gather_orders.Goals as goal

pub loop-i-init : goal.loop-i-init
loop-i-init c =
    rw (c.into_iter-i-iterator.ensures.into_iter_gives, c.enumerate-i-items.ensures.source, c.enumerate-i-items.ensures.count, c.chunks_exact.ensures.rest)
    (c.chunks_exact.ensures.size, record { paired = c.requires.paired; room = omega (arith, c.requires.part); left = gathering_starts c.args.rows.now c.args.orders.now c.requires.paired c.requires.part })

pub loop-i-preserved : goal.loop-i-preserved
loop-i-preserved c =
    let h = c.in-Some.ensures.steps in
    let g = c.loop-i.invariant in (
      h.0.0 ∙ g.0,
      rw (h.1, h.2) (gathering_on c.args.rows.now c.args.orders.now c.loop-i.i-iterator.iter.rest.now c.in-Some.order.now c.next.new.self.iter.rest.now g.1 h.0.1.0 (h.0.1.1 ∙ g.0) c.kind_of.ensures),
    )

pub returns : goal.returns
returns c =
    let h = c.in-None.ensures.steps in
    let g = c.loop-i.invariant in
    gathering_ends c.args.rows.now c.args.orders.now c.loop-i.i-iterator.iter.rest.now g.1 (omega (arith, h.0.1.0, g.0))
