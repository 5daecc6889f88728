-- One order after the other.
use mathlib.Core.Path.{refl, ◌∙◌}
use native.Mathlib.Omega.{arith}
use Rattle.protocol.specs.Inner.{sounds_in}
use Rattle.protocol.proofs.Audible.{sounding_audible, sounds_here, sounds_on, sounds_none}
use Rattle.protocol.proofs.chords.find_sounding.Goals as goal

pub loop-order-init : goal.loop-order-init
loop-order-init c =
    rw (c.into_iter-order-iterator.ensures.into_iter_gives, c.chunks_exact-order-items.ensures.rest)
    (c.chunks_exact-order-items.ensures.size, record { paired = c.requires.paired; audible = c.requires.audible; same = refl })

pub is_sounding-requires-clause-audible : goal.is_sounding-requires-clause-audible
is_sounding-requires-clause-audible c =
    let h = c.in-Some.ensures.steps in
    let g = c.loop-order.invariant in
    sounding_audible c.args.rows.now (sounds_in c.args.rows.now c.args.chord) c.loop-order.order-iterator.rest.now c.in-Some.order.now c.next.new.self.rest.now g.1 h.1.0 (h.1.1 ∙ g.0)

pub returns-then-is_sounding : goal.returns-then-is_sounding
returns-then-is_sounding c =
    let h = c.in-Some.ensures.steps in
    let g = c.loop-order.invariant in
    sounds_here c.args.rows.now (sounds_in c.args.rows.now c.args.chord) c.loop-order.order-iterator.rest.now c.in-Some.order.now c.next.new.self.rest.now g.1 h.1.0 (h.1.1 ∙ g.0) c.is_sounding.ensures c.if-is_sounding.true

pub loop-order-preserved : goal.loop-order-preserved
loop-order-preserved c =
    let h = c.in-Some.ensures.steps in
    let g = c.loop-order.invariant in
    (h.0 ∙ g.0, sounds_on c.args.rows.now (sounds_in c.args.rows.now c.args.chord) c.loop-order.order-iterator.rest.now c.in-Some.order.now c.next.new.self.rest.now g.1 h.1.0 (h.1.1 ∙ g.0) c.is_sounding.ensures c.if-is_sounding.false)

pub returns : goal.returns
returns c =
    let h = c.in-None.ensures.steps in
    let g = c.loop-order.invariant in
    sounds_none c.args.rows.now (sounds_in c.args.rows.now c.args.chord) c.loop-order.order-iterator.rest.now g.1 (omega (arith, h.1.0, g.0))
