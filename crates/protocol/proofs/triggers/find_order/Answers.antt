-- One part after the other.
use mathlib.Core.Path.{refl, sym, ◌∙◌}
use native.Mathlib.Omega.{arith}
use Rattle.protocol.specs.Inner.{is_trigger, Paired}
use Rattle.protocol.proofs.Records.{paired_part, none_of, among_on, among_found, searching_ends}
use Rattle.protocol.proofs.triggers.find_order.Goals.{In-Some}
use Rattle.protocol.proofs.triggers.find_order.Goals as goal

-- the part that comes, and what is left behind it
parts : (c : goal.In-Some) → Paired c.in-Some.part.now × Paired c.next.new.self.rest.now
parts c =
    let h = c.in-Some.ensures.steps in
    let g = c.loop-part.invariant in
    paired_part c.loop-part.part-iterator.rest.now c.in-Some.part.now c.next.new.self.rest.now c.loop-part.part-iterator.size g.1.paired h.1.0 g.0 h.1.1

pub loop-part-init : goal.loop-part-init
loop-part-init c =
    rw (c.into_iter-part-iterator.ensures.into_iter_gives, c.chunks-part-items.ensures.rest)
    (c.chunks-part-items.ensures.size, record { paired = c.requires; same = refl })

pub find_in_part-called-requires : goal.find_in_part-called-requires
find_in_part-called-requires c =
    let h = c.in-Some.ensures.steps in
    let g = c.loop-part.invariant in
    record { paired = (parts (goal.at.find_in_part-called-requires c).In-Some).0; part = omega (arith, h.1.1, g.0) }

pub returns-then-is_some : goal.returns-then-is_some
returns-then-is_some c =
    let h = c.in-Some.ensures.steps in
    let g = c.loop-part.invariant in
    among_found c.args.rows.now (is_trigger c.args.trigger) c.args.orders.now c.in-Some.part.now c.next.new.self.rest.now (parts (goal.at.returns-then-is_some c).In-Some).0 h.1.0 g.1.same c.find_in_part-called.result
    (sym c.if-is_some.ensures) c.find_in_part-called.ensures

pub loop-part-preserved : goal.loop-part-preserved
loop-part-preserved c =
    let h = c.in-Some.ensures.steps in
    let g = c.loop-part.invariant in
    let w = parts (goal.at.loop-part-preserved c).In-Some in (
      h.0 ∙ g.0,
      record {
        paired = w.1;
        same = among_on c.args.rows.now (is_trigger c.args.trigger) c.args.orders.now c.in-Some.part.now c.next.new.self.rest.now w.0 h.1.0 g.1.same
            (none_of (sym c.is_some.ensures ∙ c.if-is_some.false) ∙ c.find_in_part-called.ensures);
      },
    )

pub returns : goal.returns
returns c =
    let h = c.in-None.ensures.steps in
    searching_ends c.args.rows.now (is_trigger c.args.trigger) c.args.orders.now c.loop-part.part-iterator.rest.now c.loop-part.invariant.1 h.1.0
