-- The invariant: what is found up to the row that is tried next is what is found in all rows (`Ahead`). The measure is one more than that row.
use native.Mathlib.Omega.{arith}
use Rattle.names.proofs.Chains.{ahead_first, ahead_end, row_kept, row_linked, link_less, ahead_hit, ahead_on}
use Rattle.names.proofs.Declarations.find.Goals as goal

pub bounds-self-mark : goal.bounds-self-mark
bounds-self-mark c = omega (arith, c.args.self.chained.heads_size)

pub loop-next-init : goal.loop-next-init
loop-next-init c = ahead_first c.args.self.of_text c.args.self.chained _ _

pub bounds-self-row : goal.bounds-self-row
bounds-self-row c = row_kept c.args.self.of_text c.args.self.chained _ _ c.loop-next.invariant c.loop-next-test.true

pub returns-then-declares : goal.returns-then-declares
returns-then-declares c = ahead_hit c.args.self.of_text c.args.self.chained _ _ c.loop-next.invariant c.loop-next-test.true c.declares.ensures c.if-declares.true _ c.mark_of-mark.ensures

pub bounds-self-row-in-loop-next : goal.bounds-self-row-in-loop-next
bounds-self-row-in-loop-next c = row_linked c.args.self.of_text c.args.self.chained _ _ c.loop-next.invariant c.loop-next-test.true

pub loop-next-smaller : goal.loop-next-smaller
loop-next-smaller c = link_less c.args.self.of_text c.args.self.chained _ _ c.loop-next.invariant c.loop-next-test.true

pub loop-next-preserved : goal.loop-next-preserved
loop-next-preserved c = ahead_on c.args.self.of_text c.args.self.chained _ _ c.loop-next.invariant c.loop-next-test.true c.declares.ensures c.if-declares.false

pub returns : goal.returns
returns c = ahead_end c.args.self.of_text c.args.self.chained _ _ c.loop-next.invariant c.loop-next-test.false _ c.mark_of-mark.ensures
