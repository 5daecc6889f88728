-- `validity::are_in_bounds` meets its contract. Assumes nothing.
use Rattle.std.proofs.Common.{pos, get_or, arith, rules, sym, ◌∙◌}
use mir.Facts.{to_z-of_z}
use mir.Syntax.{w32}
use mir.Val.{SFits}
use Rattle.tuning.specs.Desk.{between}
use Rattle.validity.proofs.Runs.{zero_tested, each_turn, each_end}
use Rattle.validity.proofs.are_in_bounds.Goals as goal

pub loop-i-preserved : goal.loop-i-preserved
loop-i-preserved c =
    let b = c.args.bounds in
    let z = get_or c.args.numbers.now c.loop-i.i (pos 0) in
    let fits : SFits w32 z = search rules in
    let low : SFits w32 b.low = search rules in
    let high : SFits w32 b.high = search rules in
    rw (simp to_z-of_z at c.is_between.ensures, zero_tested z fits)
    (each_turn b.last (between b.low b.high) c.args.kinds.now c.args.numbers.now c.loop-i.i c.loop-i.ok (omega arith) (omega arith) ∙ c.loop-i.invariant)

pub returns : goal.returns
returns c =
    let b = c.args.bounds in
    sym (each_end b.last (between b.low b.high) c.args.kinds.now c.args.numbers.now c.loop-i.i c.loop-i.ok (omega arith)) ∙ c.loop-i.invariant
