-- `tables::decode::places_of` meets its contract. Assumes nothing.
use Rattle.std.proofs.Common.{List, pos, ap, ◌∙◌, get_or, arith, rules}
use lib.ListN.{set}
use mir.Facts.{to_z-of_z}
use mir.Syntax.{w32}
use mir.Val.{SFits}
use Rattle.tuning.specs.State.{places}
use Rattle.tables.proofs.Lists.{filled, filled_none, filled_next, filled_all}
use Rattle.tables.proofs.decode.places_of.Goals as goal

pub loop-i-init : goal.loop-i-init
loop-i-init g c = (c.requires.callable, λ f h. filled_none f c.args.unused places c.args.kinds.now c.args.numbers.now)

pub loop-i-preserved : goal.loop-i-preserved
loop-i-preserved g c =
    let ks = c.args.kinds.now in
    let zs = c.args.numbers.now in
    let i = c.loop-i.i in
    let z : SFits w32 (get_or zs i (pos 0)) = search rules in
    let read = simp to_z-of_z at c.read.ensures in (
      c.loop-i.invariant.0,
      λ f h.
          ap (λ (l : List g.row.T.Denot). set l i c.read.result) (c.loop-i.invariant.1 f h)
          ∙ ap (set (filled f c.args.unused places ks zs i) i) (h _ _ _ read)
          ∙ filled_next f c.args.unused places ks zs i (omega arith) (omega arith) (omega arith),
    )

pub returns : goal.returns
returns g c = λ f h. c.loop-i.invariant.1 f h ∙ filled_all f c.args.unused places c.args.kinds.now c.args.numbers.now c.loop-i.i (omega arith) (omega arith)
