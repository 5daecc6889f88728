-- The invariant: the sum so far, with that of the terms that are left, is the whole (`Adding`).
use Prim.Native.Nat.{◌+◌}
use borrow.Author.Rules.{rules}
use lib.IntN.{◌+ℤ◌}
use mir.Facts.{to_z-of_z}
use mir.Syntax.{w64}
use mir.Val.{SFits, to_z, of_z}
use Rattle.filling.proofs.Terms.{Adding, adding_none, adding_now, adding_next, adding_all, adding_fits}
use Rattle.filling.proofs.sums.sum_terms.Goals as goal

-- the sum with the present item's term
more : (c : goal.After-weigh-sum) → Adding c.args.values.now c.args.items.now (c.loop-item.item-index + 1) (to_z w64 c.loop-item.sum-bits +ℤ to_z w64 (of_z w64 c.weigh-sum.result))
more c =
    let f : SFits w64 c.weigh-sum.result = search rules in
    rw (to_z-of_z f, c.weigh-sum.ensures) (adding_next c.loop-item.invariant c.loop-item-test.true _)

pub loop-item-init : goal.loop-item-init
loop-item-init c = adding_none _ _ c.requires

pub weigh-sum-requires : goal.weigh-sum-requires
weigh-sum-requires c = adding_now c.loop-item.invariant c.loop-item-test.true _

pub overflow_add-sum : goal.overflow_add-sum
overflow_add-sum c = adding_fits (more c)

pub loop-item-preserved : goal.loop-item-preserved
loop-item-preserved c = rw (to_z-of_z (overflow_add-sum c)) (more c)

pub returns : goal.returns
returns c = adding_all c.loop-item.invariant c.loop-item-test.false
