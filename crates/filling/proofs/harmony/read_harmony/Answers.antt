-- The invariant: the harmony of the keys so far, with those that are left, is the whole (`Naming`).
use Rattle.filling.proofs.Naming.{naming_none, naming_now, naming_next, naming_all_step}
use Rattle.filling.proofs.harmony.read_harmony.Goals as goal

pub loop-item-init : goal.loop-item-init
loop-item-init c = naming_none _ c.requires

pub name_item-harmony-requires : goal.name_item-harmony-requires
name_item-harmony-requires c = naming_now c.loop-item.invariant c.loop-item-test.true _

pub loop-item-preserved : goal.loop-item-preserved
loop-item-preserved c = naming_next c.loop-item.invariant c.loop-item-test.true _ c.name_item-harmony.ensures

pub returns : goal.returns
returns c = naming_all_step c.loop-item.invariant c.loop-item-test.false
