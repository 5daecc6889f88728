-- By the item; one that is no key names nothing.
use borrow.Enum.Refused.{opened}
use mathlib.Core.Path.{sym, ap}
use Rattle.harmonies.specs.Harmonies.{naming_all}
use Rattle.filling.proofs.Inside.{inside, no_key}
use Rattle.filling.proofs.harmony.name_item.Goals as goal

pub name_key-requires : goal.name_key-requires
name_key-requires c = (rw c.in-Key.is at c.requires).0

pub name_key-requires-in-StarredKey : goal.name_key-requires-in-StarredKey
name_key-requires-in-StarredKey c = (rw c.in-StarredKey.is at c.requires).0

pub returns-in-Key : goal.returns-in-Key
returns-in-Key c = rw c.in-Key.is c.name_key.ensures

pub returns-in-StarredKey : goal.returns-in-StarredKey
returns-in-StarredKey c = rw c.in-StarredKey.is c.name_key-in-StarredKey.ensures

pub returns-in_default : goal.returns-in_default
returns-in_default c = ap (naming_all c.args.harmony) (sym (no_key (inside c.args.item) (opened c.in_default.in_default-own.keys3)))
