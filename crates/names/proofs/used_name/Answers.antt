-- An item that uses a name is told by its variant; every other one uses none.
use mathlib.Core.Path.{◌≡◌, refl}
use mathlib.Core.List.{List, [], ◌∷◌}
use Prim.Native.Nat.{ℕ}
use types.Run.{OneOf, miss}
use borrow.Enum.Refused.{opened}
use denote.Enum.Declared.{tag_of}
use Rattle.grammar.specs.declared.Item.{Item}
use Rattle.grammar.specs.declared.Item.TheVariants as item
use Rattle.grammar.specs.contracts.Item as variants
use Rattle.std.specs.Prelude.{None}
use Rattle.names.specs.Parts.{part}
use Rattle.names.specs.Inner.{used_name}
use Rattle.names.proofs.used_name.Goals as goal

nameless : List ℕ
nameless = 0 ∷ 1 ∷ 2 ∷ 5 ∷ 7 ∷ 8 ∷ 9 ∷ 11 ∷ 12 ∷ 13 ∷ 14 ∷ 15 ∷ 16 ∷ 20 ∷ 21 ∷ 22 ∷ 23 ∷ 24 ∷ []

without : (i : Item) → OneOf nameless (tag_of variants.the_type i) → None ≡ used_name (part i)
unfolding nameless
without (item.Declared a b) h = refl
without (item.Ratio a b) h = refl
without (item.Root a b) h = refl
without (item.Add a b) h = absurd (miss nameless 3 tt h)
without (item.Subtract a b) h = absurd (miss nameless 4 tt h)
without (item.Frequency a) h = refl
without (item.Base a) h = absurd (miss nameless 6 tt h)
without (item.AnchorKey a) h = refl
without item.MutedPosition h = refl
without item.KeptPosition h = refl
without (item.TonePosition a) h = absurd (miss nameless 10 tt h)
without item.AnchorKept h = refl
without (item.Amount a b) h = refl
without item.WidthKept h = refl
without item.Period h = refl
without item.Onward h = refl
without (item.Letter a) h = refl
without (item.Start a b) h = absurd (miss nameless 17 tt h)
without (item.Order a b) h = absurd (miss nameless 18 tt h)
without (item.Trigger a) h = absurd (miss nameless 19 tt h)
without (item.Key a) h = refl
without (item.StarredKey a) h = refl
without (item.AmountName a b) h = refl
without (item.Placeholder a) h = refl
without (item.Argument a) h = refl

pub returns-in-Add : goal.returns-in-Add
returns-in-Add c = rw c.in-Add.is

pub returns-in-Subtract : goal.returns-in-Subtract
returns-in-Subtract c = rw c.in-Subtract.is

pub returns-in-Base : goal.returns-in-Base
returns-in-Base c = rw c.in-Base.is

pub returns-in-TonePosition : goal.returns-in-TonePosition
returns-in-TonePosition c = rw c.in-TonePosition.is

pub returns-in-Start : goal.returns-in-Start
returns-in-Start c = rw c.in-Start.is

pub returns-in-Order : goal.returns-in-Order
returns-in-Order c = rw c.in-Order.is

pub returns-in-Trigger : goal.returns-in-Trigger
returns-in-Trigger c = rw c.in-Trigger.is

pub returns-in_default : goal.returns-in_default
unfolding nameless
returns-in_default c = without c.args.item (opened c.in_default.in_default-own.keys8)
