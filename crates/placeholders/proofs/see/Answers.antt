-- By the item's variant.
use mathlib.Core.Path.{◌≡◌, refl}
use mathlib.Core.List.{List, [], ◌∷◌}
use Prim.Native.Nat.{ℕ}
use types.Run.{OneOf, miss}
use denote.Enum.Declared.{tag_of}
use Rattle.grammar.specs.declared.Item.{Item}
use Rattle.grammar.specs.declared.Item.TheVariants as item
use Rattle.grammar.specs.contracts.Item as variants
use Rattle.placeholders.specs.declared.Seen.TheVariants.{Other}
use Rattle.placeholders.specs.Placeholders.{seen}
use borrow.Enum.Refused.{opened}
use Rattle.placeholders.proofs.see.Goals as goal

others : List ℕ
others = 1 ∷ 2 ∷ 3 ∷ 4 ∷ 5 ∷ 6 ∷ 7 ∷ 8 ∷ 9 ∷ 10 ∷ 11 ∷ 12 ∷ 13 ∷ 14 ∷ 15 ∷ 16 ∷ 19 ∷ 20 ∷ 21 ∷ []

other : (i : Item) → OneOf others (tag_of variants.the_type i) → Other ≡ seen i
unfolding others
other (item.Declared a b) h = absurd (miss others 0 tt h)
other (item.Ratio a b) h = refl
other (item.Root a b) h = refl
other (item.Add a b) h = refl
other (item.Subtract a b) h = refl
other (item.Frequency a) h = refl
other (item.Base a) h = refl
other (item.AnchorKey a) h = refl
other item.MutedPosition h = refl
other item.KeptPosition h = refl
other (item.TonePosition a) h = refl
other item.AnchorKept h = refl
other item.WidthKept h = refl
other (item.Amount a b) h = refl
other item.Period h = refl
other item.Onward h = refl
other (item.Letter a) h = refl
other (item.Start a b) h = absurd (miss others 17 tt h)
other (item.Order a b) h = absurd (miss others 18 tt h)
other (item.Trigger a) h = refl
other (item.Key a) h = refl
other (item.StarredKey a) h = refl
other (item.AmountName a b) h = absurd (miss others 22 tt h)
other (item.Placeholder a) h = absurd (miss others 23 tt h)
other (item.Argument a) h = absurd (miss others 24 tt h)

pub returns-in-Declared : goal.returns-in-Declared
returns-in-Declared c = rw c.in-Declared.is

pub returns-in-Placeholder : goal.returns-in-Placeholder
returns-in-Placeholder c = rw c.in-Placeholder.is

pub returns-in-AmountName : goal.returns-in-AmountName
returns-in-AmountName c = rw c.in-AmountName.is

pub returns-in-Start : goal.returns-in-Start
returns-in-Start c = rw c.in-Start.is

pub returns-in-Order : goal.returns-in-Order
returns-in-Order c = rw c.in-Order.is

pub returns-in-Argument : goal.returns-in-Argument
returns-in-Argument c = rw c.in-Argument.is

pub returns-in_default : goal.returns-in_default
unfolding others
returns-in_default c = other c.args.item (opened c.in_default.in_default-own.keys7)
