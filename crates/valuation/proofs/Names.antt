-- The parts of a declaration after the names of its placeholders.
-- Assumes nothing.
use mathlib.Core.Path.{◌≡◌, refl}
use mathlib.Core.Bool.{Bool, true, false}
use mathlib.Core.List.{List, [], ◌∷◌}
use native.Mathlib.Numerals.{one-add}
use lib.ListN.{drop}
use Rattle.std.specs.List.{prefix_len}
use Rattle.grammar.specs.declared.Item.{Item}
use Rattle.grammar.specs.declared.Item.TheVariants as item
use Rattle.program.specs.Program.{unnamed}

-- whether an item names a placeholder
abbrev pub is_name : Item → Bool
is_name (item.Declared a b) = false
is_name (item.Ratio a b) = false
is_name (item.Root a b) = false
is_name (item.Add a b) = false
is_name (item.Subtract a b) = false
is_name (item.Frequency a) = false
is_name (item.Base a) = false
is_name (item.AnchorKey a) = false
is_name item.MutedPosition = false
is_name item.KeptPosition = false
is_name (item.TonePosition a) = false
is_name item.AnchorKept = false
is_name (item.Amount a b) = false
is_name item.WidthKept = false
is_name item.Period = false
is_name item.Onward = false
is_name (item.Letter a) = false
is_name (item.Start a b) = false
is_name (item.Order a b) = false
is_name (item.Trigger a) = false
is_name (item.Key a) = false
is_name (item.StarredKey a) = false
is_name (item.AmountName a b) = false
is_name (item.Argument a) = false
is_name (item.Placeholder a) = true

pub names_dropped : (is : List Item) → drop (prefix_len is_name is) is ≡ unnamed is
names_dropped [] = refl
names_dropped (item.Placeholder a ∷ is) = rw one-add (names_dropped is)
names_dropped (item.Declared a b ∷ is) = refl
names_dropped (item.Ratio a b ∷ is) = refl
names_dropped (item.Root a b ∷ is) = refl
names_dropped (item.Add a b ∷ is) = refl
names_dropped (item.Subtract a b ∷ is) = refl
names_dropped (item.Frequency a ∷ is) = refl
names_dropped (item.Base a ∷ is) = refl
names_dropped (item.AnchorKey a ∷ is) = refl
names_dropped (item.MutedPosition ∷ is) = refl
names_dropped (item.KeptPosition ∷ is) = refl
names_dropped (item.TonePosition a ∷ is) = refl
names_dropped (item.AnchorKept ∷ is) = refl
names_dropped (item.Amount a b ∷ is) = refl
names_dropped (item.WidthKept ∷ is) = refl
names_dropped (item.Period ∷ is) = refl
names_dropped (item.Onward ∷ is) = refl
names_dropped (item.Letter a ∷ is) = refl
names_dropped (item.Start a b ∷ is) = refl
names_dropped (item.Order a b ∷ is) = refl
names_dropped (item.Trigger a ∷ is) = refl
names_dropped (item.Key a ∷ is) = refl
names_dropped (item.StarredKey a ∷ is) = refl
names_dropped (item.AmountName a b ∷ is) = refl
names_dropped (item.Argument a ∷ is) = refl
