-- Items as the code holds them: one after the other in a lent slice, which is longer.
use Rattle.std.specs.Prelude.{List, ◌++◌, ℕ, ◌+◌, ◌*◌, length, drop}
use Rattle.limits.specs.Limits.{most_calls}
use Rattle.grammar.specs.Reading.{most_bytes}
use Rattle.grammar.specs.declared.Form.{Form}
use Rattle.grammar.specs.declared.Form.TheVariants.{AnchorTo, AnchorUp, AnchorDown, WidthTo, WidthUp, WidthDown, WidthTimes, WidthOver}
use Rattle.grammar.specs.declared.Item.{Item}
use Rattle.grammar.specs.declared.Item.TheVariants.{Declared, Ratio, Root, Add, Subtract, Frequency, Base, AnchorKey, MutedPosition, KeptPosition, TonePosition, AnchorKept, WidthKept, Amount, Period, Onward, Letter, Start, Order, Trigger, Key, StarredKey, AmountName, Placeholder, Argument}

-- the number of a form with an n
abbrev pub form_number : Form → ℕ
form_number AnchorTo = 0
form_number AnchorUp = 1
form_number AnchorDown = 2
form_number WidthTo = 3
form_number WidthUp = 4
form_number WidthDown = 5
form_number WidthTimes = 6
form_number WidthOver = 7

-- a slice that begins with the items; the rest keeps what it held
abbrev pub holding : List Item → List Item → List Item
holding is before = is ++ drop (length is) before

-- room for an item at every symbol of the longest text, its end too, and, document 02, 1/13, for two at each call, whose numbers may be written in
abbrev pub most_items : ℕ
most_items = most_bytes + 1 + 2 * most_calls

-- an item that uses a name, with another place for the name's; the others stay as they are
abbrev pub with_place : Item → ℕ → Item
with_place (Add f p) n = Add f n
with_place (Subtract f p) n = Subtract f n
with_place (Base p) n = Base n
with_place (TonePosition p) n = TonePosition n
with_place (Start q p) n = Start q n
with_place (Order q p) n = Order q n
with_place (Trigger p) n = Trigger n
with_place (Declared k p) n = Declared k p
with_place (Ratio p q) n = Ratio p q
with_place (Root a b) n = Root a b
with_place (Frequency f) n = Frequency f
with_place (AnchorKey v) n = AnchorKey v
with_place MutedPosition n = MutedPosition
with_place KeptPosition n = KeptPosition
with_place AnchorKept n = AnchorKept
with_place WidthKept n = WidthKept
with_place (Amount f v) n = Amount f v
with_place Period n = Period
with_place Onward n = Onward
with_place (Letter c) n = Letter c
with_place (Key v) n = Key v
with_place (StarredKey v) n = StarredKey v
with_place (AmountName f p) n = AmountName f p
with_place (Placeholder p) n = Placeholder p
with_place (Argument v) n = Argument v
