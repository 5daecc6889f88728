-- Retunings with placeholders: document 02, 1/13. "one to four placeholder names in brackets after any retuning's name, parted by commas, usable where n stands
-- in anchor and width retunings, and calls from orders and logic starts giving as many whole numbers"; and the number 24.
use Rattle.std.specs.Prelude.{Bool, true, false, List, [], ◌∷◌, ◌++◌, ℕ, suc, eqb, length, get_or, drop, Option, Some, None}
use Rattle.symbols.specs.Bytes.{same}
use Rattle.symbols.specs.Names.{name_at}
use Rattle.grammar.specs.declared.Item.{Item}
use Rattle.grammar.specs.declared.Item.TheVariants as item
use Rattle.names.specs.Inner.{beginnings}
use Rattle.placeholders.specs.declared.Seen.{Seen}
use Rattle.placeholders.specs.declared.Seen.TheVariants.{Other, Declares, Names, Wants, Calls, Hands}

-- an item as placeholders see it: a declared name; a placeholder's name in the brackets; one that stands for n; a call, by the place of the called name and
-- the number of the declaration; a number that a call gives; or none of these
abbrev pub seen : Item → Seen
seen (item.Declared k p) = Declares
seen (item.Placeholder p) = Names p
seen (item.AmountName f p) = Wants f p
seen (item.Start q k) = Calls q k
seen (item.Order q k) = Calls q k
seen (item.Argument n) = Hands n
seen (item.Ratio p q) = Other
seen (item.Root a b) = Other
seen (item.Add f p) = Other
seen (item.Subtract f p) = Other
seen (item.Frequency f) = Other
seen (item.Base p) = Other
seen (item.AnchorKey n) = Other
seen item.MutedPosition = Other
seen item.KeptPosition = Other
seen (item.TonePosition p) = Other
seen item.AnchorKept = Other
seen item.WidthKept = Other
seen (item.Amount f n) = Other
seen item.Period = Other
seen item.Onward = Other
seen (item.Letter c) = Other
seen (item.Trigger p) = Other
seen (item.Key v) = Other
seen (item.StarredKey v) = Other

-- ---- brackets

-- the items after the name of declaration k
abbrev pub after : List Item → ℕ → List Item
after is k = drop (suc (get_or (beginnings is) k 0)) is

-- the placeholders that the brackets after a retuning's name name, by the places of their names
unfoldable pub named : List Item → List ℕ
named [] = []
named (i ∷ is) = elim (seen i) [ Names p ↦ p ∷ named is | Other ↦ [] | Declares ↦ [] | Wants f p ↦ [] | Calls q k ↦ [] | Hands n ↦ [] ]

-- the numbers that the brackets after a called name give
unfoldable pub handed : List Item → List ℕ
handed [] = []
handed (i ∷ is) = elim (seen i) [ Hands n ↦ n ∷ handed is | Other ↦ [] | Declares ↦ [] | Names p ↦ [] | Wants f p ↦ [] | Calls q k ↦ [] ]

-- ---- 24: "for a placeholder not named (without brackets none is), named twice, or a wrong count in a call, at that name, if twice the second, for a count
-- the called one"

-- a name is that of one of the places
unfoldable pub is_among : List ℕ → List ℕ → List ℕ → Bool
is_among text [] name = false
is_among text (p ∷ ps) name = elim (same (name_at text p) name) [ true ↦ true | false ↦ is_among text ps name ]

-- how many numbers a call of declaration k is to give: "as many" as it names placeholders; a tone system, a logic and a retuning without brackets name none
abbrev pub takes : List Item → ℕ → ℕ
takes all k = length (named (after all k))

-- the first fault of the items of a text, `before` being the placeholders that the declaration under way has named so far
unfoldable pub fault_from : List ℕ → (ℕ → ℕ) → List ℕ → List Item → Option ℕ
fault_from text takes before [] = None
fault_from text takes before (i ∷ is) =
    elim (seen i) [
      | Other ↦ fault_from text takes before is
      | Declares ↦ fault_from text takes [] is
      | Names p ↦ elim (is_among text before (name_at text p)) [ true ↦ Some p | false ↦ fault_from text takes (before ++ p ∷ []) is ]
      | Wants f p ↦ elim (is_among text before (name_at text p)) [ true ↦ fault_from text takes before is | false ↦ Some p ]
      | Calls q k ↦ elim (eqb (length (handed is)) (takes k)) [ true ↦ fault_from text takes before is | false ↦ Some q ]
      | Hands n ↦ fault_from text takes before is
    ]

abbrev pub fault_of : List ℕ → List Item → Option ℕ
fault_of text is = fault_from text (takes is) [] is
