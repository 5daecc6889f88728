-- What the contracts of private functions and of those who call cite: no part of the rules.
use Rattle.std.specs.Prelude.{◌≡◌, true, false, List, [], ◌∷◌, ℕ, suc, ◌≤◌, eqb, length, get_or, take, drop, Option, Some, None, Result, IfOk}
use Rattle.symbols.specs.Names.{name_at}
use Rattle.status.specs.declared.Refusal.{Refusal}
use Rattle.grammar.specs.declared.Item.{Item}
use Rattle.grammar.specs.Items.{most_items, holding}
use Rattle.names.specs.Inner.{beginnings}
use Rattle.status.specs.Reasons.{Tells}
use Rattle.placeholders.specs.declared.Seen.TheVariants.{Other, Declares, Names, Wants, Calls, Hands}
use Rattle.placeholders.specs.declared.Settled.{Settled}
use Rattle.placeholders.specs.declared.writing.WrittenCall.{WrittenCall}
use Rattle.placeholders.specs.Placeholders.{seen, named, handed, is_among, fault_of}
use Rattle.placeholders.specs.Filling.{wanted_by, written_for, filled_in, settled}

-- ---- what the functions read

-- all placeholders' names among items
unfoldable pub names_in : List Item → List ℕ
names_in [] = []
names_in (i ∷ is) = elim (seen i) [ Names p ↦ p ∷ names_in is | Other ↦ names_in is | Declares ↦ names_in is | Wants f p ↦ names_in is | Calls q k ↦ names_in is | Hands n ↦ names_in is ]

-- the items after a name, where declarations begin at bs
abbrev pub after_by : List ℕ → List Item → ℕ → List Item
after_by bs is k = drop (suc (get_or bs k 0)) is

abbrev pub takes_by : List ℕ → List Item → ℕ → ℕ
takes_by bs is k = length (named (after_by bs is k))

-- what is wrong with the first of some items
abbrev pub fault_here : List ℕ → (ℕ → ℕ) → List ℕ → List Item → Option ℕ
fault_here text takes before [] = None
fault_here text takes before (i ∷ is) =
    elim (seen i) [
      | Other ↦ None
      | Declares ↦ None
      | Names p ↦ elim (is_among text before (name_at text p)) [ true ↦ Some p | false ↦ None ]
      | Wants f p ↦ elim (is_among text before (name_at text p)) [ true ↦ None | false ↦ Some p ]
      | Calls q k ↦ elim (eqb (length (handed is)) (takes k)) [ true ↦ None | false ↦ Some q ]
      | Hands n ↦ None
    ]

-- what is written in for the first of some items
abbrev pub wanted_at : List ℕ → List ℕ → List Item → List Item → Option WrittenCall
wanted_at text bs all [] = None
wanted_at text bs all (i ∷ is) =
    elim (seen i) [
      | Calls q k ↦ elim (wanted_by (after_by bs all k)) [
        | None ↦ None
        | Some w ↦ Some (record { place = q; form = w.form; number = written_for text (after_by bs all k) (handed is) w.name })
      ]
      | Other ↦ None
      | Declares ↦ None
      | Names p ↦ None
      | Wants f p ↦ None
      | Hands n ↦ None
    ]

-- ---- what the passes are lent, and what they leave

-- the declarations of the items begin where `starts` says
pub record Begun (is : List Item) (starts : List ℕ) (n : ℕ) : Type 0 where
  pub within : n ≤ length starts
  pub begun : take n starts ≡ beginnings is

-- there is room for what is written in
pub record Roomy (text : List ℕ) (is : List Item) (starts : List ℕ) : Type 0 where
  pub fits_items : length (filled_in text is) ≤ most_items
  pub fits_starts : length (beginnings (filled_in text is)) ≤ length starts

-- the calls are written in
pub record Fills (text : List ℕ) (is items : List Item) (r : Settled) (items' : List Item) (starts' : List ℕ) : Type 0 where
  pub count : r.items ≡ length (filled_in text is)
  pub left : items' ≡ holding (filled_in text is) items
  pub begun : Begun (filled_in text is) starts' r.declarations

-- as they were where a name is wrong
abbrev pub left_by : Option ℕ → List Item → List Item → List Item
left_by None is new = new
left_by (Some p) is new = is

pub record Settles (text : List ℕ) (is items : List Item) (r : Result Settled Refusal) (items' : List Item) (starts' : List ℕ) : Type 0 where
  pub told : Tells (settled text is).number (settled text is).place r
  pub count : IfOk r (λ s. s.items ≡ length (left_by (fault_of text is) is (filled_in text is)))
  pub declarations : IfOk r (λ s. s.declarations ≡ length (beginnings (left_by (fault_of text is) is (filled_in text is))))
  pub left : items' ≡ holding (left_by (fault_of text is) is (filled_in text is)) items
  pub begun : Begun (left_by (fault_of text is) is (filled_in text is)) starts' (length (beginnings (left_by (fault_of text is) is (filled_in text is))))
