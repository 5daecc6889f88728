-- Declared names and their uses: document 01, "Names may be used before they are declared. A name may serve once for each kind",
-- "A called name means the retuning of that name, else the tone system, else (orders only) the logic", and the numbers 5 and 6.
use Rattle.std.specs.Prelude.{true, false, ◌&&◌, List, [], ◌∷◌, ◌++◌, ℕ, suc, eqb, Option, Some, None}
use Rattle.status.specs.Status.{done, name_twice, name_not_declared}
use Rattle.symbols.specs.Bytes.{same}
use Rattle.symbols.specs.Names.{name_at}
use Rattle.grammar.specs.declared.Kind.{Kind}
use Rattle.grammar.specs.declared.Kind.TheVariants.{Interval, Tone, System, Retuning, Logic, Harmony}
use Rattle.grammar.specs.declared.Item.{Item}
use Rattle.grammar.specs.declared.Item.TheVariants as item
use Rattle.grammar.specs.Moves.{kind_number}
use Rattle.names.specs.Parts.{Part, declares, gives, uses, says, part, Use, add, subtract, base, position, start, order, trigger}

-- a declared name: its kind and its place
pub record Named : Type 0 where
  pub kind : Kind
  pub place : ℕ

-- the declared names in the order of the text; a declaration's number is its place in this list
abbrev pub named_by : Part → List Named → List Named
named_by (declares k p) rest = record { kind = k; place = p } ∷ rest
named_by (gives g a b) rest = rest
named_by (uses u a p) rest = rest
named_by (says m) rest = rest

unfoldable pub declared : List Item → List Named
declared [] = []
declared (i ∷ is) = named_by (part i) (declared is)

-- the number of the declaration of a kind and a name, counted from n
unfoldable pub bearer_from : ℕ → List ℕ → List Named → Kind → List ℕ → Option ℕ
bearer_from n text [] k name = None
bearer_from n text (d ∷ ds) k name =
    elim (eqb (kind_number d.kind) (kind_number k) && same (name_at text d.place) name) [
      | true ↦ Some n
      | false ↦ bearer_from (suc n) text ds k name
    ]

abbrev pub bearer_of : List ℕ → List Named → Kind → List ℕ → Option ℕ
bearer_of text ds k name = bearer_from 0 text ds k name

-- ---- 5: "name used twice in a kind; the second"

-- no name is used twice, or the place of one that is
pub data Repeat : Type 0 where
  no_repeat : Repeat
  repeat_at : ℕ → Repeat

-- the first of ds whose name stood before in its kind, `before` being those in front
unfoldable pub twice_from : List ℕ → List Named → List Named → Repeat
twice_from text before [] = no_repeat
twice_from text before (d ∷ ds) =
    elim (bearer_of text before d.kind (name_at text d.place)) [
      | Some n ↦ repeat_at d.place
      | None ↦ twice_from text (before ++ d ∷ []) ds
    ]

-- ---- 6: "name not declared; the use"

-- a name is looked for in one kind, else in the next
unfoldable pub called_in : List ℕ → List Named → List Kind → List ℕ → Option ℕ
called_in text ds [] name = None
called_in text ds (k ∷ ks) name = elim (bearer_of text ds k name) [ Some n ↦ Some n | None ↦ called_in text ds ks name ]

-- the kinds that a use may mean: terms use intervals, tones and positions use tones,
-- "start is a tone system or retuning name", and an order calls a logic as well; document 02, 5/13, of a harmony: "Its bare name is a trigger"
abbrev pub meant : Use → List Kind
meant add = Interval ∷ []
meant subtract = Interval ∷ []
meant base = Tone ∷ []
meant position = Tone ∷ []
meant start = Retuning ∷ System ∷ []
meant order = Retuning ∷ System ∷ Logic ∷ []
meant trigger = Harmony ∷ []

-- an item whose name is a number of a declaration
abbrev pub numbered : Use → ℕ → ℕ → Item
numbered add f n = item.Add f n
numbered subtract f n = item.Subtract f n
numbered base f n = item.Base n
numbered position f n = item.TonePosition n
numbered start q n = item.Start q n
numbered order q n = item.Order q n
numbered trigger f n = item.Trigger n

-- what becomes of the items: each name that is used replaced by the number of its declaration, or the place of the first that is not declared
pub data Resolved : Type 0 where
  all : List Item → Resolved
  missing : ℕ → Resolved

abbrev pub and_then : Item → Resolved → Resolved
and_then i (all is) = all (i ∷ is)
and_then i (missing p) = missing p

abbrev pub if_found : Use → ℕ → ℕ → Option ℕ → Resolved → Resolved
if_found u a p (Some n) rest = and_then (numbered u a n) rest
if_found u a p None rest = missing p

abbrev pub resolved_by : List ℕ → List Named → Item → Part → Resolved → Resolved
resolved_by text ds i (declares k p) rest = and_then i rest
resolved_by text ds i (gives g a b) rest = and_then i rest
resolved_by text ds i (uses u a p) rest = if_found u a p (called_in text ds (meant u) (name_at text p)) rest
resolved_by text ds i (says m) rest = and_then i rest

unfoldable pub resolved : List ℕ → List Named → List Item → Resolved
resolved text ds [] = all []
resolved text ds (i ∷ is) = resolved_by text ds i (part i) (resolved text ds is)

-- ---- "Then the earliest 5, the earliest 6"

-- the number and the place, and the items where the number is 0
pub record Meant : Type 0 where
  pub items : List Item
  pub number : ℕ
  pub place : ℕ

abbrev pub unless_missing : Resolved → Meant
unless_missing (all is) = record { items = is; number = done; place = 0 }
unless_missing (missing p) = record { items = []; number = name_not_declared; place = p }

abbrev pub unless_twice : Repeat → Meant → Meant
unless_twice no_repeat m = m
unless_twice (repeat_at p) m = record { items = []; number = name_twice; place = p }

unfoldable pub meanings : List ℕ → List Item → Meant
meanings text is = unless_twice (twice_from text [] (declared is)) (unless_missing (resolved text (declared is) is))
