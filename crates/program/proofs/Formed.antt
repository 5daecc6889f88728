-- The items of a text that is read to its end, with their shape and their numbers: whole declarations one after the other.
use mathlib.Core.Path.{◌≡◌}
use mathlib.Core.Bool.{false}
use mathlib.Core.List.{List, [], ◌∷◌, ◌++◌}
use Rattle.std.specs.Prelude.{Option, Some, None}
use Prim.Native.Nat.{ℕ, suc, ◌+◌, ◌≤◌}
use lib.Dec.{eqb}
use Rattle.limits.specs.Limits.{most_amount, most_harmony_key, most_harmony_keys, most_placeholders}
use Rattle.sets.specs.Sets.{has, added}
use Rattle.grammar.specs.declared.Kind.{Kind}
use Rattle.grammar.specs.declared.Kind.TheVariants.{Interval, Tone, System, Retuning, Logic, Order as AnOrder, Harmony}
use Rattle.grammar.specs.declared.Form.{Form}
use Rattle.grammar.specs.declared.Item.{Item}
use Rattle.grammar.specs.declared.Item.TheVariants as item
use Rattle.grammar.specs.Moves.{kind_number}
use Rattle.grammar.specs.Reading.{limit, most_terms, most_positions}
use Rattle.names.specs.Parts as parts
use Rattle.names.specs.Parts.{Part, declares, gives, uses, says, part}
use Rattle.names.specs.Names.{Named, declared}
use Rattle.program.specs.Program.{Declaration, AsLogic, no_logic_holds, a_logic as the-logic, as_logic, Program}
use Rattle.program.specs.Allowed.{Decimal, Degree, Letter, if_kind}

-- at most n terms
pub data TermItems : ℕ → List Item → Type 0 where
  no_term_holds : {n : ℕ} → TermItems n []
  add_term : {n f q : ℕ} {is : List Item} → f ≤ 999 → TermItems n is → TermItems (suc n) (item.Add f q ∷ is)
  subtract_term : {n f q : ℕ} {is : List Item} → f ≤ 999 → TermItems n is → TermItems (suc n) (item.Subtract f q ∷ is)

-- at most n positions of a tone system
pub data PlaceItems : ℕ → List Item → Type 0 where
  no_place : {n : ℕ} → PlaceItems n []
  muted_place : {n : ℕ} {is : List Item} → PlaceItems n is → PlaceItems (suc n) (item.MutedPosition ∷ is)
  tone_place : {n q : ℕ} {is : List Item} → PlaceItems n is → PlaceItems (suc n) (item.TonePosition q ∷ is)

-- at most n positions of a tones retuning
pub data PositionItems : ℕ → List Item → Type 0 where
  no_position : {n : ℕ} → PositionItems n []
  muted_position : {n : ℕ} {is : List Item} → PositionItems n is → PositionItems (suc n) (item.MutedPosition ∷ is)
  kept_position : {n : ℕ} {ts is : List Item} → TermItems most_terms ts → PositionItems n is → PositionItems (suc n) (item.KeptPosition ∷ ts ++ is)
  tone_position : {n q : ℕ} {ts is : List Item} → TermItems most_terms ts → PositionItems n is → PositionItems (suc n) (item.TonePosition q ∷ ts ++ is)

-- at most n names of placeholders, and at most n numbers that a call gives
pub data NameItems : ℕ → List Item → Type 0 where
  no_name_case : {n : ℕ} → NameItems n []
  a_name : {n q : ℕ} {is : List Item} → NameItems n is → NameItems (suc n) (item.Placeholder q ∷ is)

pub data NumberItems : ℕ → List Item → Type 0 where
  no_number_case : {n : ℕ} → NumberItems n []
  a_number : {n v : ℕ} {is : List Item} → v ≤ most_amount → NumberItems n is → NumberItems (suc n) (item.Argument v ∷ is)

pub data StartItems : List Item → Type 0 where
  no_start : StartItems []
  a_start : {q k : ℕ} {ns : List Item} → NumberItems most_placeholders ns → StartItems (item.Start q k ∷ ns)

pub data TriggerItem : Item → Type 0 where
  by_letter_case : {c : ℕ} → Letter c → TriggerItem (item.Letter c)
  by_harmony_case : {q : ℕ} → TriggerItem (item.Trigger q)

pub data OrderItems : List Item → Type 0 where
  no_order_holds : OrderItems []
  an_order : {i : Item} {q k : ℕ} {ns is : List Item} → TriggerItem i → NumberItems most_placeholders ns → OrderItems is
      → OrderItems (i ∷ item.Order q k ∷ ns ++ is)

-- at most n keys of a harmony, none of them in a set, nor named twice
pub data KeyItems : ℕ → ℕ → List Item → Type 0 where
  no_key : {set n : ℕ} → KeyItems set n []
  plain_key : {set n v : ℕ} {is : List Item} → v ≤ most_harmony_key → has set v ≡ false → KeyItems (added set v) n is → KeyItems set (suc n) (item.Key v ∷ is)
  starred_key_case : {set n v : ℕ} {is : List Item} → v ≤ most_harmony_key → has set v ≡ false → KeyItems (added set v) n is
      → KeyItems set (suc n) (item.StarredKey v ∷ is)

-- something stands there
pub data NotEmpty : List Item → Type 0 where
  something : {i : Item} {is : List Item} → NotEmpty (i ∷ is)

-- what stands after a declared name of a kind
pub data Body : Kind → List Item → Type 0 where
  a_ratio : {p q : ℕ} → Decimal p → Decimal q → Body Interval (item.Ratio p q ∷ [])
  a_root : {a b : ℕ} → Degree a → Decimal b → Body Interval (item.Root a b ∷ [])
  a_sequence : {is : List Item} → TermItems most_terms is → Body Interval is
  a_frequency : {f : ℕ} → Decimal f → Body Tone (item.Frequency f ∷ [])
  from_tone : {q : ℕ} {is : List Item} → TermItems most_terms is → Body Tone (item.Base q ∷ is)
  a_system : {a : ℕ} {ps is : List Item} → a ≤ 127 → PlaceItems most_positions ps → NotEmpty ps → TermItems most_terms is → Body System (item.AnchorKey a ∷ ps ++ is)
  anchor_kept_case : Body Retuning (item.AnchorKept ∷ [])
  width_kept_case : Body Retuning (item.WidthKept ∷ [])
  an_amount : {f : Form} {n : ℕ} → n ≤ most_amount → Body Retuning (item.Amount f n ∷ [])
  an_amount_name : {f : Form} {q : ℕ} → Body Retuning (item.AmountName f q ∷ [])
  fresh_period_case : {is : List Item} → TermItems most_terms is → Body Retuning (item.Period ∷ is)
  onward_period_case : {is : List Item} → TermItems most_terms is → Body Retuning (item.Period ∷ item.Onward ∷ is)
  a_tones : {is : List Item} → PositionItems most_positions is → NotEmpty is → Body Retuning is
  after_names : {ns is : List Item} → NameItems most_placeholders ns → Body Retuning is → Body Retuning (ns ++ is)
  a_logic : {i : Item} {ss os : List Item} → TriggerItem i → StartItems ss → OrderItems os → Body Logic (i ∷ ss ++ os)
  a_harmony : {is : List Item} → KeyItems 0 most_harmony_keys is → NotEmpty is → Body Harmony is

pub data Formed : List Item → Type 0 where
  no_more : Formed []
  declaration : {k : Kind} {p : ℕ} {body rest : List Item} → Body k body → Formed rest → Formed (item.Declared k p ∷ body ++ rest)

-- how many declared names of a kind there are
unfoldable pub names_of : Kind → List Named → ℕ
names_of k [] = 0
names_of k (d ∷ ds) = if_kind (eqb (kind_number d.kind) (kind_number k)) (names_of k ds)

-- how many orders there are
abbrev pub order_part : Part → ℕ → ℕ
order_part (declares k p) n = n
order_part (gives g a b) n = n
order_part (says m) n = n
order_part (uses parts.add f q) n = n
order_part (uses parts.subtract f q) n = n
order_part (uses parts.base f q) n = n
order_part (uses parts.position f q) n = n
order_part (uses parts.start f q) n = n
order_part (uses parts.order f q) n = suc n
order_part (uses parts.trigger f q) n = n

unfoldable pub order_items : List Item → ℕ
order_items [] = 0
order_items (i ∷ is) = order_part (part i) (order_items is)

-- and how many starts
abbrev pub start_part : Part → ℕ → ℕ
start_part (declares k p) n = n
start_part (gives g a b) n = n
start_part (says m) n = n
start_part (uses parts.add f q) n = n
start_part (uses parts.subtract f q) n = n
start_part (uses parts.base f q) n = n
start_part (uses parts.position f q) n = n
start_part (uses parts.start f q) n = suc n
start_part (uses parts.order f q) n = n
start_part (uses parts.trigger f q) n = n

unfoldable pub start_items : List Item → ℕ
start_items [] = 0
start_items (i ∷ is) = start_part (part i) (start_items is)

-- of a declaration, and of all of them
abbrev pub some_start : Option ℕ → ℕ
some_start None = 0
some_start (Some k) = 1

abbrev pub starts_by : AsLogic → ℕ
starts_by no_logic_holds = 0
starts_by (the-logic c s os) = some_start s

abbrev pub start_count : Declaration → ℕ
start_count d = starts_by (as_logic d)

unfoldable pub starts_in : Program → ℕ
starts_in [] = 0
starts_in (d ∷ ds) = start_count d.is + starts_in ds

pub record FormedText (is : List Item) : Type 0 where
  pub formed : Formed is
  pub few : (k : Kind) → names_of k (declared is) ≤ limit k
  pub orders : order_items is ≤ limit AnOrder
