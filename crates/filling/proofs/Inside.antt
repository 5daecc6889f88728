-- The items of a declaration's lists, each told by its variant, and what the others leave alone. Assumes nothing.
use mathlib.Core.Path.{◌≡◌, refl, ap}
use mathlib.Core.Bool.{false}
use mathlib.Core.List.{List, [], ◌∷◌}
use Rattle.std.specs.Prelude.{Option, Some, None}
use Prim.Native.Nat.{ℕ}
use native.Mathlib.Omega.{arith}
use lib.Dec.{ltb}
use lib.ListN.{length}
use types.Run.{OneOf, miss}
use denote.Enum.Declared.{tag_of}
use Rattle.grammar.specs.declared.Item.{Item}
use Rattle.grammar.specs.declared.Item.TheVariants as item
use Rattle.grammar.specs.contracts.Item as variants
use Rattle.names.specs.Parts.{part}
use Rattle.values.specs.Values.{Term}
use Rattle.program.specs.Program.{Trigger, by_letter, by_harmony, Order, Ordered, AsListed, unlisted, as_listed, with_term, term_then, with_system_position, system_position_then, with_group, triggered_by, with_order, order_then, with_start, start_then, with_key, key_then}
use Rattle.filling.specs.Inner.{begins, position_by, as_trigger}

-- something is not nothing, and one thing
pub some_or_none : {A : Type 0} {x : A} → Some x ≡ None → ⊥
some_or_none e = let z : ◌≡◌ {A = ℕ} 0 1 = cc in omega arith

pub some_same : {A : Type 0} {x y : A} → Some x ≡ Some y → x ≡ y
some_same e = cc

-- an item that gives nothing to any list
abbrev pub Outside : Item → Type 0
Outside i = as_listed (part i) ≡ unlisted

-- the others, one by one
pub data Inside : Item → Type 0 where
  add : {f n : ℕ} → Inside (item.Add f n)
  subtract : {f n : ℕ} → Inside (item.Subtract f n)
  muted : Inside item.MutedPosition
  kept : Inside item.KeptPosition
  tone : {n : ℕ} → Inside (item.TonePosition n)
  letter : {c : ℕ} → Inside (item.Letter c)
  start : {q n : ℕ} → Inside (item.Start q n)
  order : {q n : ℕ} → Inside (item.Order q n)
  trigger : {n : ℕ} → Inside (item.Trigger n)
  key : {n : ℕ} → Inside (item.Key n)
  starred : {n : ℕ} → Inside (item.StarredKey n)
  outside : {i : Item} → Outside i → Inside i

pub inside : (i : Item) → Inside i
inside (item.Declared a b) = outside refl
inside (item.Ratio a b) = outside refl
inside (item.Root a b) = outside refl
inside (item.Add a b) = add
inside (item.Subtract a b) = subtract
inside (item.Frequency a) = outside refl
inside (item.Base a) = outside refl
inside (item.AnchorKey a) = outside refl
inside item.MutedPosition = muted
inside item.KeptPosition = kept
inside (item.TonePosition a) = tone
inside item.AnchorKept = outside refl
inside (item.Amount a b) = outside refl
inside item.WidthKept = outside refl
inside item.Period = outside refl
inside item.Onward = outside refl
inside (item.Letter a) = letter
inside (item.Start a b) = start
inside (item.Order a b) = order
inside (item.Trigger a) = trigger
inside (item.Key a) = key
inside (item.StarredKey a) = starred
inside (item.AmountName a b) = outside refl
inside (item.Placeholder a) = outside refl
inside (item.Argument a) = outside refl

-- ---- an item that is not one of some variants: where a match falls through

abbrev pub tag : Item → ℕ
tag i = tag_of variants.the_type i

-- the variants but those of terms
abbrev pub no_terms : List ℕ
no_terms = 0 ∷ 1 ∷ 2 ∷ 5 ∷ 6 ∷ 7 ∷ 8 ∷ 9 ∷ 10 ∷ 11 ∷ 12 ∷ 13 ∷ 14 ∷ 15 ∷ 16 ∷ 17 ∷ 18 ∷ 19 ∷ 20 ∷ 21 ∷ 22 ∷ 23 ∷ 24 ∷ []

pub no_term_holds : {i : Item} → Inside i → OneOf no_terms (tag i) → term_then (part i) [] ≡ []
no_term_holds add h = absurd (miss no_terms 3 tt h)
no_term_holds subtract h = absurd (miss no_terms 4 tt h)
no_term_holds muted h = refl
no_term_holds kept h = refl
no_term_holds tone h = refl
no_term_holds letter h = refl
no_term_holds start h = refl
no_term_holds order h = refl
no_term_holds trigger h = refl
no_term_holds key h = refl
no_term_holds starred h = refl
no_term_holds (outside o) h = ap (λ (q : AsListed). with_term q []) o

-- but those of a tone system's positions
abbrev pub no_places : List ℕ
no_places = 0 ∷ 1 ∷ 2 ∷ 3 ∷ 4 ∷ 5 ∷ 6 ∷ 7 ∷ 9 ∷ 11 ∷ 12 ∷ 13 ∷ 14 ∷ 15 ∷ 16 ∷ 17 ∷ 18 ∷ 19 ∷ 20 ∷ 21 ∷ 22 ∷ 23 ∷ 24 ∷ []

pub no_place : {i : Item} → Inside i → OneOf no_places (tag i) → system_position_then (part i) [] ≡ []
no_place add h = refl
no_place subtract h = refl
no_place muted h = absurd (miss no_places 8 tt h)
no_place kept h = refl
no_place tone h = absurd (miss no_places 10 tt h)
no_place letter h = refl
no_place start h = refl
no_place order h = refl
no_place trigger h = refl
no_place key h = refl
no_place starred h = refl
no_place (outside o) h = ap (λ (q : AsListed). with_system_position q []) o

-- but those with which positions of a tones retuning begin
abbrev pub no_positions : List ℕ
no_positions = 0 ∷ 1 ∷ 2 ∷ 3 ∷ 4 ∷ 5 ∷ 6 ∷ 7 ∷ 11 ∷ 12 ∷ 13 ∷ 14 ∷ 15 ∷ 16 ∷ 17 ∷ 18 ∷ 19 ∷ 20 ∷ 21 ∷ 22 ∷ 23 ∷ 24 ∷ []

pub no_position : {i : Item} → Inside i → OneOf no_positions (tag i) → (ts : List Term) → position_by (part i) ts ≡ []
no_position add h ts = refl
no_position subtract h ts = refl
no_position muted h ts = absurd (miss no_positions 8 tt h)
no_position kept h ts = absurd (miss no_positions 9 tt h)
no_position tone h ts = absurd (miss no_positions 10 tt h)
no_position letter h ts = refl
no_position start h ts = refl
no_position order h ts = refl
no_position trigger h ts = refl
no_position key h ts = refl
no_position starred h ts = refl
no_position (outside o) h ts = ap (λ (q : AsListed). (with_group q (record { before = ts; positions = [] })).positions) o

-- but a trigger
abbrev pub no_triggers : List ℕ
no_triggers = 0 ∷ 1 ∷ 2 ∷ 3 ∷ 4 ∷ 5 ∷ 6 ∷ 7 ∷ 8 ∷ 9 ∷ 10 ∷ 11 ∷ 12 ∷ 13 ∷ 14 ∷ 15 ∷ 17 ∷ 18 ∷ 20 ∷ 21 ∷ 22 ∷ 23 ∷ 24 ∷ []

pub no_trigger : {i : Item} → Inside i → OneOf no_triggers (tag i) → as_trigger (as_listed (part i)) ≡ None
no_trigger add h = refl
no_trigger subtract h = refl
no_trigger muted h = refl
no_trigger kept h = refl
no_trigger tone h = refl
no_trigger letter h = absurd (miss no_triggers 16 tt h)
no_trigger start h = refl
no_trigger order h = refl
no_trigger trigger h = absurd (miss no_triggers 19 tt h)
no_trigger key h = refl
no_trigger starred h = refl
no_trigger (outside o) h = ap as_trigger o

-- but what an order calls
-- before a trigger no call waits
trigger_call : (x : Trigger) (called : Option ℕ) (l : List Order) → (triggered_by x called l).call ≡ None
trigger_call x None l = refl
trigger_call x (Some n) l = refl

pub no_call_holds : {i : Item} → Inside i → ((q n : ℕ) → i ≡ item.Order q n → ⊥) → (g : Ordered) → (order_then (part i) g).call ≡ None
no_call_holds add h g = refl
no_call_holds subtract h g = refl
no_call_holds muted h g = refl
no_call_holds kept h g = refl
no_call_holds tone h g = refl
no_call_holds (letter {c}) h g = trigger_call (by_letter c) g.call g.orders
no_call_holds start h g = refl
no_call_holds order h g = absurd (h _ _ refl)
no_call_holds (trigger {n}) h g = trigger_call (by_harmony n) g.call g.orders
no_call_holds key h g = refl
no_call_holds starred h g = refl
no_call_holds (outside o) h g = ap (λ (q : AsListed). (with_order q g).call) o

-- but a start
abbrev pub no_starts : List ℕ
no_starts = 0 ∷ 1 ∷ 2 ∷ 3 ∷ 4 ∷ 5 ∷ 6 ∷ 7 ∷ 8 ∷ 9 ∷ 10 ∷ 11 ∷ 12 ∷ 13 ∷ 14 ∷ 15 ∷ 16 ∷ 18 ∷ 19 ∷ 20 ∷ 21 ∷ 22 ∷ 23 ∷ 24 ∷ []

pub no_start : {i : Item} → Inside i → OneOf no_starts (tag i) → (s : Option ℕ) → start_then (part i) s ≡ s
no_start add h s = refl
no_start subtract h s = refl
no_start muted h s = refl
no_start kept h s = refl
no_start tone h s = refl
no_start letter h s = refl
no_start start h s = absurd (miss no_starts 17 tt h)
no_start order h s = refl
no_start trigger h s = refl
no_start key h s = refl
no_start starred h s = refl
no_start (outside o) h s = ap (λ (q : AsListed). with_start q s) o

-- but a key of a harmony
abbrev pub no_keys : List ℕ
no_keys = 0 ∷ 1 ∷ 2 ∷ 3 ∷ 4 ∷ 5 ∷ 6 ∷ 7 ∷ 8 ∷ 9 ∷ 10 ∷ 11 ∷ 12 ∷ 13 ∷ 14 ∷ 15 ∷ 16 ∷ 17 ∷ 18 ∷ 19 ∷ 22 ∷ 23 ∷ 24 ∷ []

pub no_key : {i : Item} → Inside i → OneOf no_keys (tag i) → key_then (part i) [] ≡ []
no_key add h = refl
no_key subtract h = refl
no_key muted h = refl
no_key kept h = refl
no_key tone h = refl
no_key letter h = refl
no_key start h = refl
no_key order h = refl
no_key trigger h = refl
no_key key h = absurd (miss no_keys 20 tt h)
no_key starred h = absurd (miss no_keys 21 tt h)
no_key (outside o) h = ap (λ (q : AsListed). with_key q []) o

-- ---- one that is none of them begins no position

pub no_begin : (i : Item) → Outside i → begins (part i) ≡ false
no_begin i o = ap (λ (q : AsListed). ltb 0 (length (with_group q (record { before = []; positions = [] })).positions)) o
