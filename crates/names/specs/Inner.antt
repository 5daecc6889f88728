-- What the passes over the items keep, and what they leave: for the contracts of functions.
use Rattle.std.specs.Prelude.{◌≡◌, true, false, List, [], ◌∷◌, ◌++◌, map, ℕ, zero, suc, ◌+◌, ◌*◌, ◌/◌, ◌%◌, ◌≤◌, ◌<◌, eqb, length, get_or, take, drop, Option, Some, None, Result, Ok, Err}
use Rattle.symbols.specs.Names.{name_at}
use Rattle.grammar.specs.declared.Kind.{Kind}
use Rattle.grammar.specs.declared.Kind.TheVariants.{Order as AnOrder}
use Rattle.grammar.specs.declared.Item.{Item}
use Rattle.grammar.specs.declared.Stopped.{Stopped}
use Rattle.grammar.specs.Moves.{kinds, kind_number}
pub use Rattle.limits.specs.Limits.{most_bytes, most_declarations}
use Rattle.status.specs.declared.Refusal.{Refusal}
use Rattle.status.specs.Reasons.{Tells}
use Rattle.status.specs.Status.{done, name_twice}
use Rattle.names.specs.declared.Scope.{Scope}
use Rattle.names.specs.declared.Scope.TheVariants.{Intervals, Tones, Starts, Orders, Harmonies}
use Rattle.names.specs.Parts.{Part, declares, gives, uses, says, part, Use, add, subtract, base, position, start, order, trigger}
use Rattle.names.specs.Names.{Named, declared, bearer_of, called_in, meant, numbered, Repeat, no_repeat, repeat_at, twice_from, resolved, unless_missing, meanings}

-- ---- what an item does with a name

abbrev pub scope : Use → Scope
scope add = Intervals
scope subtract = Intervals
scope base = Tones
scope position = Tones
scope start = Starts
scope order = Orders
scope trigger = Harmonies

-- the use of a name: its scope and the name's place
abbrev pub used_name : Part → Option (Scope × ℕ)
used_name (declares k p) = None
used_name (gives g a b) = None
used_name (uses u a p) = Some (scope u, p)
used_name (says m) = None

-- the kinds that are meant, in their order
abbrev pub kinds_in : Scope → List Kind
kinds_in Intervals = meant add
kinds_in Tones = meant base
kinds_in Starts = meant start
kinds_in Orders = meant order
kinds_in Harmonies = meant trigger

-- ---- a declared name as one number: its place, with room below it for a mark, which is a tag of its name and its kind's number

abbrev pub kind_room : ℕ
kind_room = 8

abbrev pub tag_room : ℕ
tag_room = 4096

abbrev pub tag_factor : ℕ
tag_factor = 31

abbrev pub mark_room : ℕ
mark_room = tag_room * kind_room

-- a number below `tag_room` by which most names are told apart, counted on from t
unfoldable pub tag_from : ℕ → List ℕ → ℕ
tag_from t [] = t
tag_from t (b ∷ name) = tag_from ((t * tag_factor + b) % tag_room) name

abbrev pub tag_of : List ℕ → ℕ
tag_of name = tag_from 0 name

abbrev pub mark_of : Kind → List ℕ → ℕ
mark_of k name = tag_of name * kind_room + kind_number k

abbrev pub packed : List ℕ → Named → ℕ
packed text d = d.place * mark_room + mark_of d.kind (name_at text d.place)

-- and back (`named_packed` of proofs/Marks.antt)
abbrev pub unpacked : ℕ → Named
unpacked x = record { kind = get_or kinds (x % kind_room) AnOrder; place = x / mark_room }

abbrev pub named_of : List ℕ → List Named
named_of xs = map unpacked xs

-- numbers of declarations of this text, no two of the same kind and name
pub record Kept (text l : List ℕ) : Type 0 where
  pub of_text : map (packed text) (named_of l) ≡ l
  pub once : twice_from text [] (named_of l) ≡ no_repeat

-- ---- buckets of declarations, by which one is found

abbrev pub buckets : ℕ
buckets = 1024

-- the bucket of a number that is kept, which is that of its mark
abbrev pub bucket_of : ℕ → ℕ
bucket_of kept = kept % buckets

-- one more than the last row below n that is in bucket b, or 0
unfoldable pub last_in : List ℕ → ℕ → ℕ → ℕ
last_in l b zero = 0
last_in l b (suc n) = elim (eqb (bucket_of (get_or l n 0)) b) [ true ↦ suc n | false ↦ last_in l b n ]

-- ---- what the first pass leaves

-- the indexes of the items that declare a name, counted from i
abbrev pub beginning_by : ℕ → Part → List ℕ → List ℕ
beginning_by i (declares k p) rest = i ∷ rest
beginning_by i (gives g a b) rest = rest
beginning_by i (uses u a p) rest = rest
beginning_by i (says m) rest = rest

unfoldable pub beginnings_from : ℕ → List Item → List ℕ
beginnings_from i [] = []
beginnings_from i (x ∷ xs) = beginning_by i (part x) (beginnings_from (suc i) xs)

abbrev pub beginnings : List Item → List ℕ
beginnings is = beginnings_from 0 is

-- how many of ds stand before the first whose name stood before in its kind, `before` being those in front
unfoldable pub distinct_from : List ℕ → List Named → List Named → ℕ
distinct_from text before [] = 0
distinct_from text before (d ∷ ds) =
    elim (bearer_of text before d.kind (name_at text d.place)) [
      | Some n ↦ 0
      | None ↦ suc (distinct_from text (before ++ d ∷ []) ds)
    ]

-- how many declarations are kept: all, where no name stands twice (`accepted` of proofs/Meanings.antt)
abbrev pub distinct : List ℕ → List Item → ℕ
distinct text is = distinct_from text [] (declared is)

-- the first n of a list, and then what stood there before
abbrev pub begun_with : {A : Type 0} → ℕ → List A → List A → List A
begun_with n xs before = take n xs ++ drop n before

-- ---- what the second pass leaves

-- the items, with the names that are used in front of the first that is not declared replaced by numbers
abbrev pub if_called : Use → ℕ → Option ℕ → Item → List Item → List Item → List Item
if_called u a (Some n) i is rest = numbered u a n ∷ rest
if_called u a None i is rest = i ∷ is

abbrev pub rewritten_by : List ℕ → List Named → Part → Item → List Item → List Item → List Item
rewritten_by text ds (declares k p) i is rest = i ∷ rest
rewritten_by text ds (gives g a b) i is rest = i ∷ rest
rewritten_by text ds (uses u a p) i is rest = if_called u a (called_in text ds (meant u) (name_at text p)) i is rest
rewritten_by text ds (says m) i is rest = i ∷ rest

unfoldable pub rewritten : List ℕ → List Named → List Item → List Item
rewritten text ds [] = []
rewritten text ds (i ∷ is) = rewritten_by text ds (part i) i is (rewritten text ds is)

-- the items after both passes: as they were where a name is used twice in a kind, those of `meanings` where the number is 0 (`accepted`)
abbrev pub unless_twice_rewritten : Repeat → List Item → List Item → List Item
unless_twice_rewritten no_repeat is new = new
unless_twice_rewritten (repeat_at p) is new = is

abbrev pub left_items : List ℕ → List Item → List Item
left_items text is = unless_twice_rewritten (twice_from text [] (declared is)) is (rewritten text (declared is) is)

-- ---- what the passes are lent

-- chains of the declarations l: where that of each bucket begins, and where it goes on from each row
pub record Chained (l heads links : List ℕ) : Type 0 where
  pub heads_size : length heads ≡ buckets
  pub links_size : length links ≡ most_declarations
  pub few : length l ≤ most_declarations
  pub head : (b : ℕ) → b < buckets → get_or heads b 0 ≡ last_in l b (length l)
  pub link : (i : ℕ) → i < length l → get_or links i 0 ≡ last_in l (bucket_of (get_or l i 0)) i

-- each name stands at a place of a text
abbrev pub InText : List Named → Type 0
InText [] = Unit
InText (d ∷ ds) = (d.place ≤ most_bytes) × InText ds

-- the declared names are no more than a text may have, and stand in it
pub record Declarable (is : List Item) : Type 0 where
  pub few : length (declared is) ≤ most_declarations
  pub in_text : InText (declared is)

-- room for a number for each declaration
pub record Room (kept begun : List ℕ) : Type 0 where
  pub names : most_declarations ≤ length kept
  pub starts : most_declarations ≤ length begun

-- ---- what each pass does

-- the number and the place of a refusal, or 0 and 0
abbrev pub number_if : ℕ → Repeat → ℕ
number_if number no_repeat = done
number_if number (repeat_at p) = number

abbrev pub place_if : Repeat → ℕ
place_if no_repeat = 0
place_if (repeat_at p) = p

-- why a pass stops, without what it keeps
abbrev pub without_count : Result ℕ Stopped → Result ℕ Refusal
without_count (Ok n) = Ok n
without_count (Err e) = Err e.refusal

-- how many declarations are kept, on a refusal too
abbrev pub kept_count : Result ℕ Stopped → ℕ
kept_count (Ok n) = n
kept_count (Err e) = e.count

-- the first pass: names used twice in a kind; `names` and `starts` before and after it
pub record FirstPass (text : List ℕ) (is : List Item) (names starts : List ℕ) (r : Result ℕ Stopped) (names' starts' : List ℕ) : Type 0 where
  pub told : Tells (number_if name_twice (twice_from text [] (declared is))) (place_if (twice_from text [] (declared is))) (without_count r)
  pub count : kept_count r ≡ distinct text is
  pub kept : names' ≡ begun_with (distinct text is) (map (packed text) (declared is)) names
  pub begun : starts' ≡ begun_with (distinct text is) (beginnings is) starts

-- the second pass: names that are not declared; the items before and after it
pub record SecondPass (text : List ℕ) (ds : List Named) (is : List Item) (r : Result Unit Refusal) (is' : List Item) : Type 0 where
  pub told : Tells (unless_missing (resolved text ds is)).number (unless_missing (resolved text ds is)).place r
  pub left : is' ≡ rewritten text ds is

-- both passes
pub record BothPasses (text : List ℕ) (is : List Item) (names starts : List ℕ) (r : Result ℕ Stopped) (is' : List Item) (names' starts' : List ℕ) : Type 0 where
  pub told : Tells (meanings text is).number (meanings text is).place (without_count r)
  pub count : kept_count r ≡ distinct text is
  pub left : is' ≡ left_items text is
  pub kept : names' ≡ begun_with (distinct text is) (map (packed text) (declared is)) names
  pub begun : starts' ≡ begun_with (distinct text is) (beginnings is) starts
