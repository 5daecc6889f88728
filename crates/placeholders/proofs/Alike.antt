-- Lists of items that differ only in which declarations their calls name: what such a list says of brackets and declarations is the same.
-- Assumes nothing.
use mathlib.Core.Path.{◌≡◌, refl, ap}
use mathlib.Core.List.{List, [], ◌∷◌}
use Prim.Native.Nat.{ℕ, zero, suc}
use lib.ListN.{length, drop}
use Rattle.grammar.specs.declared.Item.{Item}
use Rattle.grammar.specs.declared.Item.TheVariants.{Start, Order}
use Rattle.names.specs.Parts.{part}
use Rattle.names.specs.Names.{declared, named_by}
use Rattle.names.specs.Inner.{beginning_by, beginnings_from, begun_with}
use Rattle.placeholders.specs.declared.Seen.TheVariants.{Other, Declares, Names, Wants, Calls, Hands}
use Rattle.placeholders.specs.declared.Wanted.{Wanted}
use Rattle.std.specs.Prelude.{Option, Some, None}
use Rattle.placeholders.specs.Placeholders.{seen, named, handed}
use Rattle.placeholders.specs.Filling.{wanted_by}

pub data Alike : List Item → List Item → Type 0 where
  none : Alike [] []
  same : {i : Item} {is js : List Item} → Alike is js → Alike (i ∷ is) (i ∷ js)
  start : {q k l : ℕ} {is js : List Item} → Alike is js → Alike (Start q k ∷ is) (Start q l ∷ js)
  order : {q k l : ℕ} {is js : List Item} → Alike is js → Alike (Order q k ∷ is) (Order q l ∷ js)

pub alike_self : (is : List Item) → Alike is is
alike_self [] = none
alike_self (i ∷ is) = same (alike_self is)

pub alike_length : {is js : List Item} → Alike is js → length js ≡ length is
alike_length none = refl
alike_length (same a) = ap suc (alike_length a)
alike_length (start a) = ap suc (alike_length a)
alike_length (order a) = ap suc (alike_length a)

pub alike_drop : (n : ℕ) {is js : List Item} → Alike is js → Alike (drop n is) (drop n js)
alike_drop zero a = a
alike_drop (suc n) none = none
alike_drop (suc n) (same a) = alike_drop n a
alike_drop (suc n) (start a) = alike_drop n a
alike_drop (suc n) (order a) = alike_drop n a

-- so far as it is written over
pub alike_begun : (n : ℕ) {is js : List Item} → Alike is js → Alike is (begun_with n js is)
alike_begun zero {is} a = alike_self is
alike_begun (suc n) none = none
alike_begun (suc n) (same a) = same (alike_begun n a)
alike_begun (suc n) (start a) = start (alike_begun n a)
alike_begun (suc n) (order a) = order (alike_begun n a)

-- ---- brackets

pub alike_named : {is js : List Item} → Alike is js → named js ≡ named is
unfolding named
alike_named none = refl
alike_named (same {i} a) =
    ap (λ (ps : List ℕ). elim (seen i) [ Names p ↦ p ∷ ps | Other ↦ [] | Declares ↦ [] | Wants f p ↦ [] | Calls q k ↦ [] | Hands n ↦ [] ])
    (alike_named a)
alike_named (start a) = refl
alike_named (order a) = refl

pub alike_handed : {is js : List Item} → Alike is js → handed js ≡ handed is
unfolding handed
alike_handed none = refl
alike_handed (same {i} a) =
    ap (λ (ns : List ℕ). elim (seen i) [ Hands n ↦ n ∷ ns | Other ↦ [] | Declares ↦ [] | Names p ↦ [] | Wants f p ↦ [] | Calls q k ↦ [] ])
    (alike_handed a)
alike_handed (start a) = refl
alike_handed (order a) = refl

pub alike_wanted : {is js : List Item} → Alike is js → wanted_by js ≡ wanted_by is
unfolding wanted_by
alike_wanted none = refl
alike_wanted (same {i} a) =
    ap (λ (w : Option Wanted). elim (seen i) [ Names p ↦ w | Wants f p ↦ Some (record { form = f; name = p }) | Other ↦ None | Declares ↦ None | Calls q k ↦ None | Hands n ↦ None ])
    (alike_wanted a)
alike_wanted (start a) = refl
alike_wanted (order a) = refl

-- ---- declarations

pub alike_declared : {is js : List Item} → Alike is js → declared js ≡ declared is
unfolding declared
alike_declared none = refl
alike_declared (same {i} a) = ap (named_by (part i)) (alike_declared a)
alike_declared (start a) = alike_declared a
alike_declared (order a) = alike_declared a

pub alike_beginnings : (k : ℕ) {is js : List Item} → Alike is js → beginnings_from k js ≡ beginnings_from k is
unfolding beginnings_from
alike_beginnings k none = refl
alike_beginnings k (same {i} a) = ap (beginning_by k (part i)) (alike_beginnings (suc k) a)
alike_beginnings k (start a) = alike_beginnings (suc k) a
alike_beginnings k (order a) = alike_beginnings (suc k) a
