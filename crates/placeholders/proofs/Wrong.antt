-- Laws of the first fault of some items, item by item. Assumes nothing.
use Prim.Native.Nat.{ℕ, suc, ◌+◌, ◌-◌, ◌≤◌, ◌<◌}
use mathlib.Core.Path.{◌≡◌, refl, sym, ◌∙◌, ap}
use mathlib.Core.Bool.{Bool, true, false}
use mathlib.Core.List.{List, [], ◌∷◌, ◌++◌, append-nil}
use native.Mathlib.Nat.{le_refl}
use native.Mathlib.Omega.{arith}
use lib.Dec.{eqb}
use lib.ListN.{length, get_or, take, drop, length-drop, drop_of_length-le}
use lib.Seq.{take_all, take-suc, get_or-drop}
use Rattle.symbols.specs.Names.{name_at}
use Rattle.grammar.specs.declared.Item.{Item}
use Rattle.placeholders.specs.declared.Seen.{Seen}
use Rattle.placeholders.specs.declared.Seen.TheVariants.{Other, Declares, Names, Wants, Calls, Hands}
use Rattle.std.specs.Prelude.{Option, Some, None}
use Rattle.placeholders.specs.Placeholders.{seen, handed, is_among, fault_from}
use Rattle.placeholders.specs.Inner.{names_in, fault_here}
use Rattle.placeholders.proofs.Items.{next_item}

-- ---- the placeholders that are named in front of an item

-- behind it, by what is seen in it
abbrev pub named_behind : Seen → List ℕ → List ℕ
named_behind (Names p) before = before ++ p ∷ []
named_behind Declares before = []
named_behind Other before = before
named_behind (Wants f p) before = before
named_behind (Calls q k) before = before
named_behind (Hands n) before = before

names_further : (s : Seen) (x : Item) → s ≡ seen x → (is js : List Item) → names_in (is ++ js) ≡ names_in is ++ names_in js → names_in (x ∷ is ++ js) ≡ names_in (x ∷ is) ++ names_in js
unfolding names_in
names_further (Names p) x e is js h = rw (← e, names_in) (ap (λ ps. p ∷ ps) h)
names_further Declares x e is js h = rw (← e, names_in) h
names_further Other x e is js h = rw (← e, names_in) h
names_further (Wants f p) x e is js h = rw (← e, names_in) h
names_further (Calls q k) x e is js h = rw (← e, names_in) h
names_further (Hands n) x e is js h = rw (← e, names_in) h

names_append : (is js : List Item) → names_in (is ++ js) ≡ names_in is ++ names_in js
unfolding names_in
names_append [] js = refl
names_append (x ∷ is) js = names_further (seen x) x refl is js (names_append is js)

names_last : (s : Seen) (x : Item) → s ≡ seen x → (s ≡ Declares → ⊥) → (before : List ℕ) → before ++ names_in (x ∷ []) ≡ named_behind s before
unfolding names_in
names_last (Names p) x e h before = rw (← e, names_in)
names_last Declares x e h before = absurd (h refl)
names_last Other x e h before = rw (← e, names_in) (append-nil before)
names_last (Wants f p) x e h before = rw (← e, names_in) (append-nil before)
names_last (Calls q k) x e h before = rw (← e, names_in) (append-nil before)
names_last (Hands n) x e h before = rw (← e, names_in) (append-nil before)

-- ---- one item after the other

abbrev fault_then : Option ℕ → Option ℕ → Option ℕ
fault_then None r = r
fault_then (Some p) r = Some p

either_at : (b : Bool) (p : ℕ) (r : Option ℕ) → elim b [ true ↦ Some p | false ↦ r ] ≡ fault_then (elim b [ true ↦ Some p | false ↦ None ]) r
either_at true p r = refl
either_at false p r = refl

either_not : (b : Bool) (p : ℕ) (r : Option ℕ) → elim b [ true ↦ r | false ↦ Some p ] ≡ fault_then (elim b [ true ↦ None | false ↦ Some p ]) r
either_not true p r = refl
either_not false p r = refl

module _ (text : List ℕ) (takes : ℕ → ℕ) (before : List ℕ) (rest : List Item) where
  fault_by : (s : Seen) (x : Item) → s ≡ seen x
      → fault_from text takes before (x ∷ rest) ≡ fault_then (fault_here text takes before (x ∷ rest)) (fault_from text takes (named_behind s before) rest)
  unfolding fault_from
  fault_by Other x e = rw (← e, fault_from, fault_here)
  fault_by Declares x e = rw (← e, fault_from, fault_here)
  fault_by (Names p) x e = rw (← e, fault_from, fault_here) (either_at (is_among text before (name_at text p)) p (fault_from text takes (before ++ p ∷ []) rest))
  fault_by (Wants f p) x e = rw (← e, fault_from, fault_here) (either_not (is_among text before (name_at text p)) p (fault_from text takes before rest))
  fault_by (Calls q k) x e = rw (← e, fault_from, fault_here) (either_not (eqb (length (handed rest)) (takes k)) q (fault_from text takes before rest))
  fault_by (Hands n) x e = rw (← e, fault_from, fault_here)

-- ---- from one item to another

-- those from one place to another, as a part of a slice has them
abbrev pub part : ℕ → ℕ → List Item → List Item
part from to l = take (to - from) (drop from l)

pub part_end : (i : ℕ) (l : List Item) → part i (length l) l ≡ drop i l
part_end i l = take_all (length l - i) (drop i l) (rw length-drop (le_refl (length l - i)))

part_last : (l : List Item) (from i : ℕ) → from ≤ i → i < length l → (d : Item) → part from (i + 1) l ≡ part from i l ++ get_or l i d ∷ []
part_last l from i h k d =
    let e : (i + 1) - from ≡ suc (i - from) = omega arith in
    let n : i - from < length (drop from l) = omega (arith, length-drop from l) in
    let m : from + (i - from) ≡ i = omega arith in
    rw (e, take-suc (drop from l) (i - from) d n, get_or-drop from l (i - from) d, m)

module _ (l : List Item) (i : ℕ) (k : i < length l) (d : Item) {s : Seen} (t : s ≡ seen (get_or l i d)) where
  pub names_begun : s ≡ Declares → (before : List ℕ) → named_behind s before ≡ names_in (part (i + 1) (i + 1) l)
  unfolding names_in
  names_begun h before = let e : (i + 1) - (i + 1) ≡ 0 = omega arith in rw (h, e)

  pub names_grown : (from : ℕ) → from ≤ i → (s ≡ Declares → ⊥) → named_behind s (names_in (part from i l)) ≡ names_in (part from (i + 1) l)
  names_grown from m h =
      sym (names_last s (get_or l i d) t h (names_in (part from i l)))
      ∙ sym (ap names_in (part_last l from i m k d) ∙ names_append (part from i l) (get_or l i d ∷ []))

module _ (text : List ℕ) (takes : ℕ → ℕ) (before : List ℕ) (l : List Item) (i : ℕ) where
  pub fault_none : length l ≤ i → fault_from text takes before (drop i l) ≡ None
  unfolding fault_from
  fault_none k = ap (fault_from text takes before) (drop_of_length-le l k)

  module _ (k : i < length l) (d : Item) where
    pub fault_here_step : {p : ℕ} → fault_here text takes before (part i (length l) l) ≡ Some p → fault_from text takes before (drop i l) ≡ Some p
    fault_here_step h =
        let there = next_item l i k d in
        ap (fault_from text takes before) there
        ∙ fault_by text takes before (drop (i + 1) l) (seen (get_or l i d)) (get_or l i d) refl
        ∙ rw (← there, ← part_end i l, h)

    pub fault_later : {s : Seen} → s ≡ seen (get_or l i d) → fault_here text takes before (part i (length l) l) ≡ None
        → fault_from text takes before (drop i l) ≡ fault_from text takes (named_behind s before) (drop (i + 1) l)
    fault_later {s} t h =
        let there = next_item l i k d in
        ap (fault_from text takes before) there
        ∙ fault_by text takes before (drop (i + 1) l) s (get_or l i d) t
        ∙ rw (← there, ← part_end i l, h)
