-- Where the items of each declaration stand: after the item that declares its name, up to the next such item or to the end.
-- Assumes nothing.
use mathlib.Core.Path.{◌≡◌, refl, sym, ◌∙◌, ap}
use mathlib.Core.List.{List, [], ◌∷◌, map}
use mathlib.Core.Bool.{Bool, true, false}
use Prim.Native.Nat.{ℕ, zero, suc, ◌+◌, ◌≤◌, ◌<◌}
use native.Mathlib.Omega.{arith}
use lib.ListN.{length, get_or, take, length-map, get_or-map}
use lib.Seq.{slice}
use Rattle.grammar.specs.declared.Kind.{Kind}
use Rattle.grammar.specs.declared.Item.{Item}
use Rattle.grammar.specs.declared.Item.TheVariants as item
use Rattle.names.specs.Parts.{Part, declares, gives, uses, says, part}
use Rattle.names.specs.Inner.{beginning_by, beginnings_from, beginnings}
use Rattle.program.specs.Program.{Program, declaration_of, up_to, parts_of, program_then, program_of}
use Rattle.program.specs.Meaning.{nothing, declaration_at}

-- ---- one item in front of others: each declaration begins one later

later_by : (i : ℕ) (q : Part) (l : List ℕ) → beginning_by (suc i) q (map suc l) ≡ map suc (beginning_by i q l)
later_by i (declares k p) l = refl
later_by i (gives g a b) l = refl
later_by i (uses u a b) l = refl
later_by i (says m) l = refl

later : (i : ℕ) (is : List Item) → beginnings_from (suc i) is ≡ map suc (beginnings_from i is)
unfolding beginnings_from
later i [] = refl
later i (x ∷ is) = ap (beginning_by (suc i) (part x)) (later (suc i) is) ∙ later_by i (part x) (beginnings_from (suc i) is)

one_later : (x : Item) (is : List Item) → beginnings (x ∷ is) ≡ beginning_by 0 (part x) (map suc (beginnings is))
unfolding beginnings_from
one_later x is = ap (beginning_by 0 (part x)) (later 0 is)

get_d_suc : (l : List ℕ) (d n : ℕ) → d < length l → get_or (map suc l) d n ≡ suc (get_or l d n)
get_d_suc [] d n h = absurd (omega arith)
get_d_suc (x ∷ l) zero n h = refl
get_d_suc (x ∷ l) (suc d) n h = get_d_suc l d n (omega arith)

-- ---- the item that declares a name

is_declares : Part → Bool
is_declares (declares k p) = true
is_declares (gives g a b) = false
is_declares (uses u a p) = false
is_declares (says m) = false

other : {A : Type 0} → ◌≡◌ {A = Bool} false true → A
other e = let z : ◌≡◌ {A = ℕ} 0 1 = cc in absurd (omega arith)

declared_item : (x : Item) (k : Kind) (p : ℕ) → part x ≡ declares k p → x ≡ item.Declared k p
unfolding is_declares
declared_item (item.Declared k p) l q e = cc
declared_item (item.Ratio a b) l q e = other (ap is_declares e)
declared_item (item.Root a b) l q e = other (ap is_declares e)
declared_item (item.Add a b) l q e = other (ap is_declares e)
declared_item (item.Subtract a b) l q e = other (ap is_declares e)
declared_item (item.Frequency a) l q e = other (ap is_declares e)
declared_item (item.Base a) l q e = other (ap is_declares e)
declared_item (item.AnchorKey a) l q e = other (ap is_declares e)
declared_item item.MutedPosition l q e = other (ap is_declares e)
declared_item item.KeptPosition l q e = other (ap is_declares e)
declared_item (item.TonePosition a) l q e = other (ap is_declares e)
declared_item item.AnchorKept l q e = other (ap is_declares e)
declared_item (item.Amount a b) l q e = other (ap is_declares e)
declared_item item.WidthKept l q e = other (ap is_declares e)
declared_item item.Period l q e = other (ap is_declares e)
declared_item item.Onward l q e = other (ap is_declares e)
declared_item (item.Letter a) l q e = other (ap is_declares e)
declared_item (item.Start a b) l q e = other (ap is_declares e)
declared_item (item.Order a b) l q e = other (ap is_declares e)
declared_item (item.Trigger a) l q e = other (ap is_declares e)
declared_item (item.Key a) l q e = other (ap is_declares e)
declared_item (item.StarredKey a) l q e = other (ap is_declares e)
declared_item (item.AmountName a b) l q e = other (ap is_declares e)
declared_item (item.Placeholder a) l q e = other (ap is_declares e)
declared_item (item.Argument a) l q e = other (ap is_declares e)

-- ---- the items up to the first declared name

-- where the first of the declarations that begin at bs begins, or the end of n items
abbrev first : List ℕ → ℕ → ℕ
first bs n = get_or bs 0 n

-- ps are the items in front of it
record Front (bs : List ℕ) (ps is : List Item) : Type 0 where
  within : first bs (length is) ≤ length is
  parts : ps ≡ take (first bs (length is)) is

front_more : (x : Item) {bs : List ℕ} {ps is : List Item} → Front bs ps is → Front (map suc bs) (x ∷ ps) (x ∷ is)
front_more x {bs} {ps} {is} f =
    let e : first (map suc bs) (suc (length is)) ≡ suc (first bs (length is)) = get_or-map suc bs 0 (length is) in
    let w = f.within in
    record { within = rw e (omega arith); parts = rw e (ap (λ xs. x ∷ xs) f.parts) }

front : (is : List Item) → Front (beginnings is) (parts_of is) is
unfolding beginnings_from parts_of
front [] = record { within = omega arith; parts = refl }
front (x ∷ is) = rw one_later (go (part x) (front is))
  where
    go : (q : Part) → Front (beginnings is) (parts_of is) is → Front (beginning_by 0 q (map suc (beginnings is))) (up_to q x (parts_of is)) (x ∷ is)
    go (declares k p) f = record { within = omega arith; parts = refl }
    go (gives g a b) f = front_more x f
    go (uses u a b) f = front_more x f
    go (says m) f = front_more x f

-- ---- declaration d of the program p, whose declarations begin at bs

abbrev pub from : List ℕ → ℕ → ℕ
from bs d = get_or bs d 0 + 1

abbrev pub to : List ℕ → ℕ → ℕ → ℕ
to bs n d = get_or bs (suc d) n

record Stands (p : Program) (bs : List ℕ) (is : List Item) (d : ℕ) : Type 0 where
  ordered : from bs d ≤ to bs (length is) d
  within : to bs (length is) d ≤ length is
  body : declaration_at p d ≡ declaration_of (slice (from bs d) (to bs (length is) d) is)
  names : (none : Item) → (k : Kind) × (get_or is (get_or bs d 0) none ≡ item.Declared k (get_or p d nothing).place)

stands_later : (x : Item) {p : Program} {bs : List ℕ} {is : List Item} {d : ℕ} → d < length bs → Stands p bs is d → Stands p (map suc bs) (x ∷ is) d
stands_later x {p} {bs} {is} {d} h s =
    let a : get_or (map suc bs) d 0 ≡ suc (get_or bs d 0) = get_d_suc bs d 0 h in
    let f : from (map suc bs) d ≡ suc (from bs d) = omega arith in
    let b : to (map suc bs) (suc (length is)) d ≡ suc (to bs (length is) d) = get_or-map suc bs (suc d) (length is) in
    let o = s.ordered in
    let w = s.within in
    record {
      ordered = omega arith;
      within = omega arith;
      body = rw (f, b) s.body;
      names = λ none. rw a (s.names none);
    }

stands : (is : List Item) (d : ℕ) → d < length (beginnings is) → Stands (program_of is) (beginnings is) is d
unfolding beginnings_from program_of
stands [] d h = absurd (omega arith)
stands (x ∷ is) d h = rw one_later (go (part x) refl d (rw one_later at h) (stands is))
  where
    within : {d : ℕ} → d < length (map suc (beginnings is)) → d < length (beginnings is)
    within h = rw length-map at h

    go : (q : Part) → part x ≡ q → (d : ℕ) → d < length (beginning_by 0 q (map suc (beginnings is)))
        → ((d : ℕ) → d < length (beginnings is) → Stands (program_of is) (beginnings is) is d)
        → Stands (program_then q is (program_of is)) (beginning_by 0 q (map suc (beginnings is))) (x ∷ is) d
    go (declares k p) e zero h s =
        let f = front is in
        let b : first (map suc (beginnings is)) (suc (length is)) ≡ suc (first (beginnings is) (length is)) = get_or-map suc (beginnings is) 0 (length is) in
        let w = f.within in
        record {
          ordered = omega arith;
          within = omega arith;
          body = rw b (ap declaration_of f.parts);
          names = λ none. (k, declared_item x k p e);
        }
    go (declares k p) e (suc d) h s =
        let m : d < length (map suc (beginnings is)) = omega arith in
        let l = stands_later x (within m) (s d (within m)) in
        record { ordered = l.ordered; within = l.within; body = l.body; names = l.names }
    go (gives g a b) e d h s = stands_later x (within h) (s d (within h))
    go (uses u a b) e d h s = stands_later x (within h) (s d (within h))
    go (says m) e d h s = stands_later x (within h) (s d (within h))

pub program_length : (is : List Item) → length (program_of is) ≡ length (beginnings is)
unfolding beginnings_from program_of
program_length [] = refl
program_length (x ∷ is) = rw one_later (go (part x) (program_length is ∙ sym (length-map (beginnings is) suc)))
  where
    go : (q : Part) → length (program_of is) ≡ length (map suc (beginnings is))
        → length (program_then q is (program_of is)) ≡ length (beginning_by 0 q (map suc (beginnings is)))
    go (declares k p) e = ap suc e
    go (gives g a b) e = e
    go (uses u a b) e = e
    go (says m) e = e

module _ (is : List Item) (d : ℕ) (h : d < length (beginnings is)) where
  pub body_ordered : from (beginnings is) d ≤ to (beginnings is) (length is) d
  body_ordered = (stands is d h).ordered

  pub body_within : to (beginnings is) (length is) d ≤ length is
  body_within = (stands is d h).within

  pub body_at : declaration_at (program_of is) d ≡ declaration_of (slice (from (beginnings is) d) (to (beginnings is) (length is) d) is)
  body_at = (stands is d h).body

  pub name_at : (none : Item) → (k : Kind) × (get_or is (get_or (beginnings is) d 0) none ≡ item.Declared k (get_or (program_of is) d nothing).place)
  name_at none = (stands is d h).names none
