-- Laws for callers: what holds of a text whose names are all declared, and none twice in its kind.
-- Assumes nothing.
use Prim.Native.Nat.{ℕ, zero, suc, ◌<◌}
use mathlib.Core.Path.{◌≡◌, refl, sym, ◌∙◌, ap, subst}
use mathlib.Core.List.{List, [], ◌∷◌}
use native.Mathlib.Omega.{arith}
use lib.ListN.{length, get_or}
use Rattle.status.specs.Status.{done}
use Rattle.symbols.specs.Names.{name_at}
use Rattle.std.specs.Prelude.{Option, Some, None}
use Rattle.grammar.specs.declared.Item.{Item}
use Rattle.names.specs.Parts.{Part, declares, gives, uses, says, part, Use, add, subtract, base, position, start, order, trigger}
use Rattle.names.specs.Names.{Named, named_by, declared, Repeat, no_repeat, repeat_at, twice_from, called_in, meant, numbered, Resolved, all, missing, and_then, if_found, resolved_by, resolved, unless_missing, unless_twice, meanings}
use Rattle.names.specs.Inner.{beginning_by, beginnings_from, distinct, rewritten, unless_twice_rewritten, left_items}
use Rattle.names.proofs.Searching.{OfKinds, called_found}
use Rattle.names.proofs.FirstPass.{distinct_all}

-- ---- a number in the place of a used name is that of a declaration of a kind that is meant

abbrev pub Means : List Named → Part → Type 0
Means ds (declares k p) = Unit
Means ds (gives g a b) = Unit
Means ds (uses u a n) = OfKinds ds (meant u) n
Means ds (says m) = Unit

abbrev pub AllMean : List Named → List Item → Type 0
AllMean ds [] = Unit
AllMean ds (i ∷ is) = Means ds (part i) × AllMean ds is

pub each_means : (ds : List Named) (is : List Item) → AllMean ds is → (k : ℕ) (d : Item) → k < length is → Means ds (part (get_or is k d))
each_means ds [] w k d h = absurd (omega arith)
each_means ds (i ∷ is) w zero d h = w.0
each_means ds (i ∷ is) w (suc k) d h = each_means ds is w.1 k d (omega arith)

-- an item with a number in the place of its name uses the same name
amount_of : Use → ℕ → ℕ
amount_of add a = a
amount_of subtract a = a
amount_of base a = 0
amount_of position a = 0
amount_of start a = a
amount_of order a = a
amount_of trigger a = 0

part_numbered : (u : Use) (a n : ℕ) → part (numbered u a n) ≡ uses u (amount_of u a) n
unfolding amount_of
part_numbered add a n = refl
part_numbered subtract a n = refl
part_numbered base a n = refl
part_numbered position a n = refl
part_numbered start a n = refl
part_numbered order a n = refl
part_numbered trigger a n = refl

-- ---- all names are declared: js is what becomes of the items

pub record Settled (text : List ℕ) (ds : List Named) (is js : List Item) : Type 0 where
  pub means : AllMean ds js
  pub same_names : declared js ≡ declared is
  pub same_starts : (k : ℕ) → beginnings_from k js ≡ beginnings_from k is
  pub same_length : length js ≡ length is
  pub left : rewritten text ds is ≡ js

module _ (text : List ℕ) (ds : List Named) where
  SettledBy : List Item → Resolved → Type 0
  SettledBy is (all js) = Settled text ds is js
  SettledBy is (missing p) = Unit

  -- an item that stays as it is
  stays : (i : Item) (is : List Item) → Means ds (part i) → rewritten text ds (i ∷ is) ≡ i ∷ rewritten text ds is
      → (r : Resolved) → SettledBy is r → SettledBy (i ∷ is) (and_then i r)
  unfolding SettledBy declared beginnings_from
  stays i is m e (all js) w =
      record {
        means = (m, w.means);
        same_names = ap (named_by (part i)) w.same_names;
        same_starts = λ k. ap (beginning_by k (part i)) (w.same_starts (suc k));
        same_length = ap suc w.same_length;
        left = e ∙ ap (λ xs. i ∷ xs) w.left;
      }
  stays i is m e (missing p) w = tt

  -- an item that uses a name
  becomes : (i : Item) (is : List Item) (u : Use) (a p : ℕ) → part i ≡ uses u a p → (f : Option ℕ) → called_in text ds (meant u) (name_at text p) ≡ f
      → (r : Resolved) → SettledBy is r → SettledBy (i ∷ is) (if_found u a p f r)
  unfolding SettledBy declared beginnings_from rewritten
  becomes i is u a p e (Some n) c (all js) w =
      record {
        means = (rw (part_numbered u a n) (called_found text ds (meant u) (name_at text p) c), w.means);
        same_names = rw (part_numbered u a n, e) w.same_names;
        same_starts = λ k. rw (part_numbered u a n, e) (w.same_starts (suc k));
        same_length = ap suc w.same_length;
        left = rw (e, c) (ap (λ xs. numbered u a n ∷ xs) w.left);
      }
  becomes i is u a p e (Some n) c (missing q) w = tt
  becomes i is u a p e None c r w = tt

  settled_by : (is : List Item) → SettledBy is (resolved text ds is)
  unfolding SettledBy resolved rewritten declared beginnings_from
  settled_by [] = record { means = tt; same_names = refl; same_starts = λ k. refl; same_length = refl; left = refl }
  settled_by (i ∷ is) = by (part i) refl (settled_by is)
    where
      by : (q : Part) → part i ≡ q → SettledBy is (resolved text ds is) → SettledBy (i ∷ is) (resolved_by text ds i q (resolved text ds is))
      by (declares k p) e w = stays i is (rw e tt) (rw e) (resolved text ds is) w
      by (gives g a b) e w = stays i is (rw e tt) (rw e) (resolved text ds is) w
      by (uses u a p) e w = becomes i is u a p e (called_in text ds (meant u) (name_at text p)) refl (resolved text ds is) w
      by (says m) e w = stays i is (rw e tt) (rw e) (resolved text ds is) w

  pub settled : (is : List Item) {js : List Item} → resolved text ds is ≡ all js → Settled text ds is js
  unfolding SettledBy
  settled is e = subst (SettledBy is) e (settled_by is)

-- ---- the number is 0

pub record Accepted (text : List ℕ) (is : List Item) : Type 0 where
  pub once : twice_from text [] (declared is) ≡ no_repeat
  pub resolves : resolved text (declared is) is ≡ all (meanings text is).items
  pub settles : Settled text (declared is) is (meanings text is).items
  pub left : left_items text is ≡ (meanings text is).items
  pub kept : distinct text is ≡ length (declared is)

pub accepted : (text : List ℕ) (is : List Item) → (meanings text is).number ≡ done → Accepted text is
unfolding meanings
accepted text is e = go _ refl _ refl e
  where
    go : (f : Repeat) → twice_from text [] (declared is) ≡ f → (r : Resolved) → resolved text (declared is) is ≡ r
        → (unless_twice f (unless_missing r)).number ≡ done → Accepted text is
    go no_repeat t (all js) q z =
        let m : (meanings text is).items ≡ js = rw (t, q) in
        let s : resolved text (declared is) is ≡ all (meanings text is).items = q ∙ ap all (sym m) in
        let w = settled text (declared is) is s in
        record { once = t; resolves = s; settles = w; left = ap (λ f. unless_twice_rewritten f is (rewritten text (declared is) is)) t ∙ w.left; kept = distinct_all text [] (declared is) t }
    go no_repeat t (missing p) q z = absurd (omega arith)
    go (repeat_at p) t r q z = absurd (omega arith)
