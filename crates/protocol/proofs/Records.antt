-- Orders as records: how they are gathered, and what the search among them finds. Assumes nothing.
use mathlib.Core.Path.{◌≡◌, refl, sym, ap, ◌∙◌, subst}
use mathlib.Core.Bool.{Bool, true, false, cond, false≢true}
use mathlib.Core.List.{List, [], ◌∷◌, ◌++◌, zip_with}
use Rattle.std.specs.Prelude.{Option, Some, None, is_some, ◌==◌, ◌/◌}
use Rattle.std.specs.List.{position_from}
use Rattle.std.proofs.lemmas.Option.{none-some}
use Rattle.std.specs.Option.{option_map}
use Prim.Native.Nat.{ℕ, zero, suc, ◌+◌, ◌*◌, ◌≤◌, ◌<◌, min}
use native.Mathlib.Numerals.{add-one}
use native.Mathlib.Omega.{arith}
use lib.Dec.{eqb}
use lib.IntN.{ℤ}
use lib.ListN.{length, length-append, get_or, set, take}
use lib.Seq.{sets, append_snoc, get_or_at}
use Rattle.orders.specs.declared.Kind.{Kind}
use Rattle.orders.specs.declared.Order.{Order}
use Rattle.orders.specs.Orders.{no_order, order_at, first_match}
use Rattle.orders.proofs.Laws.{match_within}
use Rattle.tables.specs.Layout.{order_width, column, triggers_in, calls_in, full}
use Rattle.tables.proofs.Lists.{full_length, full_next}
use Rattle.protocol.specs.declared.triggers.Called.{Called}
use Rattle.protocol.specs.Triggers.{first_order}
use Rattle.protocol.specs.Inner.{is_trigger, kind_at, by_kind, called_in, record_of, records_of, part_size, Paired}

-- ---- gathering: one turn of the loop

records_most : (rows : List ℤ) (cs ks : List ℕ) → length (records_of rows cs ks) ≤ length cs
unfolding zip_with
records_most rows [] ks = omega arith
records_most rows (c ∷ cs) [] = omega arith
records_most rows (c ∷ cs) (k ∷ ks) = let h = records_most rows cs ks in omega arith

-- orders as records
abbrev pub order_records : List ℤ → List ℕ → List Order
order_records rows os = records_of rows (triggers_in os) (calls_in os)

triggers_half : (os : List ℕ) → Paired os → order_width * length (triggers_in os) ≡ length os
unfolding column
triggers_half [] h = refl
triggers_half (c ∷ []) h = absurd h
triggers_half (c ∷ k ∷ os) h = let e = triggers_half os h in omega arith

pub as_many : (os : List ℕ) → Paired os → length (triggers_in os) ≡ length (calls_in os)
unfolding column
as_many [] h = refl
as_many (c ∷ []) h = absurd h
as_many (c ∷ k ∷ os) h = ap suc (as_many os h)

pub halved : (os : List ℕ) → Paired os → length os / order_width ≡ length (triggers_in os)
halved os h = let e = triggers_half os h in omega arith

module _ (rows : List ℤ) (os : List ℕ) (h : Paired os) (few : length os ≤ order_width * part_size) where
  pub records_few : length (order_records rows os) ≤ part_size
  records_few = omega (arith, records_most rows (triggers_in os) (calls_in os), triggers_half os h, few)

  -- with the records that are left stored, the array is the one that is asked for
  pub gathering_starts : sets (full no_order part_size []) 0 (order_records rows os) ≡ full no_order part_size (order_records rows os)
  gathering_starts = full_next no_order part_size [] (order_records rows os) 0 refl (omega (arith, records_few))

-- an order comes off the front
pub order_off : (rows : List ℤ) (c k : ℕ) (os : List ℕ) → order_records rows (c ∷ k ∷ os) ≡ record_of rows c k ∷ order_records rows os
unfolding zip_with column
order_off rows c k os = refl

-- what the loop keeps: `rest` is left, and `i` orders are stored
pub record Gathering (rows : List ℤ) (orders : List ℕ) (all : List Order) (rest : List ℕ) (i : ℕ) : Type 0 where
  pub paired : Paired rest
  pub room : order_width * i + length rest ≤ order_width * part_size
  pub left : sets all i (order_records rows rest) ≡ full no_order part_size (order_records rows orders)

-- an order that is stored
pub gathering_on : (rows : List ℤ) (orders : List ℕ) {all : List Order} (rest pair behind : List ℕ) {i : ℕ} {kind : Option Kind} → Gathering rows orders all rest i
    → rest ≡ pair ++ behind → length pair ≡ order_width → kind ≡ kind_at rows (get_or pair 1 0)
    → Gathering rows orders (set all i (record { trigger = get_or pair 0 0; kind = kind; number = get_or pair 1 0 })) behind (i + 1)
gathering_on rows orders rest [] behind g e n k = let z : ⊥ = omega arith in absurd z
gathering_on rows orders rest (c ∷ []) behind g e n k = let z : ⊥ = omega arith in absurd z
gathering_on rows orders rest (c ∷ d ∷ x ∷ pair) behind g e n k = let z : ⊥ = omega arith in absurd z
gathering_on rows orders {all} rest (c ∷ d ∷ []) behind {i} g e n k =
    record {
      paired = subst Paired e g.paired;
      room = omega (arith, g.room, ap length e);
      left = rw (add-one i, k) (ap (sets all i) (sym (order_off rows c d behind)) ∙ ap (λ (r : List ℕ). sets all i (order_records rows r)) (sym e) ∙ g.left);
    }

pub gathering_ends : (rows : List ℤ) (orders : List ℕ) {all : List Order} (rest : List ℕ) {i : ℕ} → Gathering rows orders all rest i → length rest < order_width
    → all ≡ full no_order part_size (order_records rows orders)
unfolding zip_with column
gathering_ends rows orders [] g h = g.left
gathering_ends rows orders (c ∷ []) g h = absurd g.paired
gathering_ends rows orders (c ∷ d ∷ rest) g h = let z : ⊥ = omega arith in absurd z

-- ---- searching

-- what the record calls that a search has found
abbrev pub called_at : List Order → Option ℕ → Option Called
called_at xs = option_map (λ (i : ℕ). by_kind (order_at xs i).kind (order_at xs i).number)

module _ (rows : List ℤ) (trigger : ℕ) where
  abbrev found_from : ℕ → List Order → Option ℕ
  found_from = position_from (λ (x : Order). x.trigger == trigger)

  -- `seen` stands before the records, `rest` after them
  called_from : (seen : List Order) (at : ℕ) (cs ks : List ℕ) (rest : List Order) → length seen ≡ at → length cs ≡ length ks
      → let xs = records_of rows cs ks ++ rest in called_at (seen ++ xs) (found_from at (take (length cs) xs)) ≡ called_in rows (first_order (is_trigger trigger) cs ks)
  unfolding zip_with first_order
  called_from seen at [] ks rest l e = refl
  called_from seen at (c ∷ cs) [] rest l e = let z : ⊥ = omega arith in absurd z
  called_from seen at (c ∷ cs) (k ∷ ks) rest l e =
      let x = record_of rows c k in
      let m : length (seen ++ x ∷ []) ≡ at + 1 = omega (arith, length-append seen (x ∷ [])) in
      go (eqb c trigger) (called_from (seen ++ x ∷ []) (at + 1) cs ks rest m (omega arith))
    where
      go : (b : Bool) → let x = record_of rows c k in let xs = records_of rows cs ks ++ rest in
          called_at (seen ++ x ∷ [] ++ xs) (found_from (at + 1) (take (length cs) xs)) ≡ called_in rows (first_order (is_trigger trigger) cs ks)
          → called_at (seen ++ x ∷ xs) (cond b (Some at) (found_from (at + 1) (take (length cs) xs)))
          ≡ called_in rows (elim b [ true ↦ Some k | false ↦ first_order (is_trigger trigger) cs ks ])
      go true later = rw (get_or_at seen (record_of rows c k) (records_of rows cs ks ++ rest) no_order at l)
      go false later = rw append_snoc at later

  -- the first record with the trigger calls what the first order with it calls
  called_first : (cs ks : List ℕ) → length cs ≡ length ks
      → let xs = full no_order part_size (records_of rows cs ks) in
      called_at xs (first_match trigger xs 0 (length cs)) ≡ called_in rows (first_order (is_trigger trigger) cs ks)
  called_first cs ks e = called_from [] 0 cs ks _ refl e

  module _ (os : List ℕ) (h : Paired os) (few : length os ≤ order_width * part_size) {all : List Order} {m : Option ℕ}
      (e : all ≡ full no_order part_size (order_records rows os)) (f : first_match trigger all 0 (length os / order_width) ≡ m) where
    pub called_gathered : called_at all m ≡ called_in rows (first_order (is_trigger trigger) (triggers_in os) (calls_in os))
    called_gathered =
        let xs = full no_order part_size (order_records rows os) in
        ap (called_at all) (sym f)
        ∙ ap (λ (l : List Order). called_at l (first_match trigger l 0 (length os / order_width))) e
        ∙ ap (λ (k : ℕ). called_at xs (first_match trigger xs 0 k)) (halved os h)
        ∙ called_first (triggers_in os) (calls_in os) (as_many os h)

    pub found_gathered : {i : ℕ} → m ≡ Some i → i < part_size
    found_gathered q =
        let n = full_length no_order part_size (order_records rows os) (records_few rows os h few) in
        omega (arith, match_within trigger all 0 (length os / order_width) (f ∙ q), ap length e, n)

-- ---- part by part

-- the first of a list's orders, else the second's
abbrev pub or_else : Option ℕ → Option ℕ → Option ℕ
or_else None o = o
or_else (Some k) o = Some k

first_append : (p : ℕ → Bool) (cs ks ds ls : List ℕ) → length cs ≡ length ks
    → first_order p (cs ++ ds) (ks ++ ls) ≡ or_else (first_order p cs ks) (first_order p ds ls)
unfolding first_order
first_append p [] [] ds ls e = refl
first_append p [] (k ∷ ks) ds ls e = let z : ⊥ = omega arith in absurd z
first_append p (c ∷ cs) [] ds ls e = let z : ⊥ = omega arith in absurd z
first_append p (c ∷ cs) (k ∷ ks) ds ls e = go (p c) (first_append p cs ks ds ls (omega arith))
  where
    go : (b : Bool) → first_order p (cs ++ ds) (ks ++ ls) ≡ or_else (first_order p cs ks) (first_order p ds ls)
        → elim b [ true ↦ Some k | false ↦ first_order p (cs ++ ds) (ks ++ ls) ]
        ≡ or_else (elim b [ true ↦ Some k | false ↦ first_order p cs ks ]) (first_order p ds ls)
    go true later = refl
    go false later = later

-- the columns of a list of orders and of more behind it
columns_append : (part behind : List ℕ) → Paired part
    → (triggers_in (part ++ behind) ≡ triggers_in part ++ triggers_in behind) × (calls_in (part ++ behind) ≡ calls_in part ++ calls_in behind)
unfolding column
columns_append [] behind h = (refl, refl)
columns_append (c ∷ []) behind h = absurd h
columns_append (c ∷ k ∷ part) behind h = let e = columns_append part behind h in (ap (λ (l : List ℕ). c ∷ l) e.0, ap (λ (l : List ℕ). k ∷ l) e.1)

abbrev pub order_among : (ℕ → Bool) → List ℕ → Option ℕ
order_among p os = first_order p (triggers_in os) (calls_in os)

pub among_append : (p : ℕ → Bool) (part behind : List ℕ) → Paired part → order_among p (part ++ behind) ≡ or_else (order_among p part) (order_among p behind)
among_append p part behind h =
    let e = columns_append part behind h in
    rw (e.0, e.1) (first_append p (triggers_in part) (calls_in part) (triggers_in behind) (calls_in behind) (as_many part h))

-- an even number of codes from the front of orders are orders, and so is the rest
front_paired : (part behind : List ℕ) (n : ℕ) → length part ≡ order_width * n → Paired (part ++ behind) → Paired part × Paired behind
front_paired [] behind n e h = (tt, h)
front_paired (c ∷ []) behind n e h = let z : ⊥ = omega arith in absurd z
front_paired (c ∷ k ∷ part) behind zero e h = let z : ⊥ = omega arith in absurd z
front_paired (c ∷ k ∷ part) behind (suc n) e h = front_paired part behind n (omega arith) h

pub paired_part : (rest part behind : List ℕ) (size : ℕ) → Paired rest → rest ≡ part ++ behind → size ≡ order_width * part_size → length part ≡ min size (length rest)
    → Paired part × Paired behind
paired_part rest part behind size h e s n =
    let whole = triggers_half rest h in
    front_paired part behind (min part_size (length (triggers_in rest))) (omega (arith, whole, s, n)) (subst Paired e h)

module _ (rows : List ℤ) (p : ℕ → Bool) (all part behind : List ℕ) (h : Paired part) {rest : List ℕ} (e : rest ≡ part ++ behind) (same : order_among p rest ≡ order_among p all) where
  -- nothing is found in it
  pub among_on : None ≡ called_in rows (order_among p part) → order_among p behind ≡ order_among p all
  among_on f = go (order_among p part) f ∙ sym (among_append p part behind h) ∙ ap (order_among p) (sym e) ∙ same
    where
      go : (o : Option ℕ) → None ≡ called_in rows o → order_among p behind ≡ or_else o (order_among p behind)
      go None f = refl
      go (Some k) f = absurd (none-some _ f)

  -- something is found in it
  pub among_found : (f : Option Called) → is_some f ≡ true → f ≡ called_in rows (order_among p part) → f ≡ called_in rows (order_among p all)
  among_found f n g = go (order_among p part) g ∙ ap (called_in rows) (sym (among_append p part behind h) ∙ ap (order_among p) (sym e) ∙ same)
    where
      go : (o : Option ℕ) → f ≡ called_in rows o → f ≡ called_in rows (or_else o (order_among p behind))
      go None q = absurd (false≢true (ap is_some (sym q) ∙ n))
      go (Some k) q = q

pub none_of : {o : Option Called} → is_some o ≡ false → None ≡ o
none_of {o = None} h = refl
none_of {o = Some f} h = absurd (false≢true (sym h))

-- what the search keeps: among the parts that are left the same is found as among all
pub record Searching (p : ℕ → Bool) (orders rest : List ℕ) : Type 0 where
  pub paired : Paired rest
  pub same : order_among p rest ≡ order_among p orders

pub searching_ends : (rows : List ℤ) (p : ℕ → Bool) (orders rest : List ℕ) → Searching p orders rest → length rest ≡ 0 → None ≡ called_in rows (order_among p orders)
unfolding first_order column
searching_ends rows p orders [] s h = ap (called_in rows) s.same
searching_ends rows p orders (c ∷ rest) s h = let z : ⊥ = omega arith in absurd z
