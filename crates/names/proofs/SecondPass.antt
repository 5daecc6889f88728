-- Laws of the second pass over the items: what has become of those in front of an item.
-- Assumes nothing.
use Rattle.std.specs.Prelude.{Option, Some, None, Ok, Err}
use Rattle.std.proofs.lemmas.Option.{none-some, same_Some}
use Prim.Native.Nat.{ℕ, suc, ◌+◌, ◌≤◌, ◌<◌}
use mathlib.Core.Path.{◌≡◌, refl, sym, ◌∙◌, ap}
use mathlib.Core.List.{List, [], ◌∷◌, ◌++◌}
use native.Mathlib.Omega.{arith}
use lib.ListN.{length, get_or, take, drop, set, length-set, drop_of_length-le, take-append-drop}
use Rattle.status.specs.Status.{done, name_not_declared}
use Rattle.status.specs.declared.Reason.TheVariants.{NameNotDeclared}
use Rattle.symbols.specs.Names.{name_at}
use Rattle.grammar.specs.declared.Item.{Item}
use Rattle.grammar.specs.Items.{with_place}
use Rattle.names.specs.declared.Scope.{Scope}
use Rattle.names.specs.Parts.{Part, declares, gives, uses, says, part, Use, add, subtract, base, position, start, order, trigger}
use Rattle.names.specs.Names.{Named, called_in, meant, numbered, Resolved, all, missing, and_then, if_found, resolved_by, resolved, unless_missing}
use Rattle.names.specs.Inner.{scope, used_name, kinds_in, begun_with, if_called, rewritten_by, rewritten, SecondPass}
use Rattle.names.proofs.PartsTold.{numbered_part}
use Rattle.names.proofs.Lists.{here, head_at, head_rest, begun_set, begun_same, begun_all, begun_at}

-- ---- what the use of a name tells

kinds_meant : (u : Use) → kinds_in (scope u) ≡ meant u
kinds_meant add = refl
kinds_meant subtract = refl
kinds_meant base = refl
kinds_meant position = refl
kinds_meant start = refl
kinds_meant order = refl
kinds_meant trigger = refl

-- the use of a name at the place p, in the scope s
record Using (q : Part) (s : Scope) (p : ℕ) : Type 0 where
  use' : Use
  amount : ℕ
  is : q ≡ uses use' amount p
  meaning : kinds_in s ≡ meant use'

name_used : (q : Part) {s : Scope} {p : ℕ} → used_name q ≡ Some (s, p) → Using q s p
name_used (declares k p) e = absurd (none-some _ e)
name_used (gives g a b) e = absurd (none-some _ e)
name_used (uses u a p) e =
    let f = same_Some _ _ e in
    record { use' = u; amount = a; is = ap (λ x. uses u a x.1) f; meaning = ap (λ x. kinds_in x.0) (sym f) ∙ kinds_meant u }
name_used (says m) e = absurd (none-some _ e)

module _ (text : List ℕ) (ds : List Named) where
  -- an item that uses no name
  Stays : Part → Type 0
  Stays q =
      ((i : Item) (is rest : List Item) → rewritten_by text ds q i is rest ≡ i ∷ rest)
      × ((i : Item) (rest : Resolved) → resolved_by text ds i q rest ≡ and_then i rest)

  unused : (q : Part) → used_name q ≡ None → Stays q
  unfolding Stays
  unused (declares k p) h = (λ i is rest. refl, λ i rest. refl)
  unused (gives g a b) h = (λ i is rest. refl, λ i rest. refl)
  unused (uses u a p) h = absurd (none-some _ (sym h))
  unused (says m) h = (λ i is rest. refl, λ i rest. refl)

-- ---- the same item with a number in its name's place

-- another place in it
replaced : (u : Use) (a n p : ℕ) → with_place (numbered u a p) n ≡ numbered u a n
replaced add a n p = refl
replaced subtract a n p = refl
replaced base a n p = refl
replaced position a n p = refl
replaced start a n p = refl
replaced order a n p = refl
replaced trigger a n p = refl

-- ---- the place of the first name that is not declared

pub missing_in : Resolved → Option ℕ
missing_in (all is) = None
missing_in (missing p) = Some p

missing_after : (i : Item) (r : Resolved) → missing_in (and_then i r) ≡ missing_in r
unfolding missing_in
missing_after i (all is) = refl
missing_after i (missing p) = refl

none_missing : (r : Resolved) → missing_in r ≡ None → ((unless_missing r).number ≡ done) × ((unless_missing r).place ≡ 0)
unfolding missing_in
none_missing (all is) e = (refl, refl)
none_missing (missing p) e = let z : ◌≡◌ {A = ℕ} 0 1 = cc in absurd (omega arith)

one_missing : (r : Resolved) {p : ℕ} → missing_in r ≡ Some p → ((unless_missing r).number ≡ name_not_declared) × ((unless_missing r).place ≡ p)
unfolding missing_in
one_missing (all is) e = let z : ◌≡◌ {A = ℕ} 0 1 = cc in absurd (omega arith)
one_missing (missing q) e = (refl, cc)

-- ---- the pass

pub length_rewritten : (text : List ℕ) (ds : List Named) (is : List Item) → length (rewritten text ds is) ≡ length is
unfolding rewritten
length_rewritten text ds [] = refl
length_rewritten text ds (i ∷ is) = by (part i) (length_rewritten text ds is)
  where
    called : (u : Use) (a : ℕ) (f : Option ℕ) → length (rewritten text ds is) ≡ length is
        → length (if_called u a f i is (rewritten text ds is)) ≡ suc (length is)
    called u a (Some n) e = ap suc e
    called u a None e = refl

    by : (q : Part) → length (rewritten text ds is) ≡ length is → length (rewritten_by text ds q i is (rewritten text ds is)) ≡ suc (length is)
    by (declares k p) e = ap suc e
    by (gives g a b) e = ap suc e
    by (uses u a p) e = called u a (called_in text ds (meant u) (name_at text p)) e
    by (says m) e = ap suc e

module _ (text : List ℕ) (ds : List Named) (is : List Item) where
  -- before the i-th item, the slice is l
  pub record Replacing (l : List Item) (i : ℕ) : Type 0 where
    pub within : i ≤ length is
    pub held : l ≡ begun_with i (rewritten text ds is) is
    pub room : length l ≡ length is
    pub rest : drop i (rewritten text ds is) ≡ rewritten text ds (drop i is)
    pub missed : missing_in (resolved text ds (drop i is)) ≡ missing_in (resolved text ds is)

  pub replacing_none : Replacing is 0
  replacing_none = record { within = omega arith; held = refl; room = refl; rest = refl; missed = refl }

  module _ {l : List Item} {i : ℕ} (p : Replacing l i) where
    -- the pass ends
    pub replacing_all : length is ≤ i → SecondPass text ds is (Ok tt) l
    unfolding missing_in resolved
    replacing_all h =
        let e = length_rewritten text ds is in
        let w = none_missing (resolved text ds is) (sym p.missed ∙ ap (λ xs. missing_in (resolved text ds xs)) (drop_of_length-le is h)) in
        record {
          told = w;
          left = p.held ∙ begun_all (rewritten text ds is) is i (omega arith) h;
        }

    -- the item that stands here uses r
    module _ (h : i < length is) (none : Item) where
      short : i ≤ length (rewritten text ds is)
      short = omega (arith, length_rewritten text ds is)

      pub item_here : get_or l i none ≡ get_or is i none
      item_here =
          ap (λ t. get_or t i none) p.held
          ∙ begun_at (rewritten text ds is) is i none short h

      module _ {r : Option (Scope × ℕ)} (e : r ≡ used_name (part (get_or is i none))) where
        abbrev after : List Item
        after = drop (i + 1) is

        -- it uses no name
        pub replacing_on : r ≡ None → Replacing l (i + 1)
        unfolding rewritten resolved Stays
        replacing_on o =
            let x = get_or is i none in
            let w = unused text ds (part x) (sym e ∙ o) in
            let y : drop i (rewritten text ds is) ≡ x ∷ rewritten text ds after =
            p.rest ∙ ap (rewritten text ds) (here is i none h) ∙ w.0 x after (rewritten text ds after) in
            let m : missing_in (resolved text ds (drop i is)) ≡ missing_in (resolved text ds after) =
            ap (λ xs. missing_in (resolved text ds xs)) (here is i none h)
            ∙ ap missing_in (w.1 x (resolved text ds after)) ∙ missing_after x (resolved text ds after) in
            record {
              within = omega arith;
              held = p.held ∙ begun_same (rewritten text ds is) is i y h (head_at is i (here is i none h) x);
              room = p.room;
              rest = head_rest (rewritten text ds is) i y;
              missed = sym m ∙ p.missed;
            }

        -- it uses a name at the place q
        module _ {s : Scope} {q : ℕ} (g : r ≡ Some (s, q)) {f : Option ℕ} (c : f ≡ called_in text ds (kinds_in s) (name_at text q)) where
          the_use : Using (part (get_or is i none)) s q
          the_use = name_used (part (get_or is i none)) (sym e ∙ g)

          called : f ≡ called_in text ds (meant the_use.use') (name_at text q)
          called = c ∙ ap (λ ks. called_in text ds ks (name_at text q)) the_use.meaning

          rewritten_here : rewritten text ds (drop i is)
              ≡ if_called the_use.use' the_use.amount f (get_or is i none) after (rewritten text ds after)
          unfolding rewritten
          rewritten_here =
              ap (rewritten text ds) (here is i none h)
              ∙ ap (λ a. rewritten_by text ds a (get_or is i none) after (rewritten text ds after)) the_use.is
              ∙ ap (λ b. if_called the_use.use' the_use.amount b (get_or is i none) after (rewritten text ds after)) (sym called)

          resolved_here : resolved text ds (drop i is) ≡ if_found the_use.use' the_use.amount q f (resolved text ds after)
          unfolding resolved
          resolved_here =
              ap (resolved text ds) (here is i none h)
              ∙ ap (λ a. resolved_by text ds (get_or is i none) a (resolved text ds after)) the_use.is
              ∙ ap (λ b. if_found the_use.use' the_use.amount q b (resolved text ds after)) (sym called)

          -- which is not declared
          pub replacing_stop : f ≡ None
              → SecondPass text ds is (Err (record { reason = NameNotDeclared; place = q })) l
          unfolding missing_in
          replacing_stop z =
              let y : drop i (rewritten text ds is) ≡ drop i is =
              p.rest ∙ rewritten_here
              ∙ ap (λ b. if_called the_use.use' the_use.amount b (get_or is i none) after (rewritten text ds after)) z
              ∙ sym (here is i none h) in
              let m : missing_in (resolved text ds (drop i is)) ≡ Some q =
              ap missing_in (resolved_here ∙ ap (λ b. if_found the_use.use' the_use.amount q b (resolved text ds after)) z) in
              let w = one_missing (resolved text ds is) (sym p.missed ∙ m) in
              record {
                told = w;
                left = p.held ∙ ap (λ t. take i (rewritten text ds is) ++ t) (sym y) ∙ take-append-drop i (rewritten text ds is);
              }

          -- whose declaration has the number k
          pub replacing_more : {k : ℕ} {l' : List Item} → f ≡ Some k → l' ≡ set l i (with_place (get_or is i none) k) → Replacing l' (i + 1)
          replacing_more {k} z stored =
              let x = get_or is i none in
              let u = the_use.use' in
              let a = the_use.amount in
              let new = rewritten text ds is in
              let y : drop i new ≡ numbered u a k ∷ rewritten text ds after =
              p.rest ∙ rewritten_here ∙ ap (λ b. if_called u a b x after (rewritten text ds after)) z in
              let m : missing_in (resolved text ds (drop i is)) ≡ missing_in (resolved text ds after) =
              ap missing_in (resolved_here ∙ ap (λ b. if_found u a q b (resolved text ds after)) z)
              ∙ missing_after (numbered u a k) (resolved text ds after) in
              let w : with_place x k ≡ numbered u a k =
              ap (λ j. with_place j k) (sym (numbered_part x the_use.is)) ∙ replaced u a k q in
              record {
                within = omega arith;
                held = stored ∙ ap (set l i) w ∙ ap (λ t. set t i (numbered u a k)) p.held ∙ begun_set new is i y h;
                room = ap length stored ∙ simp length-set p.room;
                rest = head_rest new i y;
                missed = sym m ∙ p.missed;
              }
