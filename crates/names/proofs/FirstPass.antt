-- Laws of the first pass over the items: what is kept of the declarations in front of an item.
-- Assumes nothing.
use Prim.Native.Nat.{ℕ, zero, suc, ◌+◌, ◌≤◌, ◌<◌}
use mathlib.Core.Path.{◌≡◌, refl, sym, ◌∙◌, ap, subst}
use mathlib.Core.List.{List, [], ◌∷◌, ◌++◌, map}
use native.Mathlib.Numerals.{add-one}
use native.Mathlib.Omega.{arith}
use lib.ListN.{length, get_or, take, drop, set, length-set, drop_of_length-le}
use Rattle.symbols.specs.Names.{name_at}
use Rattle.std.specs.Prelude.{Option, Some, None, Ok, Err}
use Rattle.status.specs.declared.Reason.TheVariants.{NameTwice}
use Rattle.grammar.specs.declared.Kind.{Kind}
use Rattle.grammar.specs.declared.Item.{Item}
use Rattle.grammar.specs.declared.Item.TheVariants as item
use Rattle.grammar.specs.Reading.{most_bytes}
use Rattle.names.specs.Parts.{Part, declares, gives, uses, says, part}
use Rattle.names.specs.Names.{Named, named_by, declared, bearer_of, no_repeat, repeat_at, twice_from}
use Rattle.names.specs.Inner.{packed, named_of, Kept, beginning_by, beginnings_from, beginnings, distinct_from, begun_with, InText, FirstPass}
use Rattle.names.proofs.Searching.{no_repeat_at}
use Rattle.names.proofs.Marks.{kept_names, kept_now}
use Rattle.names.proofs.PartsTold.{declared_part}
use Rattle.names.proofs.Lists.{head_fits, head_rest, head_taken, here, begun_set, drop_map}

-- ---- an item that declares no name

NoName : Part → Type 0
NoName q = ((ds : List Named) → named_by q ds ≡ ds) × ((i : ℕ) (xs : List ℕ) → beginning_by i q xs ≡ xs)

no_name : (q : Part) → ((k : Kind) (p : ℕ) → q ≡ declares k p → ⊥) → NoName q
unfolding NoName
no_name (declares k p) h = absurd (h k p refl)
no_name (gives g a b) h = (λ ds. refl, λ i xs. refl)
no_name (uses u a p) h = (λ ds. refl, λ i xs. refl)
no_name (says m) h = (λ ds. refl, λ i xs. refl)

-- ---- the declarations before the n-th, and those from it on

module _ (text : List ℕ) (ds : List Named) (n : ℕ) {d : Named} {rest : List Named} (e : drop n ds ≡ d ∷ rest) {f : Option ℕ}
    (q : f ≡ bearer_of text (take n ds) d.kind (name_at text d.place)) where
  twice_on : f ≡ None → twice_from text (take (n + 1) ds) (drop (n + 1) ds) ≡ twice_from text (take n ds) (drop n ds)
  unfolding twice_from
  twice_on z = rw (e, head_rest ds n e, head_taken ds n e, twice_from, ← q, z)

  twice_stop : {m : ℕ} → f ≡ Some m → twice_from text (take n ds) (drop n ds) ≡ repeat_at d.place
  unfolding twice_from
  twice_stop z = rw (e, twice_from, ← q, z)

  distinct_on : f ≡ None
      → distinct_from text (take n ds) (drop n ds) ≡ suc (distinct_from text (take (n + 1) ds) (drop (n + 1) ds))
  unfolding distinct_from
  distinct_on z = rw (e, head_rest ds n e, head_taken ds n e, distinct_from, ← q, z)

  distinct_stop : {m : ℕ} → f ≡ Some m → distinct_from text (take n ds) (drop n ds) ≡ 0
  unfolding distinct_from
  distinct_stop z = rw (e, distinct_from, ← q, z)

-- how many are kept: all of them, where no name stands twice
pub distinct_few : (text : List ℕ) (before ds : List Named) → distinct_from text before ds ≤ length ds
unfolding distinct_from
distinct_few text before [] = omega arith
distinct_few text before (d ∷ ds) = go (bearer_of text before d.kind (name_at text d.place)) (distinct_few text (before ++ d ∷ []) ds)
  where
    go : (f : Option ℕ) → distinct_from text (before ++ d ∷ []) ds ≤ length ds
        → elim f [ Some n ↦ 0 | None ↦ suc (distinct_from text (before ++ d ∷ []) ds) ] ≤ suc (length ds)
    go (Some n) h = omega arith
    go None h = omega arith

pub distinct_all : (text : List ℕ) (before ds : List Named) → twice_from text before ds ≡ no_repeat → distinct_from text before ds ≡ length ds
unfolding distinct_from twice_from
distinct_all text before [] e = refl
distinct_all text before (d ∷ ds) e = go (bearer_of text before d.kind (name_at text d.place)) (distinct_all text (before ++ d ∷ []) ds) e
  where
    go : (f : Option ℕ) → (twice_from text (before ++ d ∷ []) ds ≡ no_repeat → distinct_from text (before ++ d ∷ []) ds ≡ length ds)
        → elim f [ Some n ↦ repeat_at d.place | None ↦ twice_from text (before ++ d ∷ []) ds ] ≡ no_repeat
        → elim f [ Some n ↦ 0 | None ↦ suc (distinct_from text (before ++ d ∷ []) ds) ] ≡ suc (length ds)
    go (Some n) later q = absurd (no_repeat_at (sym q))
    go None later q = ap suc (later q)

-- and among those that are kept none does
pub distinct_once : (text : List ℕ) (before ds : List Named) (n : ℕ) → n ≤ distinct_from text before ds → twice_from text before (take n ds) ≡ no_repeat
unfolding distinct_from twice_from
distinct_once text before ds zero h = refl
distinct_once text before [] (suc n) h = absurd (omega arith)
distinct_once text before (d ∷ ds) (suc n) h =
    go (bearer_of text before d.kind (name_at text d.place)) (distinct_once text (before ++ d ∷ []) ds n) h
  where
    go : (f : Option ℕ) → (n ≤ distinct_from text (before ++ d ∷ []) ds → twice_from text (before ++ d ∷ []) (take n ds) ≡ no_repeat)
        → suc n ≤ elim f [ Some m ↦ 0 | None ↦ suc (distinct_from text (before ++ d ∷ []) ds) ]
        → elim f [ Some m ↦ repeat_at d.place | None ↦ twice_from text (before ++ d ∷ []) (take n ds) ] ≡ no_repeat
    go (Some m) later q = absurd (omega arith)
    go None later q = later (omega arith)

-- ---- the pass

module _ (text : List ℕ) (is : List Item) (names₀ starts₀ : List ℕ) where
  -- before the i-th item, n declarations are kept in l, and the indexes of their items in m
  pub record Passed (l m : List ℕ) (n i : ℕ) : Type 0 where
    pub within : i ≤ length is
    pub few : n ≤ length (declared is)
    pub names : drop n (declared is) ≡ declared (drop i is)
    pub starts : drop n (beginnings is) ≡ beginnings_from i (drop i is)
    pub near : InText (declared (drop i is))
    pub kept : l ≡ begun_with n (map (packed text) (declared is)) names₀
    pub begun : m ≡ begun_with n (beginnings is) starts₀
    pub room : length l ≡ length names₀
    pub space : length m ≡ length starts₀
    pub twice : twice_from text (take n (declared is)) (drop n (declared is)) ≡ twice_from text [] (declared is)
    pub distinct : n + distinct_from text (take n (declared is)) (drop n (declared is)) ≡ distinct_from text [] (declared is)

  pub passed_none : InText (declared is) → Passed names₀ starts₀ 0 0
  passed_none h =
      record {
        within = omega arith;
        few = omega arith;
        names = refl;
        starts = refl;
        near = h;
        kept = refl;
        begun = refl;
        room = refl;
        space = refl;
        twice = refl;
        distinct = omega arith;
      }

  module _ {l m : List ℕ} {n i : ℕ} (p : Passed l m n i) where
    -- what is kept is found by its marks
    pub passed_kept : Kept text (take n l)
    passed_kept = kept_now text (declared is) names₀ n p.few p.kept (distinct_once text [] (declared is) n (omega (arith, p.distinct)))

    -- the pass ends
    pub passed_all : length is ≤ i → FirstPass text is names₀ starts₀ (Ok n) l m
    unfolding declared twice_from distinct_from
    passed_all h =
        let z : drop n (declared is) ≡ [] = p.names ∙ ap declared (drop_of_length-le is h) in
        let t : twice_from text [] (declared is) ≡ no_repeat = sym p.twice ∙ ap (twice_from text (take n (declared is))) z in
        let c : n + 0 ≡ distinct_from text [] (declared is) = ap (λ ds. n + distinct_from text (take n (declared is)) ds) (sym z) ∙ p.distinct in
        let e : distinct_from text [] (declared is) ≡ n = omega arith in
        record { told = (rw t, rw t); count = sym e; kept = rw e p.kept; begun = rw e p.begun }

    -- the item that stands here
    module _ (h : i < length is) (none : Item) where
      abbrev after : List Item
      after = drop (i + 1) is

      -- it declares nothing
      pub passed_on : ((k : Kind) (q : ℕ) → get_or is i none ≡ item.Declared k q → ⊥) → Passed l m n (i + 1)
      unfolding declared beginnings_from NoName
      passed_on o =
          let w = no_name (part (get_or is i none)) (λ k q e. o k q (declared_part (get_or is i none) e)) in
          let s : declared (drop i is) ≡ declared after = ap declared (here is i none h) ∙ w.0 (declared after) in
          let b : beginnings_from i (drop i is) ≡ beginnings_from (i + 1) after =
          ap (beginnings_from i) (here is i none h) ∙ w.1 i (beginnings_from (suc i) after) ∙ ap (λ j. beginnings_from j after) (sym (add-one i)) in
          record {
            within = omega arith;
            few = p.few;
            names = p.names ∙ s;
            starts = p.starts ∙ b;
            near = subst InText s p.near;
            kept = p.kept;
            begun = p.begun;
            room = p.room;
            space = p.space;
            twice = p.twice;
            distinct = p.distinct;
          }

      -- it declares a name of the kind k at the place q
      module _ {k : Kind} {q : ℕ} (g : get_or is i none ≡ item.Declared k q) where
        names_here : drop n (declared is) ≡ record { kind = k; place = q } ∷ declared after
        unfolding declared
        names_here =
            p.names ∙ ap declared (here is i none h)
            ∙ ap (λ a. named_by a (declared after)) (ap part g)

        starts_here : drop n (beginnings is) ≡ i ∷ beginnings_from (i + 1) after
        unfolding beginnings_from
        starts_here =
            p.starts ∙ ap (beginnings_from i) (here is i none h)
            ∙ ap (λ a. beginning_by i a (beginnings_from (suc i) after)) (ap part g)
            ∙ ap (λ j. i ∷ beginnings_from j after) (sym (add-one i))

        near_here : InText (record { kind = k; place = q } ∷ declared after)
        near_here = subst InText (sym p.names ∙ names_here) p.near

        pub place_near : q ≤ most_bytes
        place_near = near_here.0

        pub one_more_holds : n < length (declared is)
        one_more_holds = head_fits (declared is) n names_here

        module _ {f : Option ℕ} (found : f ≡ bearer_of text (named_of (take n l)) k (name_at text q)) where
          found_before : f ≡ bearer_of text (take n (declared is)) k (name_at text q)
          found_before = found ∙ ap (λ ds. bearer_of text ds k (name_at text q)) (kept_names text (declared is) names₀ n p.few p.kept)

          -- the name stood before in its kind
          pub passed_stop : {j : ℕ} → f ≡ Some j → FirstPass text is names₀ starts₀ (Err (record { refusal = record { reason = NameTwice; place = q }; count = n })) l m
          passed_stop z =
              let t : twice_from text [] (declared is) ≡ repeat_at q = sym p.twice ∙ twice_stop text (declared is) n names_here found_before z in
              let s = distinct_stop text (declared is) n names_here found_before z in
              let c = p.distinct in
              let e : distinct_from text [] (declared is) ≡ n = omega arith in
              record { told = (rw t, rw t); count = sym e; kept = rw e p.kept; begun = rw e p.begun }

          -- it is kept
          pub passed_more : f ≡ None → {v : ℕ} → v ≡ packed text (record { kind = k; place = q }) → n < length l → n < length m
              → Passed (set l n v) (set m n i) (n + 1) (i + 1)
          passed_more z {v} w a b =
              let s = distinct_on text (declared is) n names_here found_before z in
              let c = p.distinct in
              let y : drop n (map (packed text) (declared is)) ≡ packed text (record { kind = k; place = q }) ∷ map (packed text) (declared after) =
              drop_map (packed text) n (declared is) ∙ ap (map (packed text)) names_here in
              record {
                within = omega arith;
                few = omega (arith, one_more_holds);
                names = head_rest (declared is) n names_here;
                starts = head_rest (beginnings is) n starts_here;
                near = near_here.1;
                kept = rw (w, p.kept) (begun_set (map (packed text) (declared is)) names₀ n y (omega (arith, p.room)));
                begun = rw p.begun (begun_set (beginnings is) starts₀ n starts_here (omega (arith, p.space)));
                room = simp length-set p.room;
                space = simp length-set p.space;
                twice = twice_on text (declared is) n names_here found_before z ∙ p.twice;
                distinct = omega arith;
              }
