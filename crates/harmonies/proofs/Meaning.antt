-- What a chord and a match are.
use mathlib.Core.Path.{◌≡◌, refl, sym, ap, ◌∙◌}
use mathlib.Core.Bool.{Bool, true, false, cond, ◌&&◌, ◌||◌, or-false}
use mathlib.Core.List.{List, [], ◌∷◌, Memᴰ}
use Prim.Native.Nat.{ℕ, zero, suc, ◌<◌}
use native.Mathlib.Omega.{arith}
use borrow.Author.Tests.{eqb-true, eq-eqb, ltb-true, lt-ltb}
use lib.Dec.{eqb, ltb}
use Rattle.limits.specs.Limits.{most_positions}
use Rattle.sets.specs.Sets.{has, added, implies}
use Rattle.sets.proofs.Tests.{never, both, both_left, both_right, either_left, either_right, implies_gives, gives_implies}
use Rattle.sets.proofs.Tests.{all_gives, gives_all, Some, any_gives, gives_any}
use Rattle.sets.proofs.Members.{has_zero, has_added, has_set_of}
use Rattle.tuning.specs.Tuning.{position_in}
use Rattle.keys.specs.declared.HeldKeys.{HeldKeys}
use Rattle.keys.specs.Keys.{Place, key_count, is_held}
use Rattle.harmonies.specs.declared.Harmony.{Harmony}
use Rattle.harmonies.specs.Harmonies.{is_down, is_held_at, fits, matches, HarmonyKey, naming, naming_all, harmony_of}
use Rattle.harmonies.specs.Meaning.{HeldAt, Projected, Names, Exactly, Matching, KeysInRange}

-- ---- the chord

module _ (h : HeldKeys) (anchor width r : ℕ) where
  held_at : (x : ℕ) → x < key_count → is_down h x ≡ true → position_in anchor width x ≡ r → HeldAt h anchor width r
  held_at x l d e = go (is_held h 1 x) refl d
    where
      go : (t : Bool) → is_held h 1 x ≡ t → t || is_held h 2 x ≡ true → HeldAt h anchor width r
      go true p q = record { house = 1; key = x; place = record { first = omega arith; last = omega arith; high = l }; held = p; position = e }
      go false p q = record { house = 2; key = x; place = record { first = omega arith; last = omega arith; high = l }; held = q; position = e }

  down_from : (house x : ℕ) → Place house x → is_held h house x ≡ true → is_down h x ≡ true
  down_from zero x p e = let z : ⊥ = omega arith in absurd z
  down_from (suc zero) x p e = either_left (is_held h 1 x) (is_held h 2 x) e
  down_from (suc (suc zero)) x p e = either_right (is_held h 1 x) (is_held h 2 x) e
  down_from (suc (suc (suc house))) x p e = let z : ⊥ = omega arith in absurd z

  abbrev test : ℕ → Bool
  test x = is_down h x && eqb (position_in anchor width x) r

  from_some : Some key_count test → HeldAt h anchor width r
  from_some s =
      let x = s.number in
      let down = is_down h x in
      let here = eqb (position_in anchor width x) r in
      held_at x s.below (both_left down here s.passes) (eqb-true (position_in anchor width x) r (both_right down here s.passes))

  to_some : HeldAt h anchor width r → Some key_count test
  to_some k = record {
    number = k.key;
    below = k.place.high;
    passes =
        both (is_down h k.key) (eqb (position_in anchor width k.key) r) (down_from k.house k.key k.place k.held)
        (eq-eqb (position_in anchor width k.key) r k.position);
  }

  pub projected : r < most_positions → Projected h anchor width r
  projected l =
      let member = has_set_of most_positions (is_held_at h anchor width) r l in
      record {
        from = λ e. from_some (any_gives key_count test (sym member ∙ e));
        to = λ k. member ∙ gives_any key_count test (to_some k);
      }

-- ---- the numbers that a harmony names, and those that it needs

abbrev names : List HarmonyKey → ℕ → Bool
names [] r = false
names (k ∷ ks) r = eqb r k.key || names ks r

abbrev needs : List HarmonyKey → ℕ → Bool
needs [] r = false
needs (k ∷ ks) r = cond k.starred (needs ks r) (eqb r k.key || needs ks r)

swap : (a b c : Bool) → a || (b || c) ≡ (b || a) || c
swap true true c = refl
swap true false c = refl
swap false b c = sym (ap (λ (x : Bool). x || c) (or-false b))

named_has : (y : Harmony) (ks : List HarmonyKey) (r : ℕ) → has (naming_all y ks).named r ≡ names ks r || has y.named r
named_has y [] r = refl
named_has y (k ∷ ks) r =
    named_has (naming y k) ks r ∙ ap (λ (b : Bool). names ks r || b) (has_added y.named k.key r) ∙ swap (names ks r) (eqb r k.key) (has y.named r)

needed_has : (y : Harmony) (ks : List HarmonyKey) (r : ℕ) → has (naming_all y ks).needed r ≡ needs ks r || has y.needed r
needed_has y [] r = refl
needed_has y (k ∷ ks) r = needed_has (naming y k) ks r ∙ go k.starred
  where
    go : (t : Bool)
        → needs ks r || has (cond t y.needed (added y.needed k.key)) r ≡ cond t (needs ks r) (eqb r k.key || needs ks r) || has y.needed r
    go true = refl
    go false = ap (λ (b : Bool). needs ks r || b) (has_added y.needed k.key r) ∙ swap (needs ks r) (eqb r k.key) (has y.needed r)

named : (ks : List HarmonyKey) (r : ℕ) → has (harmony_of ks).named r ≡ names ks r
named ks r = named_has _ ks r ∙ ap (λ (b : Bool). names ks r || b) (has_zero r) ∙ or-false (names ks r)

needed : (ks : List HarmonyKey) (r : ℕ) → has (harmony_of ks).needed r ≡ needs ks r
needed ks r = needed_has _ ks r ∙ ap (λ (b : Bool). needs ks r || b) (has_zero r) ∙ or-false (needs ks r)

-- ---- as members of the list

later : {ks : List HarmonyKey} {r : ℕ} (k : HarmonyKey) → Names ks r → Names (k ∷ ks) r
later k n = record { by = n.by; among = Memᴰ.tail n.among; number = n.number }

names_gives : (ks : List HarmonyKey) (r : ℕ) → names ks r ≡ true → Names ks r
names_gives [] r e = never e refl
names_gives (k ∷ ks) r e = go (eqb r k.key) refl e (names_gives ks r)
  where
    go : (t : Bool) → eqb r k.key ≡ t → t || names ks r ≡ true → (names ks r ≡ true → Names ks r) → Names (k ∷ ks) r
    go true p q more = record { by = k; among = Memᴰ.head refl; number = sym (eqb-true r k.key p) }
    go false p q more = later k (more q)

gives_names : (k : HarmonyKey) (ks : List HarmonyKey) → Memᴰ k ks → names ks k.key ≡ true
gives_names k [] m = elim m [ ]
gives_names k (j ∷ ks) (Memᴰ.head e) = either_left (eqb k.key j.key) _ (eq-eqb k.key j.key (ap (λ (i : HarmonyKey). i.key) e))
gives_names k (j ∷ ks) (Memᴰ.tail m) = either_right (eqb k.key j.key) _ (gives_names k ks m)

-- an unstarred key with this number
record Needed (ks : List HarmonyKey) (r : ℕ) : Type 0 where
  pub by : HarmonyKey
  pub among : Memᴰ by ks
  pub plain : by.starred ≡ false
  pub number : by.key ≡ r

needs_gives : (ks : List HarmonyKey) (r : ℕ) → needs ks r ≡ true → Needed ks r
needs_gives [] r e = never e refl
needs_gives (k ∷ ks) r e = go k.starred refl (eqb r k.key) refl e (needs_gives ks r)
  where
    after : Needed ks r → Needed (k ∷ ks) r
    after n = record { by = n.by; among = Memᴰ.tail n.among; plain = n.plain; number = n.number }

    go : (s : Bool) → k.starred ≡ s → (t : Bool) → eqb r k.key ≡ t
        → cond s (needs ks r) (t || needs ks r) ≡ true → (needs ks r ≡ true → Needed ks r) → Needed (k ∷ ks) r
    go true p t o q more = after (more q)
    go false p true o q more = record { by = k; among = Memᴰ.head refl; plain = p; number = sym (eqb-true r k.key o) }
    go false p false o q more = after (more q)

gives_needs : (k : HarmonyKey) (ks : List HarmonyKey) → Memᴰ k ks → k.starred ≡ false → needs ks k.key ≡ true
gives_needs k [] m p = elim m [ ]
gives_needs k (j ∷ ks) (Memᴰ.head e) p =
    ap (λ (s : Bool). cond s (needs ks k.key) (eqb k.key j.key || needs ks k.key)) (sym (ap (λ (i : HarmonyKey). i.starred) e) ∙ p)
    ∙ either_left (eqb k.key j.key) _ (eq-eqb k.key j.key (ap (λ (i : HarmonyKey). i.key) e))
gives_needs k (j ∷ ks) (Memᴰ.tail m) p = go j.starred (gives_needs k ks m p)
  where
    go : (s : Bool) → needs ks k.key ≡ true → cond s (needs ks k.key) (eqb k.key j.key || needs ks k.key) ≡ true
    go true e = e
    go false e = either_right (eqb k.key j.key) _ e

-- ---- the match

module _ (ks : List HarmonyKey) (chord width : ℕ) where
  abbrev y : Harmony
  y = harmony_of ks

  -- the three tests of a number
  abbrev held_named : ℕ → Bool
  held_named r = implies (has chord r) (has y.named r)

  abbrev needed_held : ℕ → Bool
  needed_held r = implies (has y.needed r) (has chord r)

  abbrev named_low : ℕ → Bool
  named_low r = implies (has y.named r) (ltb r width)

  matches_gives : KeysInRange ks → matches chord width y ≡ true → Exactly chord width ks
  unfolding matches
  matches_gives low e =
      let all : (r : ℕ) → r < most_positions → fits chord width y r ≡ true = all_gives most_positions (fits chord width y) e in
      let two : (r : ℕ) → r < most_positions → held_named r && needed_held r ≡ true = λ r l. both_left (held_named r && needed_held r) (named_low r) (all r l) in
      let first : (r : ℕ) → r < most_positions → held_named r ≡ true = λ r l. both_left (held_named r) (needed_held r) (two r l) in
      let second : (r : ℕ) → r < most_positions → needed_held r ≡ true = λ r l. both_right (held_named r) (needed_held r) (two r l) in
      let third : (r : ℕ) → r < most_positions → named_low r ≡ true = λ r l. both_right (held_named r && needed_held r) (named_low r) (all r l) in
      record {
        all_below_width = λ k m.
            ltb-true k.key width
            (implies_gives (has y.named k.key) _ (third k.key (low k m)) (named ks k.key ∙ gives_names k ks m));
        unstarred_held = λ k m p.
            implies_gives (has y.needed k.key) _ (second k.key (low k m)) (needed ks k.key ∙ gives_needs k ks m p);
        nothing_else_held = λ r l p. names_gives ks r (sym (named ks r) ∙ implies_gives (has chord r) _ (first r l) p);
      }

  gives_matches : Exactly chord width ks → matches chord width y ≡ true
  unfolding matches
  gives_matches s =
      gives_all most_positions (fits chord width y)
      (λ r l. both (held_named r && needed_held r) (named_low r) (both (held_named r) (needed_held r) (held r l) (kept r)) (low r))
    where
      held : (r : ℕ) → r < most_positions → held_named r ≡ true
      held r l =
          gives_implies (has chord r) _
          (λ e. let n = s.nothing_else_held r l e in named ks r ∙ ap (names ks) (sym n.number) ∙ gives_names n.by ks n.among)

      kept : (r : ℕ) → needed_held r ≡ true
      kept r =
          gives_implies (has y.needed r) _
          (λ e. let n = needs_gives ks r (sym (needed ks r) ∙ e) in ap (has chord) (sym n.number) ∙ s.unstarred_held n.by n.among n.plain)

      low : (r : ℕ) → named_low r ≡ true
      low r =
          gives_implies (has y.named r) _
          (λ e. let n = names_gives ks r (sym (named ks r) ∙ e) in lt-ltb r width (rw (← n.number) (s.all_below_width n.by n.among)))

  pub matching : KeysInRange ks → Matching chord width ks
  matching low = record { from = matches_gives low; to = gives_matches }
