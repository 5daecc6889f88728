-- Laws of what placeholders see in items, item by item. Assumes nothing.
use mathlib.Core.Path.{◌≡◌, refl, ◌∙◌, ap}
use mathlib.Core.Bool.{Bool, true, false, cond}
use mathlib.Core.List.{List, [], ◌∷◌}
use Prim.Native.Nat.{ℕ, ◌+◌, ◌≤◌, ◌<◌}
use native.Mathlib.Omega.{arith}
use native.Mathlib.Numerals.{add-one}
use lib.ListN.{length, get_or, drop, drop_of_length-le}
use lib.Seq.{drop-cons}
use Rattle.std.specs.List.{prefix_len}
use Rattle.grammar.specs.declared.Form.{Form}
use Rattle.grammar.specs.declared.Item.{Item}
use Rattle.placeholders.specs.declared.Seen.{Seen}
use Rattle.placeholders.specs.declared.Seen.TheVariants.{Other, Declares, Names, Wants, Calls, Hands}
use Rattle.std.specs.Prelude.{Some, None}
use Rattle.placeholders.specs.Placeholders.{seen, named, handed}
use Rattle.placeholders.specs.Filling.{wanted_by}
use Rattle.placeholders.specs.Inner.{names_in}

-- whether a name in the brackets is seen, or a number that a call gives
abbrev pub is_name : Seen → Bool
is_name Other = false
is_name Declares = false
is_name (Names p) = true
is_name (Wants f p) = false
is_name (Calls q k) = false
is_name (Hands n) = false

abbrev pub is_number : Seen → Bool
is_number Other = false
is_number Declares = false
is_number (Names p) = false
is_number (Wants f p) = false
is_number (Calls q k) = false
is_number (Hands n) = true

-- the names and the numbers that items begin with are counted by the tests
pub count_named : (is : List Item) → prefix_len (λ i. is_name (seen i)) is ≡ length (named is)
unfolding named
count_named [] = refl
count_named (i ∷ is) = go (seen i) (count_named is)
  where
    go : (s : Seen) → prefix_len (λ j. is_name (seen j)) is ≡ length (named is)
        → cond (is_name s) (1 + prefix_len (λ j. is_name (seen j)) is) 0
        ≡ length {A = ℕ} (elim s [ Names p ↦ p ∷ named is | Other ↦ [] | Declares ↦ [] | Wants f p ↦ [] | Calls q k ↦ [] | Hands n ↦ [] ])
    go Other e = refl
    go Declares e = refl
    go (Names p) e = omega (arith, e)
    go (Wants f p) e = refl
    go (Calls q k) e = refl
    go (Hands n) e = refl

pub count_handed : (is : List Item) → prefix_len (λ i. is_number (seen i)) is ≡ length (handed is)
unfolding handed
count_handed [] = refl
count_handed (i ∷ is) = go (seen i) (count_handed is)
  where
    go : (s : Seen) → prefix_len (λ j. is_number (seen j)) is ≡ length (handed is)
        → cond (is_number s) (1 + prefix_len (λ j. is_number (seen j)) is) 0
        ≡ length {A = ℕ} (elim s [ Hands n ↦ n ∷ handed is | Other ↦ [] | Declares ↦ [] | Names p ↦ [] | Wants f p ↦ [] | Calls q k ↦ [] ])
    go Other e = refl
    go Declares e = refl
    go (Names p) e = refl
    go (Wants f p) e = refl
    go (Calls q k) e = refl
    go (Hands n) e = omega (arith, e)

-- ---- what is seen in an item is not one of some variants: where a match falls through

module _ (x : Item) {s : Seen} (e : s ≡ seen x) (is : List Item) where
  module _ (h : (p : ℕ) → s ≡ Names p → ⊥) where
    pub named_none : named (x ∷ is) ≡ []
    unfolding named
    named_none = go s e h
      where
        go : (s : Seen) → s ≡ seen x → ((p : ℕ) → s ≡ Names p → ⊥) → named (x ∷ is) ≡ []
        go Other e h = rw (← e, named)
        go Declares e h = rw (← e, named)
        go (Names p) e h = absurd (h p refl)
        go (Wants f p) e h = rw (← e, named)
        go (Calls q k) e h = rw (← e, named)
        go (Hands n) e h = rw (← e, named)

    names_later : names_in (x ∷ is) ≡ names_in is
    unfolding names_in
    names_later = go s e h
      where
        go : (s : Seen) → s ≡ seen x → ((p : ℕ) → s ≡ Names p → ⊥) → names_in (x ∷ is) ≡ names_in is
        go Other e h = rw (← e, names_in)
        go Declares e h = rw (← e, names_in)
        go (Names p) e h = absurd (h p refl)
        go (Wants f p) e h = rw (← e, names_in)
        go (Calls q k) e h = rw (← e, names_in)
        go (Hands n) e h = rw (← e, names_in)

    wanted_none : ((f : Form) (p : ℕ) → s ≡ Wants f p → ⊥) → wanted_by (x ∷ is) ≡ None
    unfolding wanted_by
    wanted_none g = go s e h g
      where
        go : (s : Seen) → s ≡ seen x → ((p : ℕ) → s ≡ Names p → ⊥) → ((f : Form) (p : ℕ) → s ≡ Wants f p → ⊥) → wanted_by (x ∷ is) ≡ None
        go Other e h g = rw (← e, wanted_by)
        go Declares e h g = rw (← e, wanted_by)
        go (Names p) e h g = absurd (h p refl)
        go (Wants f p) e h g = absurd (g f p refl)
        go (Calls q k) e h g = rw (← e, wanted_by)
        go (Hands n) e h g = rw (← e, wanted_by)

  pub handed_none : ((n : ℕ) → s ≡ Hands n → ⊥) → handed (x ∷ is) ≡ []
  unfolding handed
  handed_none h = go s e h
    where
      go : (s : Seen) → s ≡ seen x → ((n : ℕ) → s ≡ Hands n → ⊥) → handed (x ∷ is) ≡ []
      go Other e h = rw (← e, handed)
      go Declares e h = rw (← e, handed)
      go (Names p) e h = rw (← e, handed)
      go (Wants f p) e h = rw (← e, handed)
      go (Calls q k) e h = rw (← e, handed)
      go (Hands n) e h = absurd (h n refl)

  pub named_first : {p : ℕ} → s ≡ Names p → named (x ∷ is) ≡ p ∷ named is
  unfolding named
  named_first h = rw (← e, h, named)

  pub handed_first : {n : ℕ} → s ≡ Hands n → handed (x ∷ is) ≡ n ∷ handed is
  unfolding handed
  handed_first h = rw (← e, h, handed)

-- ---- the items from the i-th on

module _ (is : List Item) (i : ℕ) where
  pub named_end : length is ≤ i → named (drop i is) ≡ []
  unfolding named
  named_end h = ap named (drop_of_length-le is h)

  pub names_end : length is ≤ i → names_in (drop i is) ≡ []
  unfolding names_in
  names_end h = ap names_in (drop_of_length-le is h)

  pub handed_end : length is ≤ i → handed (drop i is) ≡ []
  unfolding handed
  handed_end h = ap handed (drop_of_length-le is h)

  pub wanted_end : length is ≤ i → wanted_by (drop i is) ≡ None
  unfolding wanted_by
  wanted_end h = ap wanted_by (drop_of_length-le is h)

  module _ (h : i < length is) (d : Item) where
    pub next_item : drop i is ≡ get_or is i d ∷ drop (i + 1) is
    next_item = rw add-one (drop-cons is i d h)

    module _ {s : Seen} (t : s ≡ seen (get_or is i d)) where
      pub named_more : {p : ℕ} → s ≡ Names p → named (drop i is) ≡ p ∷ named (drop (i + 1) is)
      unfolding named
      named_more e = ap named next_item ∙ rw (← t, e, named)

      pub named_stop : ((p : ℕ) → s ≡ Names p → ⊥) → named (drop i is) ≡ []
      named_stop e = ap named next_item ∙ named_none (get_or is i d) t (drop (i + 1) is) e

      pub names_more : {p : ℕ} → s ≡ Names p → names_in (drop i is) ≡ p ∷ names_in (drop (i + 1) is)
      unfolding names_in
      names_more e = ap names_in next_item ∙ rw (← t, e, names_in)

      pub names_skip : ((p : ℕ) → s ≡ Names p → ⊥) → names_in (drop i is) ≡ names_in (drop (i + 1) is)
      names_skip e = ap names_in next_item ∙ names_later (get_or is i d) t (drop (i + 1) is) e

      pub handed_more : {n : ℕ} → s ≡ Hands n → handed (drop i is) ≡ n ∷ handed (drop (i + 1) is)
      unfolding handed
      handed_more e = ap handed next_item ∙ rw (← t, e, handed)

      pub handed_stop : ((n : ℕ) → s ≡ Hands n → ⊥) → handed (drop i is) ≡ []
      handed_stop e = ap handed next_item ∙ handed_none (get_or is i d) t (drop (i + 1) is) e

      pub wanted_later : {p : ℕ} → s ≡ Names p → wanted_by (drop i is) ≡ wanted_by (drop (i + 1) is)
      unfolding wanted_by
      wanted_later e = ap wanted_by next_item ∙ rw (← t, e, wanted_by)

      pub wanted_here : {f : Form} {p : ℕ} → s ≡ Wants f p → wanted_by (drop i is) ≡ Some (record { form = f; name = p })
      unfolding wanted_by
      wanted_here e = ap wanted_by next_item ∙ rw (← t, e, wanted_by)

      pub wanted_stop : ((p : ℕ) → s ≡ Names p → ⊥) → ((f : Form) (p : ℕ) → s ≡ Wants f p → ⊥) → wanted_by (drop i is) ≡ None
      wanted_stop e g = ap wanted_by next_item ∙ wanted_none (get_or is i d) t (drop (i + 1) is) e g
