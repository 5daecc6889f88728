-- Which keys are held after one has gone down or up: that one is or is not, and no other has changed.
use mathlib.Core.Path.{◌≡◌, refl, sym, ap, ◌∙◌}
use mathlib.Core.Bool.{Bool, true, false, cond}
use Prim.Native.Nat.{ℕ, zero, suc, ◌*◌, ◌/◌, ◌%◌, ◌<◌}
use native.Mathlib.Omega.{arith}
use borrow.Author.Tests.{eqb-true, eqb-false}
use lib.Dec.{eqb}
use lib.ListN.{length, get_or, replicate}
use lib.Seq.{get_or-set_same, get_or-set_other}
use Rattle.sets.specs.Sets.{has, added, removed}
use Rattle.sets.proofs.Members.{has_zero, has_added_same, has_added_other, has_removed_same, has_removed_other}
use Rattle.keys.specs.declared.HeldKeys.{HeldKeys}
use Rattle.keys.specs.Keys.{Place, place, key_count, word_of, with_word, word_count, is_held, with_key, without_key}
use Rattle.keys.specs.Laws.{NoneHeld, Only, OnlyThis}

zeros : (n i : ℕ) → ◌≡◌ {A = ℕ} (get_or (replicate n 0) i 0) 0
zeros zero i = refl
zeros (suc n) zero = refl
zeros (suc n) (suc i) = zeros n i

pub none_held : NoneHeld
none_held house key = let p = place house key in ap (λ (word : ℕ). has word (p % 64)) (zeros word_count (p / 64)) ∙ has_zero (p % 64)

-- ---- places

pub place_below : {house key : ℕ} → Place house key → place house key < 2 * key_count
place_below p = omega arith

-- two places of houses and keys are one only where house and key are
pub place_house : {house key house' key' : ℕ} → Place house key → Place house' key' → place house key ≡ place house' key' → house ≡ house'
place_house p q e = omega arith

pub place_key : {house key house' key' : ℕ} → Place house key → Place house' key' → place house key ≡ place house' key' → key ≡ key'
place_key p q e = omega arith

-- the held keys and this one, or without it
abbrev pub key_to : HeldKeys → ℕ → ℕ → Bool → HeldKeys
key_to h house key b = cond b (with_key h house key) (without_key h house key)

-- ---- a set of the words changed at one place

module _ (change : ℕ → ℕ → ℕ) (b : Bool) (same : (n r : ℕ) → has (change n r) r ≡ b) (other : (n r s : ℕ) → (s ≡ r → ⊥) → has (change n r) s ≡ has n s)
    (h : HeldKeys) (p : ℕ) (n : length h.words ≡ word_count) (l : p < 2 * key_count) where
  abbrev changed : HeldKeys
  changed = with_word h p (change (word_of h p) (p % 64))

  this_word : word_of changed p ≡ change (word_of h p) (p % 64)
  this_word = get_or-set_same h.words (p / 64) (change (word_of h p) (p % 64)) 0 (omega arith)

  at_same : has (word_of changed p) (p % 64) ≡ b
  at_same = rw this_word (same (word_of h p) (p % 64))

  at_other : (q : ℕ) → (q ≡ p → ⊥) → has (word_of changed q) (q % 64) ≡ has (word_of h q) (q % 64)
  at_other q d = go (eqb (q / 64) (p / 64)) refl
    where
      go : (t : Bool) → eqb (q / 64) (p / 64) ≡ t → has (word_of changed q) (q % 64) ≡ has (word_of h q) (q % 64)
      go true e =
          let i : q / 64 ≡ p / 64 = eqb-true (q / 64) (p / 64) e in
          ap (λ (i : ℕ). has (get_or changed.words i 0) (q % 64)) i
          ∙ ap (λ (word : ℕ). has word (q % 64)) this_word
          ∙ other (word_of h p) (p % 64) (q % 64) (λ f. d (omega (arith, i, f)))
          ∙ ap (λ (i : ℕ). has (get_or h.words i 0) (q % 64)) (sym i)
      go false e =
          ap (λ (word : ℕ). has word (q % 64)) (get_or-set_other h.words (p / 64) (q / 64) (change (word_of h p) (p % 64)) 0 (eqb-false (q / 64) (p / 64) e))

-- ---- the laws, for both

pub held_same : (h : HeldKeys) (house key : ℕ) (b : Bool) → length h.words ≡ word_count → Place house key → is_held (key_to h house key b) house key ≡ b
held_same h house key true n p = at_same added true has_added_same has_added_other h (place house key) n (place_below p)
held_same h house key false n p = at_same removed false has_removed_same has_removed_other h (place house key) n (place_below p)

pub held_other : (h : HeldKeys) (house key house' key' : ℕ) (b : Bool) → length h.words ≡ word_count → Place house key
    → (place house' key' ≡ place house key → ⊥) → is_held (key_to h house key b) house' key' ≡ is_held h house' key'
held_other h house key house' key' true n p d =
    at_other added true has_added_same has_added_other h (place house key) n (place_below p) (place house' key') d
held_other h house key house' key' false n p d =
    at_other removed false has_removed_same has_removed_other h (place house key) n (place_below p) (place house' key') d

pub held_after : (h : HeldKeys) (house key house' key' : ℕ) (b : Bool) → length h.words ≡ word_count → Place house key
    → is_held (key_to h house key b) house' key' ≡ cond (eqb (place house' key') (place house key)) b (is_held h house' key')
held_after h house key house' key' b n p = go (eqb (place house' key') (place house key)) refl
  where
    go : (t : Bool) → eqb (place house' key') (place house key) ≡ t → is_held (key_to h house key b) house' key' ≡ cond t b (is_held h house' key')
    go true e =
        ap (λ (i : ℕ). has (word_of (key_to h house key b) i) (i % 64)) (eqb-true (place house' key') (place house key) e) ∙ held_same h house key b n p
    go false e = held_other h house key house' key' b n p (eqb-false (place house' key') (place house key) e)

only : (h : HeldKeys) (house key : ℕ) (b : Bool) → length h.words ≡ word_count → Place house key → Only h (key_to h house key b) house key b
only h house key b n p = record {
  this = held_same h house key b n p;
  others = λ house' key' q d. held_other h house key house' key' b n p (λ e. d (place_house q p e) (place_key q p e));
}

pub only_this : OnlyThis
only_this = record {
  down = λ h house key n p. only h house key true n p;
  up = λ h house key n p. only h house key false n p;
}
