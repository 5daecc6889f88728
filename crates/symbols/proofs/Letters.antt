-- Laws of names: of the name that stands at a place, and of the test that two names are the same.
-- Assumes nothing.
use Prim.Native.Nat.{ℕ, suc, min, ◌+◌, ◌-◌, ◌<◌, ◌≤◌}
use mathlib.Core.Path.{◌≡◌, refl, sym, ◌∙◌, ap}
use mathlib.Core.Logic.{◌↔◌}
use mathlib.Core.List.{List, [], ◌∷◌, map}
use mathlib.Core.Bool.{Bool, true, false, not, cond, ◌&&◌, and-eq-true_iff, false≢true}
use native.Mathlib.Omega.{arith}
use borrow.Author.Tests.{eqb-true, eq-eqb}
use lib.ListN.{length, get_or, drop, drop_of_length-le}
use lib.Dec.{ltb, eqb}
use Rattle.std.specs.Bool.{IsTrue, Decides}
use Rattle.std.specs.Prelude.{Option, None, Some, unwrap_or}
use Rattle.std.specs.Char.{to_ascii_lowercase, to_ascii_uppercase, is_ascii_alphabetic}
use Rattle.std.proofs.lemmas.Bool.Decides.{same_from_decides, nat_tests}
use Rattle.std.specs.List.{position_or_len, zip}
use Rattle.std.proofs.lemmas.Slice.Zip.{length-zip}
use Rattle.symbols.specs.Bytes.{among, is_digit, is_capital, is_letter, in_name, small, same, take_while}
use Rattle.symbols.specs.Names.{spelled, name_at, letter_of}
use Rattle.symbols.proofs.Scan.{drop_here, found_or_length}

-- the test that two names are the same is true just where the lists are equal
pub same_true : (xs ys : List ℕ) → same xs ys ≡ true → xs ≡ ys
unfolding same
same_true [] [] e = refl
same_true [] (y ∷ ys) e = absurd (false≢true e)
same_true (x ∷ xs) [] e = absurd (false≢true e)
same_true (x ∷ xs) (y ∷ ys) e =
    let h = (and-eq-true_iff (eqb x y) (same xs ys)).0 e in
    let q = eqb-true x y h.0 in
    let r = same_true xs ys h.1 in
    cc

pub same_refl : (xs : List ℕ) → same xs xs ≡ true
unfolding same
same_refl [] = refl
same_refl (x ∷ xs) = rw (eq-eqb x x refl) (same_refl xs)

pub same_eq : (xs ys : List ℕ) → (same xs ys ≡ true) ↔ (xs ≡ ys)
same_eq xs ys = (same_true xs ys, λ e. rw e (same_refl ys))

-- the name at a place of the text
module _ (text : List ℕ) (i : ℕ) where
  pub name_out : length text ≤ i → name_at text i ≡ []
  unfolding name_at spelled take_while
  name_out h = rw (drop_of_length-le text h)

  pub name_stop : i < length text → in_name (get_or text i 0) ≡ false → name_at text i ≡ []
  unfolding name_at spelled take_while
  name_stop h e = rw (drop_here text i h, take_while, e)

  pub name_on : i < length text → in_name (get_or text i 0) ≡ true → name_at text i ≡ small (get_or text i 0) ∷ name_at text (i + 1)
  unfolding name_at spelled take_while
  name_on h e = rw (drop_here text i h, take_while, e)

-- a small letter, as the library has it
pub small_lower : (b : ℕ) → small b ≡ to_ascii_lowercase b
unfolding small is_capital
small_lower b = grind (arith, nat_tests)

pub spelled_lower : (name : List ℕ) → spelled name ≡ map to_ascii_lowercase name
unfolding spelled
spelled_lower [] = refl
spelled_lower (b ∷ rest) = let h = spelled_lower rest in let k = small_lower b in cc

-- the library's test without regard to capitals
pub same_lower : (r : Bool) (a b : List ℕ) → IsTrue r ↔ (map to_ascii_lowercase a ≡ map to_ascii_lowercase b)
    → r ≡ same (spelled a) (spelled b)
same_lower r a b e = same_from_decides r (same (spelled a) (spelled b)) e tells
  where
    tells : Decides (same (spelled a) (spelled b)) (map to_ascii_lowercase a ≡ map to_ascii_lowercase b)
    tells = (
      λ q. sym (spelled_lower a) ∙ same_true (spelled a) (spelled b) q ∙ spelled_lower b,
      λ q. ap (λ (l : List ℕ). same l (spelled b)) (spelled_lower a ∙ q ∙ sym (spelled_lower b)) ∙ same_refl (spelled b),
    )

-- past the end of a text 0 is read, which is in no name
pub zero_outside : in_name 0 ≡ false
unfolding in_name is_letter is_digit is_capital
zero_outside = refl

small_in_name : (b : ℕ) → in_name (small b) ≡ in_name b
unfolding in_name is_letter is_digit is_capital small
small_in_name b = grind (arith, nat_tests)

both_in_name : (x y : ℕ) → eqb (small x) (small y) ≡ true → in_name x ≡ in_name y
both_in_name x y e = sym (small_in_name x) ∙ ap in_name (eqb-true _ _ e) ∙ small_in_name y

-- two names go on with the same letter
abbrev pub same_letter : ℕ × ℕ → Bool
same_letter p = in_name p.0 && eqb (small p.0) (small p.1)

-- how far two texts go on with the same letters
abbrev pub common : List ℕ → List ℕ → ℕ
common a b = position_or_len (λ p. not (same_letter p)) (zip a b)

-- the names that two texts begin with are the same just where neither goes on there
abbrev ends : List ℕ → List ℕ → ℕ → Bool
ends a b n = not (in_name (get_or a n 0)) && not (in_name (get_or b n 0))

pub same_ends : (a b : List ℕ) → ends a b (common a b) ≡ same (spelled (take_while in_name a)) (spelled (take_while in_name b))
unfolding same spelled take_while
same_ends [] [] = rw zero_outside
same_ends [] (y ∷ ys) = rw zero_outside (go (in_name y))
  where
    go : (u : Bool) → not u ≡ same [] (map small (elim u [ true ↦ y ∷ take_while in_name ys | false ↦ [] ]))
    go true = refl
    go false = refl
same_ends (x ∷ xs) [] = rw zero_outside (go (in_name x))
  where
    go : (t : Bool) → not t && true ≡ same (map small (elim t [ true ↦ x ∷ take_while in_name xs | false ↦ [] ])) []
    go true = refl
    go false = refl
same_ends (x ∷ xs) (y ∷ ys) = go (in_name x) (in_name y) (eqb (small x) (small y)) refl refl refl (same_ends xs ys)
  where
    go : (t u s : Bool) → in_name x ≡ t → in_name y ≡ u → eqb (small x) (small y) ≡ s
        → ends xs ys (common xs ys) ≡ same (map small (take_while in_name xs)) (map small (take_while in_name ys))
        → ends (x ∷ xs) (y ∷ ys) (cond (not (not (t && s))) (1 + common xs ys) 0)
        ≡ same (map small (elim t [ true ↦ x ∷ take_while in_name xs | false ↦ [] ])) (map small (elim u [ true ↦ y ∷ take_while in_name ys | false ↦ [] ]))
    go false false s p q e ih = rw (p, q)
    go false true s p q e ih = rw (p, q)
    go true false false p q e ih = rw p
    go true true false p q e ih = rw (p, e)
    go true false true p q e ih = absurd (false≢true (sym q ∙ sym (both_in_name x y e) ∙ p))
    go true true true p q e ih = let k : 1 + common xs ys ≡ suc (common xs ys) = omega arith in rw (e, k) ih

-- the walk over the pairs finds that place, or comes to the end of the shorter text
pub common_found : (a b : List ℕ) {shorter : ℕ} → shorter ≡ min (length a) (length b) → {r : Option ℕ}
    → r ≡ cond (ltb (common a b) (length (zip a b))) (Some (common a b)) None
    → unwrap_or r shorter ≡ common a b
common_found a b s e = rw (s, ← length-zip a b) (found_or_length (λ p. not (same_letter p)) (zip a b) e)

pub names_compared : (text : List ℕ) (p q : ℕ) {a b : List ℕ} → a ≡ drop p text → b ≡ drop q text → {n : ℕ} → n ≡ common a b
    → ends a b n ≡ same (name_at text p) (name_at text q)
unfolding name_at
names_compared text p q {a} {b} e f g = rw (g, ← e, ← f) (same_ends a b)

-- one byte as a letter
pub letter_none : (l : List ℕ) → length l ≡ 0 → None ≡ letter_of l
unfolding letter_of
letter_none [] h = refl
letter_none (b ∷ rest) h = absurd (omega arith)

pub letter_more : (l : List ℕ) → 2 ≤ length l → None ≡ letter_of l
unfolding letter_of
letter_more [] h = absurd (omega arith)
letter_more (b ∷ []) h = absurd (omega arith)
letter_more (b ∷ c ∷ rest) h = refl

letter_test : (b : ℕ) → among "a" "z" (small b) ≡ is_ascii_alphabetic b
unfolding small is_capital
letter_test b = grind (arith, nat_tests)

letter_capital : (b : ℕ) → is_ascii_alphabetic b ≡ true → to_ascii_uppercase b ≡ small b - 32
unfolding small is_capital
letter_capital b h = grind (arith, nat_tests)

pub letter_other : (l : List ℕ) → length l ≡ 1 → is_ascii_alphabetic (get_or l 0 0) ≡ false → None ≡ letter_of l
unfolding letter_of
letter_other [] h a = refl
letter_other (b ∷ []) h a = rw (letter_test b, a)
letter_other (b ∷ c ∷ rest) h a = refl

pub letter_right : (l : List ℕ) → length l ≡ 1 → is_ascii_alphabetic (get_or l 0 0) ≡ true → {u : ℕ} → u ≡ to_ascii_uppercase (get_or l 0 0)
    → Some u ≡ letter_of l
unfolding letter_of
letter_right [] h a e = absurd (omega arith)
letter_right (b ∷ []) h a e = rw (e, letter_test b, a) (ap Some (letter_capital b a))
letter_right (b ∷ c ∷ rest) h a e = absurd (omega arith)
