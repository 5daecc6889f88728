-- Laws of lists: the head of what is left, and a list that is written over from its front.
-- Assumes nothing.
use Prim.Native.Nat.{ℕ, zero, suc, ◌+◌, ◌≤◌, ◌<◌}
use mathlib.Core.Path.{◌≡◌, refl, sym, ◌∙◌, ap}
use mathlib.Core.List.{List, [], ◌∷◌, ◌++◌, map, append-nil}
use native.Mathlib.Numerals.{add-one}
use native.Mathlib.Omega.{arith}
use lib.ListN.{length, get_or, take, drop, set, length-drop, drop_of_length-le}
use lib.Seq.{take-suc, drop-cons, set_at, get_or_at, take_at, take_all, append_snoc, length-take-le, length_front}
use Rattle.names.specs.Inner.{begun_with}

module _ {A : Type 0} where
  -- what is left of l after its first n elements begins with y
  module _ (l : List A) (n : ℕ) {y : A} {ys : List A} (e : drop n l ≡ y ∷ ys) where
    pub head_fits : n < length l
    head_fits = omega (arith, simp length-drop at (ap length e))

    pub head_at : (d : A) → get_or l n d ≡ y
    head_at d = let f = drop-cons l n d head_fits in cc

    pub head_rest : drop (n + 1) l ≡ ys
    head_rest = let f = drop-cons l n y head_fits in rw add-one (cc)

    pub head_taken : take (n + 1) l ≡ take n l ++ y ∷ []
    head_taken = rw (add-one, take-suc l n y head_fits, head_at y)

  -- the element at an index is the head of what is left
  pub here : (l : List A) (i : ℕ) (d : A) → i < length l → drop i l ≡ get_or l i d ∷ drop (i + 1) l
  here l i d h = rw add-one (drop-cons l i d h)

  -- one element more is written over
  module _ (xs l : List A) (n : ℕ) {y : A} {ys : List A} (e : drop n xs ≡ y ∷ ys) (h : n < length l) where
    begun_more : begun_with (n + 1) xs l ≡ take n xs ++ y ∷ drop (n + 1) l
    begun_more = rw (head_taken xs n e) (append_snoc (take n xs) y (drop (n + 1) l))

    pub begun_set : set (begun_with n xs l) n y ≡ begun_with (n + 1) xs l
    begun_set =
        rw (here l n y h) (set_at (take n xs) (get_or l n y) (drop (n + 1) l) y n (length-take-le n xs (omega (arith, head_fits xs n e))))
        ∙ sym begun_more

    pub begun_same : get_or l n y ≡ y → begun_with n xs l ≡ begun_with (n + 1) xs l
    begun_same q = rw (here l n y h, q) (sym begun_more)

  pub begun_taken : (xs l : List A) (n : ℕ) → n ≤ length xs → take n (begun_with n xs l) ≡ take n xs
  begun_taken xs l n h = take_at (take n xs) (drop n l) n (length-take-le n xs h)

  pub begun_at : (xs l : List A) (n : ℕ) (d : A) → n ≤ length xs → n < length l → get_or (begun_with n xs l) n d ≡ get_or l n d
  begun_at xs l n d h k = rw (here l n d k) (get_or_at (take n xs) (get_or l n d) (drop (n + 1) l) d n (length-take-le n xs h))

  pub begun_length : (xs l : List A) (n : ℕ) → n ≤ length xs → n ≤ length l → length (begun_with n xs l) ≡ length l
  begun_length xs l n h k = length_front l (take n xs) n (length-take-le n xs h ∙ sym (length-take-le n l k))

  pub begun_all : (xs l : List A) (n : ℕ) → length xs ≤ n → length l ≤ n → begun_with n xs l ≡ xs
  begun_all xs l n h k = rw (take_all n xs h, drop_of_length-le l k) (append-nil xs)

pub take_map : {A B : Type 0} (f : A → B) (n : ℕ) (l : List A) → take n (map f l) ≡ map f (take n l)
take_map f zero l = refl
take_map f (suc n) [] = refl
take_map f (suc n) (x ∷ l) = ap (λ r. f x ∷ r) (take_map f n l)

pub drop_map : {A B : Type 0} (f : A → B) (n : ℕ) (l : List A) → drop n (map f l) ≡ map f (drop n l)
drop_map f zero l = refl
drop_map f (suc n) [] = refl
drop_map f (suc n) (x ∷ l) = drop_map f n l
