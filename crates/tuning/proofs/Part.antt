-- A list whose first n elements are changed, each by its index: what a loop over an array has done when it comes to index n.
-- Assumes nothing.
use mathlib.Core.Path.{◌≡◌, refl, ap}
use mathlib.Core.List.{List, [], ◌∷◌, map}
use Prim.Native.Nat.{ℕ, zero, suc, ◌+◌, ◌≤◌, ◌<◌}
use native.Mathlib.Numerals.{add-one}
use native.Mathlib.Omega.{arith}
use lib.ListN.{length, get_or, set}

unfoldable pub part : {A : Type 0} → (ℕ → A → A) → ℕ → List A → List A
part f zero l = l
part f (suc n) [] = []
part f (suc n) (x ∷ l) = f 0 x ∷ part (λ i. f (suc i)) n l

module _ {A : Type 0} where
  pub part_none : (f : ℕ → A → A) (l : List A) → part f 0 l ≡ l
  unfolding part
  part_none f l = refl

  pub part_length : (f : ℕ → A → A) (n : ℕ) (l : List A) → length (part f n l) ≡ length l
  unfolding part
  part_length f zero l = refl
  part_length f (suc n) [] = refl
  part_length f (suc n) (x ∷ l) = ap suc (part_length (λ i. f (suc i)) n l)

  -- the next element is as it was
  pub part_get : (f : ℕ → A → A) (n : ℕ) (l : List A) (d : A) → get_or (part f n l) n d ≡ get_or l n d
  unfolding part
  part_get f zero l d = refl
  part_get f (suc n) [] d = refl
  part_get f (suc n) (x ∷ l) d = part_get (λ i. f (suc i)) n l d

  -- and is changed
  pub part_set : (f : ℕ → A → A) (n : ℕ) (l : List A) (d : A) → n < length l → set (part f n l) n (f n (get_or l n d)) ≡ part f (suc n) l
  unfolding part
  part_set f n [] d h = let e : ⊥ = omega arith in absurd e
  part_set f zero (x ∷ l) d h = refl
  part_set f (suc n) (x ∷ l) d h = ap (λ (k : List A). f 0 x ∷ k) (part_set (λ i. f (suc i)) n l d (omega arith))

  -- and so a loop that sets the next element has changed one more
  pub part_next : (f : ℕ → A → A) (l : List A) (d : A) {n : ℕ} {m : List A} {x : A} → m ≡ part f n l → n < length l → x ≡ f n (get_or l n d)
      → set m n x ≡ part f (n + 1) l
  part_next f l d {n} e h q = rw (e, q, add-one) (part_set f n l d h)

  -- all of them changed in the same way
  pub part_all : (g : A → A) (n : ℕ) (l : List A) → length l ≤ n → part (λ i. g) n l ≡ map g l
  unfolding part
  part_all g zero [] h = refl
  part_all g (suc n) [] h = refl
  part_all g zero (x ∷ l) h = let e : ⊥ = omega arith in absurd e
  part_all g (suc n) (x ∷ l) h = ap (λ (k : List A). g x ∷ k) (part_all g n l (omega arith))
