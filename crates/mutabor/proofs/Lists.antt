-- Lists: parts of two that are joined, a test of every element, and lists that are stored with zeros after them. Assumes nothing.
use mathlib.Core.Path.{◌≡◌, refl, ◌∙◌}
use mathlib.Core.Bool.{Bool, true}
use mathlib.Core.List.{List, [], ◌∷◌, ◌++◌, map}
use Prim.Native.Nat.{ℕ, zero, suc, ◌+◌, ◌-◌, ◌≤◌, ◌<◌}
use native.Mathlib.Omega.{arith}
use lib.ListN.{length, length-map, get_or, take, replicate, get_or-append, get_or-map}
use lib.Seq.{slice, take-append-add, drop-append-add, get_or-append-add}
use Rattle.tuning.proofs.Lists.{every, both}
use Rattle.tables.specs.Layout.{full}
use Rattle.tables.proofs.Lists.{full_length}

pub slice_behind : {A : Type 0} (xs ys : List A) (a b : ℕ) → slice (length xs + a) (length xs + b) (xs ++ ys) ≡ slice a b ys
slice_behind xs ys a b = rw (take-append-add xs ys b) (drop-append-add xs (take b ys) a)

-- ---- a test of every element

module _ {A : Type 0} (q : A → Bool) where
  pub every_append : (l m : List A) → every q l ≡ true → every q m ≡ true → every q (l ++ m) ≡ true
  unfolding every
  every_append [] m h k = k
  every_append (x ∷ l) m h k = let a = both (q x) (every q l) h in rw (a.0, every_append l m a.1 k)

  pub every_within : (l : List A) (i : ℕ) (d : A) → i < length l → every q l ≡ true → q (get_or l i d) ≡ true
  unfolding every
  every_within [] i d h k = let e : ⊥ = omega arith in absurd e
  every_within (x ∷ l) zero d h k = (both (q x) (every q l) k).0
  every_within (x ∷ l) (suc i) d h k = every_within l i d (omega arith) (both (q x) (every q l) k).1

-- ---- stored lists

replicated : {A : Type 0} (x : A) (n i : ℕ) → get_or (replicate n x) i x ≡ x
replicated x zero i = refl
replicated x (suc n) zero = refl
replicated x (suc n) (suc i) = replicated x n i

-- past the end there are zeros
pub full_past : {A : Type 0} (nought : A) (size : ℕ) (l : List A) (i : ℕ) → length l ≤ i → get_or (full nought size l) i nought ≡ nought
full_past nought size l i h =
    let n = size - length l in
    let e : i ≡ length l + (i - length l) = omega arith in
    rw e (get_or-append-add l (replicate n nought) (i - length l) nought ∙ replicated nought n (i - length l))

-- a number of each element
module _ {A B : Type 0} (g : A → B) (size : ℕ) (l : List A) where
  pub stored_length : (nought : B) → length l ≤ size → length (full nought size (map g l)) ≡ size
  stored_length nought h = full_length nought size (map g l) (rw (length-map l g) h)

  pub stored_at : (nought : A) (i : ℕ) → i < length l → get_or (full (g nought) size (map g l)) i (g nought) ≡ g (get_or l i nought)
  stored_at nought i h =
      let rest = replicate (size - length (map g l)) (g nought) in
      get_or-append (map g l) rest (g nought) i (rw (length-map l g) h) ∙ get_or-map g l i nought
