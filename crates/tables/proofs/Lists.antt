-- Lists filled up to a full size, and two lists joined to one. Assumes nothing.
use mathlib.Core.Path.{◌≡◌, refl, sym, ap, ◌∙◌}
use mathlib.Core.List.{List, [], ◌∷◌, ◌++◌, map}
use Prim.Native.Nat.{ℕ, suc, ◌+◌, ◌-◌, ◌≤◌, ◌<◌}
use native.Mathlib.Numerals.{add-one}
use native.Mathlib.Omega.{arith}
use lib.IntN.{ℤ, pos}
use lib.ListN.{length, length-append, length-replicate, replicate, replicate-append-replicate, get_or, take, drop, set}
use lib.Seq.{sets, sets-eq, take_at, drop_at, drop-drop, take-length, slice, length-slice, length-take-le, take-suc, drop-append-le}
use Rattle.std.proofs.lemmas.List.{drop-take}
use Rattle.tables.specs.Layout.{full, joined, joined_from}

-- ---- a list filled up to a full size

module _ {A : Type 0} (nought : A) (size : ℕ) where
  pub full_length : (l : List A) → length l ≤ size → length (full nought size l) ≡ size
  full_length l h = simp (length-append, length-replicate) (omega arith)

  -- elements stored where the list ends
  pub full_next : (l v : List A) (n : ℕ) → length l ≡ n → n + length v ≤ size → sets (full nought size l) n v ≡ full nought size (l ++ v)
  full_next l v n e h =
      let rest = size - length (l ++ v) in
      let m : size - length l ≡ length v + rest = omega (arith, length-append l v) in
      let z = replicate (size - length l) nought in
      let x : drop (length v) z ≡ replicate rest nought =
      rw (m, ← replicate-append-replicate (length v) rest nought) (drop_at (replicate (length v) nought) (replicate rest nought) (length v) (length-replicate (length v) nought)) in
      sets-eq v (l ++ z) n (omega (arith, full_length l (omega arith)))
      ∙ rw (take_at l z n e, ← drop-drop (length v) n (l ++ z), drop_at l z n e, x)

-- ---- two lists joined to one

module _ {A : Type 0} (f : ℕ → ℤ → A) where
  pub joined_back : (g : A → ℕ) (h : A → ℤ) → ((x : A) → f (g x) (h x) ≡ x) → (l : List A) → joined f (map g l) (map h l) ≡ l
  unfolding joined
  joined_back g h e [] = refl
  joined_back g h e (x ∷ l) = rw (e x, joined_back g h e l)

  pub joined_append : (ks : List ℕ) (zs : List ℤ) (k : ℕ) (z : ℤ) → length ks ≡ length zs → joined f (ks ++ k ∷ []) (zs ++ z ∷ []) ≡ joined f ks zs ++ f k z ∷ []
  unfolding joined
  joined_append [] [] k z e = refl
  joined_append [] (y ∷ zs) k z e = let x : ⊥ = omega arith in absurd x
  joined_append (x ∷ ks) [] k z e = let x : ⊥ = omega arith in absurd x
  joined_append (x ∷ ks) (y ∷ zs) k z e = ap (λ (l : List A). f x y ∷ l) (joined_append ks zs k z (omega arith))

  pub joined_length : (ks : List ℕ) (zs : List ℤ) → length ks ≡ length zs → length (joined f ks zs) ≡ length ks
  unfolding joined
  joined_length [] zs e = refl
  joined_length (x ∷ ks) [] e = sym e
  joined_length (x ∷ ks) (y ∷ zs) e = ap suc (joined_length ks zs (omega arith))

-- ---- what stands from one place to another of two lists

-- as `&slice[from..to]` has it
pub cut : {A : Type 0} (from to : ℕ) (l : List A) → from ≤ to → take (to - from) (drop from l) ≡ slice from to l
cut from to l h = let e : from + (to - from) ≡ to = omega arith in sym (drop-take from (to - from) l) ∙ ap (λ (n : ℕ). drop from (take n l)) e

slice_next : {A : Type 0} (from i : ℕ) (l : List A) (d : A) → from ≤ i → i < length l → slice from (i + 1) l ≡ slice from i l ++ get_or l i d ∷ []
slice_next from i l d h k =
    rw (add-one i, take-suc l i d k, drop-append-le from (take i l) (get_or l i d ∷ []) (rw (length-take-le i l (omega arith)) h))

module _ {A : Type 0} (f : ℕ → ℤ → A) (ks : List ℕ) (zs : List ℤ) (from : ℕ) where
  pub part_length : (to : ℕ) → to ≤ length ks → to ≤ length zs → length (joined_from f ks zs from to) ≡ to - from
  part_length to h k =
      joined_length f (slice from to ks) (slice from to zs) (length-slice from to ks h ∙ sym (length-slice from to zs k)) ∙ length-slice from to ks h

  part_next : (i : ℕ) → from ≤ i → i < length ks → i < length zs
      → joined_from f ks zs from (i + 1) ≡ joined_from f ks zs from i ++ f (get_or ks i 0) (get_or zs i (pos 0)) ∷ []
  part_next i h k m =
      rw (slice_next from i ks 0 h k, slice_next from i zs (pos 0) h m)
      (joined_append f (slice from i ks) (slice from i zs) (get_or ks i 0) (get_or zs i (pos 0)) (length-slice from i ks (omega arith) ∙ sym (length-slice from i zs (omega arith))))

-- a loop that fills an array with two lists joined
module _ {A : Type 0} (f : ℕ → ℤ → A) (nought : A) (size : ℕ) (ks : List ℕ) (zs : List ℤ) where
  -- the array, its first i places filled
  abbrev pub filled : ℕ → List A
  filled i = full nought size (joined f (take i ks) (take i zs))

  pub filled_none : replicate size nought ≡ filled 0
  unfolding joined
  filled_none = let e : size - 0 ≡ size = omega arith in rw e

  pub filled_next : (i : ℕ) → i < size → i < length ks → i < length zs → set (filled i) i (f (get_or ks i 0) (get_or zs i (pos 0))) ≡ filled (i + 1)
  filled_next i b k m =
      let l = joined f (take i ks) (take i zs) in
      let n : length l ≡ i = part_length f ks zs 0 i (omega arith) (omega arith) ∙ omega arith in
      full_next nought size l (f (get_or ks i 0) (get_or zs i (pos 0)) ∷ []) i n (omega arith) ∙ ap (full nought size) (sym (part_next f ks zs 0 i (omega arith) k m))

  pub filled_all : (n : ℕ) → n ≡ length ks → n ≡ length zs → filled n ≡ full nought size (joined f ks zs)
  filled_all n d e = rw (d, take-length ks, sym d ∙ e, take-length zs)
