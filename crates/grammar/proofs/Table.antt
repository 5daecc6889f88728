-- A table is what a function gives at each place, and a test of all entries of a list holds at any that is read: antt computes both.
-- Assumes nothing.
use mathlib.Core.Path.{◌≡◌, refl, ◌∙◌, ap, sym}
use mathlib.Core.Bool.{Bool, true, false}
use mathlib.Core.List.{List, [], ◌∷◌}
use Prim.Native.Nat.{ℕ, zero, suc, ◌+◌, ◌<◌}
use native.Mathlib.Nat.{add-zero, zero-add, add-suc, suc-add, le_of_suc-le-suc, not-suc-le-zero}
use lib.Dec.{T}
use lib.ListN.{length, get_or}
use Rattle.grammar.specs.Moves.{tabulate}

-- ---- tables

from : (f : ℕ → ℕ) (n i k : ℕ) → k < n → get_or (tabulate f i n) k 0 ≡ f (i + k)
from f zero i k h = absurd (not-suc-le-zero h)
from f (suc n) i zero h = ap f (sym (add-zero i))
from f (suc n) i (suc k) h = from f n (suc i) k (le_of_suc-le-suc h) ∙ ap f (suc-add i k ∙ sym (add-suc i k))

pub at : (f : ℕ → ℕ) (n k : ℕ) → k < n → get_or (tabulate f 0 n) k 0 ≡ f k
at f n k h = from f n 0 k h ∙ ap f (zero-add k)

pub length_tabulate : (f : ℕ → ℕ) (i n : ℕ) → length (tabulate f i n) ≡ n
length_tabulate f i zero = refl
length_tabulate f i (suc n) = ap suc (length_tabulate f (suc i) n)

-- ---- tests

abbrev pub both : Bool → Bool → Bool
both true b = b
both false b = false

pub both_left : (a b : Bool) → T (both a b) → T a
both_left true b t = tt
both_left false b t = t

pub both_right : (a b : Bool) → T (both a b) → T b
both_right true b t = t
both_right false b t = absurd t

module _ {A : Type 0} where
  -- the test f passes at each entry
  abbrev pub each : (A → Bool) → List A → Bool
  each f [] = true
  each f (x ∷ xs) = both (f x) (each f xs)

  -- then it passes at whatever is read of the list, if also at what is read past its end
  pub read_of : (f : A → Bool) (xs : List A) (d : A) → T (each f xs) → T (f d) → (k : ℕ) → T (f (get_or xs k d))
  read_of f [] d t h k = h
  read_of f (x ∷ xs) d t h zero = both_left (f x) (each f xs) t
  read_of f (x ∷ xs) d t h (suc k) = read_of f xs d (both_right (f x) (each f xs) t) h k
