-- A rule of a table, proved at all of its rows by one equation that antt computes.
-- Assumes nothing.
use mathlib.Core.Path.{◌≡◌, ap}
use mathlib.Core.List.{List, [], ◌∷◌}
use Prim.Native.Nat.{ℕ, zero, suc, ◌<◌}
use native.Mathlib.Nat.{le_of_suc-le-suc, not-suc-le-zero}
use lib.ListN.{get_or, drop}

module _ {A : Type 0} where
  -- the first `n` values of a function
  abbrev pub values : ℕ → (ℕ → A) → List A
  values zero f = []
  values (suc n) f = f 0 ∷ values n (λ k. f (suc k))

  pub each : (n : ℕ) (f g : ℕ → A) → values n f ≡ values n g → (k : ℕ) → k < n → f k ≡ g k
  each zero f g e k h = absurd (not-suc-le-zero h)
  each (suc n) f g e zero h = ap (λ (l : List A). get_or l 0 (f 0)) e
  each (suc n) f g e (suc k) h = each n (λ k. f (suc k)) (λ k. g (suc k)) (ap (drop 1) e) k (le_of_suc-le-suc h)
