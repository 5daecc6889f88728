-- Lists: a test of every element, and what the code's arrays of structs need.
use mathlib.Core.Path.{◌≡◌, sym, ◌∙◌}
use mathlib.Core.Bool.{Bool, true, ◌&&◌, and-eq-true_iff}
use mathlib.Core.List.{List, [], ◌∷◌, map}
use Prim.Native.Nat.{ℕ, zero, suc}
use lib.ListN.{length, length-map, get_or}
use Rattle.std.specs.List.{list_all}

-- the length of an array of structs, which what is known of a parameter states of the list of the structs' values
pub length_mapped : (X Y : Type 0) (f : X → Y) (l : List X) (n : ℕ) → length (map f l) ≡ n → length l ≡ n
length_mapped X Y f l n e = sym (length-map l f) ∙ e

-- ---- whether a test holds of every element

unfoldable pub every : {A : Type 0} → (A → Bool) → List A → Bool
every p [] = true
every p (x ∷ l) = p x && every p l

pub both : (a b : Bool) → a && b ≡ true → (a ≡ true) × (b ≡ true)
both a b = (and-eq-true_iff a b).0

-- it holds of each one, and of what is read past the end
module _ {A : Type 0} (p : A → Bool) where
  pub all_at : (l : List A) (i : ℕ) (d : A) → p d ≡ true → list_all p l ≡ true → p (get_or l i d) ≡ true
  all_at [] i d e h = e
  all_at (x ∷ l) zero d e h = (both (p x) (list_all p l) h).0
  all_at (x ∷ l) (suc i) d e h = all_at l i d e (both (p x) (list_all p l) h).1
