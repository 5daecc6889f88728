-- Laws of `first_match`: it is the first position in the part, counted from where the part begins, and what is found is one of the records.
-- Assumes nothing.
use Rattle.std.proofs.Common.{◌≡◌, refl, sym, ap, ◌∙◌, Bool, true, false, cond, List, [], ◌∷◌, ℕ, suc, ◌+◌, ◌<◌, ◌≤◌, arith, length, drop, take, length-drop, length-take}
use Rattle.std.specs.Prelude.{Option, Some, ◌==◌}
use Rattle.std.specs.List.{position_from}
use Rattle.std.specs.Option.{option_map}
use Rattle.std.proofs.lemmas.Option.{none-some, same_Some}
use Rattle.orders.specs.declared.Order.{Order}
use Rattle.orders.specs.Orders.{first_match}

module _ {X : Type 0} (p : X → Bool) where
  position_from-add : (n i : ℕ) (xs : List X) → option_map (λ (k : ℕ). n + k) (position_from p i xs) ≡ position_from p (n + i) xs
  position_from-add n i [] = refl
  position_from-add n i (x ∷ xs) = go (p x) (position_from-add n (i + 1) xs)
    where
      go : (b : Bool) → option_map (λ (k : ℕ). n + k) (position_from p (i + 1) xs) ≡ position_from p (n + (i + 1)) xs
          → option_map (λ (k : ℕ). n + k) (cond b (Some i) (position_from p (i + 1) xs)) ≡ cond b (Some (n + i)) (position_from p (n + i + 1) xs)
      go true e = refl
      go false e = e ∙ ap (λ (m : ℕ). position_from p m xs) (omega arith)

  position_from-within : (i : ℕ) (xs : List X) {k : ℕ} → position_from p i xs ≡ Some k → (i ≤ k) × (k < i + length xs)
  position_from-within i [] {k} e = absurd (none-some k e)
  position_from-within i (x ∷ xs) {k} e = go (p x) (position_from-within (i + 1) xs) e
    where
      go : (b : Bool) → (position_from p (i + 1) xs ≡ Some k → (i + 1 ≤ k) × (k < i + 1 + length xs)) → cond b (Some i) (position_from p (i + 1) xs) ≡ Some k
          → (i ≤ k) × (k < i + suc (length xs))
      go true later q = let z = same_Some i k q in (omega arith, omega arith)
      go false later q = let w = later q in (omega (arith, w.0), omega (arith, w.1))

module _ (trigger : ℕ) (xs : List Order) (first count : ℕ) {o : Option ℕ} (e : o ≡ position_from (λ (x : Order). x.trigger == trigger) 0 (take count (drop first xs))) where
  pub match_of : {m : Option ℕ} → o ≡ m → option_map (λ (k : ℕ). first + k) m ≡ first_match trigger xs first count
  match_of h =
      ap (option_map (λ (k : ℕ). first + k)) (sym h ∙ e)
      ∙ position_from-add (λ (x : Order). x.trigger == trigger) first 0 (take count (drop first xs))
      ∙ ap (λ (n : ℕ). position_from (λ (x : Order). x.trigger == trigger) n (take count (drop first xs))) (omega arith)

pub match_within : (trigger : ℕ) (xs : List Order) (first count : ℕ) {i : ℕ} → first_match trigger xs first count ≡ Some i → i < length xs
match_within trigger xs first count {i} e =
    let w = position_from-within (λ (x : Order). x.trigger == trigger) first (take count (drop first xs)) e in
    omega (arith, w.0, w.1, length-take count (drop first xs), length-drop first xs)
