-- Tests of the first numbers: all of them, any of them.
use mathlib.Core.Path.{◌≡◌, refl, sym, ap, ap₂, ◌∙◌}
use mathlib.Core.Bool.{Bool, true, false, true≢false, ◌&&◌, ◌||◌, or-false}
use Prim.Native.Nat.{ℕ, zero, suc, ◌+◌, ◌<◌}
use native.Mathlib.Nat.{add-zero, add-suc}
use native.Mathlib.Omega.{arith}
use borrow.Author.Tests.{eqb-true, eq-eqb, ltb-true, ltb-false}
use lib.Dec.{eqb, ltb}
use Rattle.sets.specs.Sets.{all, any, implies}

-- ---- truth values

pub never : {A : Type 0} {b : Bool} → b ≡ true → b ≡ false → A
never p q = absurd (true≢false (sym p ∙ q))

pub both_left : (a b : Bool) → a && b ≡ true → a ≡ true
both_left true b h = refl
both_left false b h = h

pub both_right : (a b : Bool) → a && b ≡ true → b ≡ true
both_right true b h = h
both_right false b h = never h refl

pub both : (a b : Bool) → a ≡ true → b ≡ true → a && b ≡ true
both a b p q = rw (p, q)

pub either_left : (a b : Bool) → a ≡ true → a || b ≡ true
either_left a b p = rw p

pub either_right : (a b : Bool) → b ≡ true → a || b ≡ true
either_right true b p = refl
either_right false b p = p

pub implies_gives : (a b : Bool) → implies a b ≡ true → a ≡ true → b ≡ true
implies_gives true b h p = h
implies_gives false b h p = never p refl

pub gives_implies : (a b : Bool) → (a ≡ true → b ≡ true) → implies a b ≡ true
gives_implies true b h = h refl
gives_implies false b h = refl

pub or_swap : (a b c : Bool) → a || (b || c) ≡ b || (a || c)
or_swap true true c = refl
or_swap true false c = refl
or_swap false b c = refl

-- two tests are one where each gives the other
pub same_test : (a b : Bool) → (a ≡ true → b ≡ true) → (b ≡ true → a ≡ true) → a ≡ b
same_test true b f g = sym (f refl)
same_test false true f g = g refl
same_test false false f g = refl

pub same_equal : (a b c d : ℕ) → (a ≡ b → c ≡ d) → (c ≡ d → a ≡ b) → eqb a b ≡ eqb c d
same_equal a b c d f g = same_test (eqb a b) (eqb c d) (λ h. eq-eqb c d (f (eqb-true a b h))) (λ h. eq-eqb a b (g (eqb-true c d h)))

pub eqb_sym : (a b : ℕ) → eqb a b ≡ eqb b a
eqb_sym a b = same_equal a b b a sym sym

-- ---- all

pub all_gives : (n : ℕ) (f : ℕ → Bool) → all n f ≡ true → (r : ℕ) → r < n → f r ≡ true
unfolding all
all_gives zero f h r l = let e : ⊥ = omega arith in absurd e
all_gives (suc n) f h zero l = both_left (f 0) _ h
all_gives (suc n) f h (suc r) l = all_gives n (λ s. f (suc s)) (both_right (f 0) _ h) r (omega arith)

pub gives_all : (n : ℕ) (f : ℕ → Bool) → ((r : ℕ) → r < n → f r ≡ true) → all n f ≡ true
unfolding all
gives_all zero f h = refl
gives_all (suc n) f h = both (f 0) _ (h 0 (omega arith)) (gives_all n (λ s. f (suc s)) (λ r l. h (suc r) (omega arith)))

pub all_ext : (n : ℕ) (f g : ℕ → Bool) → ((r : ℕ) → f r ≡ g r) → all n f ≡ all n g
unfolding all
all_ext zero f g h = refl
all_ext (suc n) f g h = ap₂ ◌&&◌ (h 0) (all_ext n (λ r. f (suc r)) (λ r. g (suc r)) (λ r. h (suc r)))

regroup : (a b c d : Bool) → (a && b) && (c && d) ≡ (a && c) && (b && d)
regroup true true c d = refl
regroup true false true d = refl
regroup true false false d = refl
regroup false b c d = refl

pub all_and : (n : ℕ) (f g : ℕ → Bool) → all n (λ r. f r && g r) ≡ all n f && all n g
unfolding all
all_and zero f g = refl
all_and (suc n) f g = ap (λ (b : Bool). f 0 && g 0 && b) (all_and n (λ r. f (suc r)) (λ r. g (suc r))) ∙ regroup (f 0) (g 0) _ _

-- ---- any

-- one of the first n numbers that passes
pub record Some (n : ℕ) (f : ℕ → Bool) : Type 0 where
  pub number : ℕ
  pub below : number < n
  pub passes : f number ≡ true

pub any_gives : (n : ℕ) (f : ℕ → Bool) → any n f ≡ true → Some n f
unfolding any
any_gives zero f h = never h refl
any_gives (suc n) f h = go (f n) refl h (any_gives n f)
  where
    go : (t : Bool) → f n ≡ t → t || any n f ≡ true → (any n f ≡ true → Some n f) → Some (suc n) f
    go true e k before = record { number = n; below = omega arith; passes = e }
    go false e k before = let s = before k in record { number = s.number; below = omega (arith, s.below); passes = s.passes }

pub gives_any : (n : ℕ) (f : ℕ → Bool) → Some n f → any n f ≡ true
unfolding any
gives_any zero f s = let e : ⊥ = omega (arith, s.below) in absurd e
gives_any (suc n) f s = go (ltb s.number n) refl (gives_any n f)
  where
    go : (t : Bool) → ltb s.number n ≡ t → (Some n f → any n f ≡ true) → f n || any n f ≡ true
    go true e before = either_right (f n) _ (before (record { number = s.number; below = ltb-true s.number n e; passes = s.passes }))
    go false e before = let last : s.number ≡ n = omega (arith, s.below, ltb-false s.number n e) in either_left (f n) _ (sym (ap f last) ∙ s.passes)

pub any_ext : (n : ℕ) (f g : ℕ → Bool) → ((r : ℕ) → r < n → f r ≡ g r) → any n f ≡ any n g
unfolding any
any_ext zero f g h = refl
any_ext (suc n) f g h = ap₂ ◌||◌ (h n (omega arith)) (any_ext n f g (λ r l. h r (omega arith)))

pub any_none : (n : ℕ) (f : ℕ → Bool) → ((r : ℕ) → r < n → f r ≡ false) → any n f ≡ false
unfolding any
any_none zero f h = refl
any_none (suc n) f h = ap₂ ◌||◌ (h n (omega arith)) (any_none n f (λ r l. h r (omega arith)))

-- the first n, then m more
pub any_split : (n m : ℕ) (f : ℕ → Bool) → any (n + m) f ≡ any n f || any m (λ r. f (n + r))
unfolding any
any_split n zero f = ap (λ (k : ℕ). any k f) (add-zero n) ∙ sym (or-false (any n f))
any_split n (suc m) f =
    ap (λ (k : ℕ). any k f) (add-suc n m) ∙ ap (λ (b : Bool). f (n + m) || b) (any_split n m f) ∙ or_swap (f (n + m)) (any n f) (any m (λ r. f (n + r)))

-- the first, then the rest
pub any_first : (n : ℕ) (f : ℕ → Bool) → any (suc n) f ≡ f 0 || any n (λ r. f (suc r))
unfolding any
any_first zero f = refl
any_first (suc n) f = ap (λ (b : Bool). f (suc n) || b) (any_first n f) ∙ or_swap (f (suc n)) (f 0) (any n (λ r. f (suc r)))
