-- A sum over an entry, power times a weight of the number: pitches and powers of hertz add up as entries do.
use mathlib.Core.Path.{◌≡◌, refl, sym, ◌∙◌, ap, ap₂, subst}
use mathlib.Core.Bool.{Bool, true, false}
use mathlib.Core.List.{List, [], ◌∷◌}
use Rattle.std.specs.Prelude.{Option, Some, None}
use Prim.Native.Nat.{ℕ, zero, suc, ◌+◌, ◌≤◌}
use native.Mathlib.Omega.{arith}
use lib.IntN.{ℤ, pos, ◌+ℤ◌, ◌-ℤ◌, ◌*ℤ◌, *ℤ-zero, zero-*ℤ, +ℤ_idl, +ℤ_idr}
use lib.Dec.{T}
use lib.ListN.{get_or}
use borrow.Author.Tests.{eq-eqb, ne_eqb}
use Rattle.integers.proofs.Signed.{signed, one, ◌⊕◌, ◌⊖◌, lin}
use Rattle.integers.proofs.Difference.{is_self, is_diff, is_mul, equal, add_mulℤ, mul_addℤ, mul_assocℤ, swap_addℤ, one_mulℤ}
use Rattle.exact.specs.Entry.{Number}
use Rattle.exact.specs.Book.{Declared, number, start440, start_root, Name, the440, the_root, declared, Powers, same_name, once, Named, numbered, numbers_of, written}
use Rattle.exact.proofs.EntryNear.{size_of, pitch, hertz_of}

unfoldable pub along : (Number → ℤ) → List Named → Powers → ℤ
along f [] e = pos 0
along f (n ∷ ns) e = e n.name *ℤ f n.number +ℤ along f ns e

pub pitch_along : (ns : List Named) (e : Powers) → pitch (written ns e) ≡ along size_of ns e
unfolding pitch written along
pitch_along [] e = refl
pitch_along (n ∷ ns) e = ap (λ (x : ℤ). e n.name *ℤ size_of n.number +ℤ x) (pitch_along ns e)

pub hertz_along : (ns : List Named) (e : Powers) → hertz_of (written ns e) ≡ along (λ n. pos n.hertz) ns e
unfolding hertz_of written along
hertz_along [] e = refl
hertz_along (n ∷ ns) e = ap (λ (x : ℤ). e n.name *ℤ pos n.number.hertz +ℤ x) (hertz_along ns e)

sub_mulℤ : (x y z : ℤ) → (x -ℤ y) *ℤ z ≡ x *ℤ z -ℤ y *ℤ z
sub_mulℤ x y z =
    let ix = is_self x in
    let iy = is_self y in
    let iz = is_self z in
    equal ((x -ℤ y) *ℤ z) (x *ℤ z -ℤ y *ℤ z) (is_mul (x -ℤ y) z (is_diff x y ix iy) iz) (is_diff (x *ℤ z) (y *ℤ z) (is_mul x z ix iz) (is_mul y z iy iz)) (omega arith)

swap_subℤ : (a b c d : ℤ) → (a -ℤ b) +ℤ (c -ℤ d) ≡ (a +ℤ c) -ℤ (b +ℤ d)
swap_subℤ a b c d = omega (signed, lin (one a ⊖ one b ⊕ (one c ⊖ one d)), lin (one a ⊕ one c ⊖ (one b ⊕ one d)))

is_none : Option Declared → Bool
is_none None = true
is_none (Some d) = false

no_some : (d : Declared) → ◌≡◌ {A = Option Declared} None (Some d) → ⊥
unfolding is_none
no_some d h = subst T (ap is_none h) tt

module _ (f : Number → ℤ) where
  pub along_plus : (ns : List Named) (d e : Powers) → along f ns (λ n. d n +ℤ e n) ≡ along f ns d +ℤ along f ns e
  unfolding along
  along_plus [] d e = refl
  along_plus (n ∷ ns) d e =
      let x : ℤ = f n.number in
      ap₂ (λ (a b : ℤ). a +ℤ b) (add_mulℤ (d n.name) (e n.name) x) (along_plus ns d e)
      ∙ swap_addℤ (d n.name *ℤ x) (e n.name *ℤ x) (along f ns d) (along f ns e)

  pub along_minus : (ns : List Named) (d e : Powers) → along f ns (λ n. d n -ℤ e n) ≡ along f ns d -ℤ along f ns e
  unfolding along
  along_minus [] d e = refl
  along_minus (n ∷ ns) d e =
      let x : ℤ = f n.number in
      ap₂ (λ (a b : ℤ). a +ℤ b) (sub_mulℤ (d n.name) (e n.name) x) (along_minus ns d e)
      ∙ swap_subℤ (d n.name *ℤ x) (e n.name *ℤ x) (along f ns d) (along f ns e)

  pub along_times : (ns : List Named) (k : ℤ) (e : Powers) → along f ns (λ n. k *ℤ e n) ≡ k *ℤ along f ns e
  unfolding along
  along_times [] k e = sym (*ℤ-zero k)
  along_times (n ∷ ns) k e =
      let x : ℤ = f n.number in
      ap₂ (λ (a b : ℤ). a +ℤ b) (mul_assocℤ k (e n.name) x) (along_times ns k e) ∙ sym (mul_addℤ k (e n.name *ℤ x) (along f ns e))

  pub along_none : (ns : List Named) → along f ns (λ n. pos 0) ≡ pos 0
  unfolding along
  along_none [] = refl
  along_none (n ∷ ns) = rw (zero-*ℤ (f n.number), along_none ns)

  -- ---- one number once

  -- a number's part of the sum, where it is the one and where not
  it : (n m : Name) (x : Number) → same_name n m ≡ true → once n m *ℤ f x ≡ f x
  unfolding once
  it n m x h = rw h (one_mulℤ (f x))

  other : (n m : Name) (x : Number) → same_name n m ≡ false → once n m *ℤ f x ≡ pos 0
  unfolding once
  other n m x h = rw h (zero-*ℤ (f x))

  numbered_none : (n : Name) (i : ℕ) (l : List (Option Declared)) → ((j : ℕ) → i ≤ j → same_name n (declared j) ≡ false) → along f (numbered i l) (once n) ≡ pos 0
  unfolding along numbered
  numbered_none n i [] h = refl
  numbered_none n i (Some d ∷ l) h =
      ap₂ (λ (a b : ℤ). a +ℤ b) (other n (declared i) (number d) (h i (omega arith))) (numbered_none n (suc i) l (λ j k. h j (omega arith)))
  numbered_none n i (None ∷ l) h = numbered_none n (suc i) l (λ j k. h j (omega arith))

  numbered_at : (l : List (Option Declared)) (m i k : ℕ) (d : Declared) → k ≡ i + m → get_or l m None ≡ Some d
      → along f (numbered i l) (once (declared k)) ≡ f (number d)
  unfolding along numbered
  numbered_at [] m i k d e h = absurd (no_some d h)
  numbered_at (Some x ∷ l) zero i k d e h =
      ap₂ (λ (a b : ℤ). a +ℤ b)
      (it (declared k) (declared i) (number x) (eq-eqb k i (omega arith)))
      (numbered_none (declared k) (suc i) l (λ j q. ne_eqb k j (λ z. omega arith)))
      ∙ +ℤ_idr (f (number x)) ∙ ap (λ (y : Declared). f (number y)) (cc)
  numbered_at (None ∷ l) zero i k d e h = absurd (no_some d h)
  numbered_at (Some x ∷ l) (suc m) i k d e h =
      ap₂ (λ (a b : ℤ). a +ℤ b)
      (other (declared k) (declared i) (number x) (ne_eqb k i (λ z. omega arith)))
      (numbered_at l m (suc i) k d (omega arith) h)
      ∙ +ℤ_idl (f (number d))
  numbered_at (None ∷ l) (suc m) i k d e h = numbered_at l m (suc i) k d (omega arith) h

  module _ (ds : List (Option Declared)) where
    three : (e : Powers) (a b c : ℤ) → e the440 *ℤ f start440 ≡ a → e the_root *ℤ f start_root ≡ b → along f (numbered 0 ds) e ≡ c
        → along f (numbers_of ds) e ≡ a +ℤ (b +ℤ c)
    unfolding along numbers_of
    three e a b c ha hb hc = ap₂ (λ (x y : ℤ). x +ℤ y) ha (ap₂ (λ (x y : ℤ). x +ℤ y) hb hc)

    pub once_440 : along f (numbers_of ds) (once the440) ≡ f start440
    once_440 =
        three (once the440) (f start440) (pos 0) (pos 0) (it the440 the440 start440 refl) (other the440 the_root start_root refl) (numbered_none the440 0 ds (λ j h. refl))
        ∙ +ℤ_idr (f start440)

    pub once_root : along f (numbers_of ds) (once the_root) ≡ f start_root
    once_root =
        three (once the_root) (pos 0) (f start_root) (pos 0) (other the_root the440 start440 refl) (it the_root the_root start_root refl) (numbered_none the_root 0 ds (λ j h. refl))
        ∙ +ℤ_idl _ ∙ +ℤ_idr (f start_root)

    pub once_declared : (i : ℕ) (d : Declared) → get_or ds i None ≡ Some d → along f (numbers_of ds) (once (declared i)) ≡ f (number d)
    once_declared i d h =
        three (once (declared i)) (pos 0) (pos 0) (f (number d)) (other (declared i) the440 start440 refl) (other (declared i) the_root start_root refl)
        (numbered_at ds i 0 i d (omega arith) h)
        ∙ +ℤ_idl _ ∙ +ℤ_idl (f (number d))
