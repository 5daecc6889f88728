-- A signed number z is  up z - dn z,  two natural numbers of which one is 0. `omega` reads natural numbers alone, so each law here turns a statement on ℤ
-- into statements on the two parts. No law needs a bound on z.
-- Assumes nothing.
use mathlib.Core.Path.{◌≡◌, refl, sym, ap, ◌∙◌, subst}
use mathlib.Core.Bool.{Bool, true, false, cond}
use Prim.Native.Nat.{ℕ, zero, suc, ◌+◌, ◌-◌, ◌*◌, ◌^◌, min, ◌≤◌, ◌<◌}
use native.Mathlib.Omega.{arith}
use native.Mathlib.Nat.{le_trans, mul-le-mul_left, mul-le-mul_right}
use lib.IntN.{ℤ, pos, negsuc, neg_ℤ, nat_abs, sub_ℕ, ◌+ℤ◌, ◌-ℤ◌, ◌*ℤ◌}
use lib.Signed.{le_z, lt_z, non_neg, ◌≤ℤ◌, ◌<ℤ◌}
use lib.Dec.{T, leb, ltb, eqb, leb→le, le→leb, ltb→lt, lt→ltb}
use borrow.Author.Tests.{ltb-true, ltb-false, leb-true, leb-false, le-leb, lt-leb, eqb-true}
use mir.Syntax.{Width}
use mir.Val.{SFits, hbits, to_z, of_z}
use mir.Facts.{to_z-of_z}
use Rattle.integers.specs.Parts.{up, dn}

-- ---- equality and order, as rules: omega applies the `from-` ones to each hypothesis that fits, and turns a goal by the `to-` ones
pub to_≡ : {z w : ℤ} → up z + dn w ≡ up w + dn z → z ≡ w
to_≡ {z = pos a} {w = pos b} h = let e : a ≡ b = omega arith in ap pos e
to_≡ {z = pos a} {w = negsuc b} h = let e : ⊥ = omega arith in absurd e
to_≡ {z = negsuc a} {w = pos b} h = let e : ⊥ = omega arith in absurd e
to_≡ {z = negsuc a} {w = negsuc b} h = let e : a ≡ b = omega arith in ap negsuc e

-- a rule's result is one statement: of two equal numbers, that the differences of their parts are equal
pub from_≡ : {z w : ℤ} → z ≡ w → up z + dn w ≡ up w + dn z
from_≡ {z} {w} h = omega (arith, ap up h, ap dn h)

-- and, to list with its argument, that the parts and the sizes are
pub same : {z w : ℤ} → z ≡ w → (up z ≡ up w) × (dn z ≡ dn w) × (nat_abs z ≡ nat_abs w)
same h = (ap up h, ap dn h, ap nat_abs h)

le_z_parts : (z w : ℤ) → T (le_z z w) → up z + dn w ≤ up w + dn z
le_z_parts (pos a) (pos b) h = omega (arith, leb→le a b h)
le_z_parts (pos a) (negsuc b) h = absurd h
le_z_parts (negsuc a) (pos b) h = omega arith
le_z_parts (negsuc a) (negsuc b) h = omega (arith, leb→le b a h)

parts_le_z : (z w : ℤ) → up z + dn w ≤ up w + dn z → T (le_z z w)
parts_le_z (pos a) (pos b) h = le→leb a b (omega arith)
parts_le_z (pos a) (negsuc b) h = let e : ⊥ = omega arith in absurd e
parts_le_z (negsuc a) (pos b) h = tt
parts_le_z (negsuc a) (negsuc b) h = le→leb b a (omega arith)

lt_z_parts : (z w : ℤ) → T (lt_z z w) → up z + dn w < up w + dn z
lt_z_parts (pos a) (pos b) h = omega (arith, ltb→lt a b h)
lt_z_parts (pos a) (negsuc b) h = absurd h
lt_z_parts (negsuc a) (pos b) h = omega arith
lt_z_parts (negsuc a) (negsuc b) h = omega (arith, ltb→lt b a h)

parts_lt_z : (z w : ℤ) → up z + dn w < up w + dn z → T (lt_z z w)
parts_lt_z (pos a) (pos b) h = lt→ltb a b (omega arith)
parts_lt_z (pos a) (negsuc b) h = let e : ⊥ = omega arith in absurd e
parts_lt_z (negsuc a) (pos b) h = tt
parts_lt_z (negsuc a) (negsuc b) h = lt→ltb b a (omega arith)

pub from_≤ : {z w : ℤ} → z ≤ℤ w → up z + dn w ≤ up w + dn z
from_≤ {z} {w} h = le_z_parts z w h.le

pub to_≤ : {z w : ℤ} → up z + dn w ≤ up w + dn z → z ≤ℤ w
to_≤ {z} {w} h = record { le = parts_le_z z w h }

pub from_< : {z w : ℤ} → z <ℤ w → up z + dn w < up w + dn z
from_< {z} {w} h = lt_z_parts z w h.lt

pub to_< : {z w : ℤ} → up z + dn w < up w + dn z → z <ℤ w
to_< {z} {w} h = record { lt = parts_lt_z z w h }

-- ---- a test, as the code's flag leaves it
pub from_le_z : (z w : ℤ) → le_z z w ≡ true → up z + dn w ≤ up w + dn z
from_le_z z w h = le_z_parts z w (subst T (sym h) tt)

pub from_nle_z : (z w : ℤ) → le_z z w ≡ false → up w + dn z < up z + dn w
from_nle_z (pos a) (pos b) h = omega (arith, leb-false a b h)
from_nle_z (pos a) (negsuc b) h = omega arith
from_nle_z (negsuc a) (pos b) h = absurd (subst T h tt)
from_nle_z (negsuc a) (negsuc b) h = omega (arith, leb-false b a h)

pub from_lt_z : (z w : ℤ) → lt_z z w ≡ true → up z + dn w < up w + dn z
from_lt_z z w h = lt_z_parts z w (subst T (sym h) tt)

pub from_nlt_z : (z w : ℤ) → lt_z z w ≡ false → up w + dn z ≤ up z + dn w
from_nlt_z (pos a) (pos b) h = omega (arith, ltb-false a b h)
from_nlt_z (pos a) (negsuc b) h = omega arith
from_nlt_z (negsuc a) (pos b) h = absurd (subst T h tt)
from_nlt_z (negsuc a) (negsuc b) h = omega (arith, ltb-false b a h)

-- ---- the size: nat_abs z is |z|
pub record Abs (z : ℤ) : Type 0 where
  pub size : nat_abs z ≡ up z + dn z
  pub apart : min (up z) (dn z) ≡ 0

pub abs : (z : ℤ) → Abs z
abs (pos a) = omega arith
abs (negsuc a) = omega arith

-- the machine's range: all of it but the least number
pub from_sfits : {w : Width} {z : ℤ} → SFits w z → nat_abs z ≤ 2 ^ hbits w
from_sfits {w} {z = pos a} h = let k : a < 2 ^ hbits w = h.sfits in omega arith
from_sfits {w} {z = negsuc a} h = let k : a < 2 ^ hbits w = h.sfits in omega arith

pub to_sfits : {w : Width} {z : ℤ} → nat_abs z < 2 ^ hbits w → SFits w z
to_sfits {w} {z = pos a} h = record { sfits = omega arith }
to_sfits {w} {z = negsuc a} h = record { sfits = omega arith }

-- not negative, as a cast to an unsigned type asks
pub to_non_neg : (z : ℤ) → dn z ≤ 0 → T (non_neg z)
to_non_neg (pos a) h = tt
to_non_neg (negsuc a) h = let e : ⊥ = omega arith in absurd e

-- `==` compares the bits, and equal bits are equal numbers
pub from_bits : (w : Width) (x y : ℤ) → SFits w x → SFits w y → eqb (of_z w x) (of_z w y) ≡ true → x ≡ y
from_bits w x y fx fy h = sym (to_z-of_z fx) ∙ ap (to_z w) (eqb-true (of_z w x) (of_z w y) h) ∙ to_z-of_z fy

-- the two tests  -(n + 1) ≤ z  and  z ≤ n + 1  are the one test  |z| ≤ n + 1
pub two_tests : (n : ℕ) (z : ℤ) → le_z (negsuc n) z ≡ true → le_z z (pos (suc n)) ≡ leb (nat_abs z) (suc n)
two_tests n (pos a) h = refl
two_tests n (negsuc a) h = sym (le-leb (suc a) (suc n) (omega (arith, leb-true a n h)))

pub low_test : (n : ℕ) (z : ℤ) → le_z (negsuc n) z ≡ false → leb (nat_abs z) (suc n) ≡ false
low_test n (pos a) h = absurd (subst T h tt)
low_test n (negsuc a) h = lt-leb (suc a) (suc n) (omega (arith, leb-false a n h))

-- ---- negation, sum, difference, product: facts to list, with the arguments written
pub up_neg : (z : ℤ) → up (neg_ℤ z) ≡ dn z
up_neg (pos zero) = refl
up_neg (pos (suc n)) = refl
up_neg (negsuc n) = refl

pub dn_neg : (z : ℤ) → dn (neg_ℤ z) ≡ up z
dn_neg (pos zero) = refl
dn_neg (pos (suc n)) = refl
dn_neg (negsuc n) = refl

pub up_sub : (a b : ℕ) → up (sub_ℕ a b) ≡ a - b
up_sub a b = go (ltb a b) refl
  where
    go : (t : Bool) → ltb a b ≡ t → up (cond t (negsuc (b - suc a)) (pos (a - b))) ≡ a - b
    go true e = omega (arith, ltb-true a b e)
    go false e = refl

pub dn_sub : (a b : ℕ) → dn (sub_ℕ a b) ≡ b - a
dn_sub a b = go (ltb a b) refl
  where
    go : (t : Bool) → ltb a b ≡ t → dn (cond t (negsuc (b - suc a)) (pos (a - b))) ≡ b - a
    go true e = omega (arith, ltb-true a b e)
    go false e = omega (arith, ltb-false a b e)

pub up_add : (z w : ℤ) → up (z +ℤ w) ≡ (up z + up w) - (dn z + dn w)
up_add (pos a) (pos b) = omega arith
up_add (pos a) (negsuc b) = omega (arith, up_sub a (suc b))
up_add (negsuc a) (pos b) = omega (arith, up_sub b (suc a))
up_add (negsuc a) (negsuc b) = omega arith

pub dn_add : (z w : ℤ) → dn (z +ℤ w) ≡ (dn z + dn w) - (up z + up w)
dn_add (pos a) (pos b) = omega arith
dn_add (pos a) (negsuc b) = omega (arith, dn_sub a (suc b))
dn_add (negsuc a) (pos b) = omega (arith, dn_sub b (suc a))
dn_add (negsuc a) (negsuc b) = omega arith

-- s is p - m, in parts no larger than these, and no larger than n
pub record Bounded (s : ℤ) (p m n : ℕ) : Type 0 where
  pub val : up s + m ≡ dn s + p
  pub hi : up s ≤ p
  pub lo : dn s ≤ m
  pub size : nat_abs s ≤ n

pub sum : (z w : ℤ) → Bounded (z +ℤ w) (up z + up w) (dn z + dn w) (nat_abs z + nat_abs w)
sum z w =
    let a = up_add z w in
    let b = dn_add z w in
    record { val = omega arith; hi = omega arith; lo = omega arith; size = omega (arith, (abs z).size, (abs w).size, (abs (z +ℤ w)).size) }

pub diff : (z w : ℤ) → Bounded (z -ℤ w) (up z + dn w) (dn z + up w) (nat_abs z + nat_abs w)
diff z w =
    let a = up_add z (neg_ℤ w) in
    let b = dn_add z (neg_ℤ w) in
    let d = up_neg w in
    let e = dn_neg w in
    record { val = omega arith; hi = omega arith; lo = omega arith; size = omega (arith, (abs z).size, (abs w).size, (abs (z -ℤ w)).size) }

pub minus : (a b : ℕ) → Bounded (sub_ℕ a b) a b (a + b)
minus a b =
    let u = up_sub a b in
    let d = dn_sub a b in
    record { val = omega arith; hi = omega arith; lo = omega arith; size = omega (arith, (abs (sub_ℕ a b)).size) }

up_mul : (z : ℤ) (n : ℕ) → up (z *ℤ pos n) ≡ up z * n
up_mul (pos a) n = refl
up_mul (negsuc a) n = omega (arith, up_neg (pos (suc a * n)))

dn_mul : (z : ℤ) (n : ℕ) → dn (z *ℤ pos n) ≡ dn z * n
dn_mul (pos a) n = omega arith
dn_mul (negsuc a) n = omega (arith, dn_neg (pos (suc a * n)))

pub record Times (z : ℤ) (n : ℕ) (s : ℤ) : Type 0 where
  pub ups : up s ≡ up z * n
  pub dns : dn s ≡ dn z * n
  pub size : nat_abs s ≡ nat_abs z * n

pub times : (z : ℤ) (n : ℕ) → Times z n (z *ℤ pos n)
times z n = record { ups = up_mul z n; dns = dn_mul z n; size = go }
  where
    go : nat_abs (z *ℤ pos n) ≡ nat_abs z * n
    go = (abs (z *ℤ pos n)).size ∙ omega (arith, up_mul z n, dn_mul z n) ∙ ap (λ (k : ℕ). k * n) (sym (abs z).size)

abs_neg : (n : ℕ) → nat_abs (neg_ℤ (pos n)) ≡ n
abs_neg zero = refl
abs_neg (suc n) = refl

pub mul_size : (z w : ℤ) → nat_abs (z *ℤ w) ≡ nat_abs z * nat_abs w
mul_size (pos a) (pos b) = refl
mul_size (pos a) (negsuc b) = abs_neg (a * suc b)
mul_size (negsuc a) (pos b) = abs_neg (suc a * b)
mul_size (negsuc a) (negsuc b) = refl

-- a product is no larger than the product of bounds
pub mul_bound : {x y a b : ℕ} → x ≤ a → y ≤ b → x * y ≤ a * b
mul_bound {x} {y} {a} {b} h k = le_trans (mul-le-mul_left x k) (mul-le-mul_right b h)

-- ---- a whole sum at once: `lin e` is one fact, for any sum and difference of numbers
infixl 6 ◌⊕◌ ◌⊖◌
pub data Lin : Type 0 where
  one : ℤ → Lin
  ◌⊕◌ ◌⊖◌ : Lin → Lin → Lin

abbrev pub val : Lin → ℤ
val (one z) = z
val (a ⊕ b) = val a +ℤ val b
val (a ⊖ b) = val a -ℤ val b

abbrev mutual
  pub plus : Lin → ℕ
  plus (one z) = up z
  plus (a ⊕ b) = plus a + plus b
  plus (a ⊖ b) = plus a + less b

  pub less : Lin → ℕ
  less (one z) = dn z
  less (a ⊕ b) = less a + less b
  less (a ⊖ b) = less a + plus b

pub lin : (e : Lin) → up (val e) + less e ≡ dn (val e) + plus e
lin (one z) = omega arith
lin (a ⊕ b) = omega (arith, lin a, lin b, sum (val a) (val b))
lin (a ⊖ b) = omega (arith, lin a, lin b, diff (val a) (val b))

pub ruleset signed = (arith, to_≡, from_≡, from_≤, to_≤, from_<, to_<, from_le_z, from_nle_z, from_lt_z, from_nlt_z, from_sfits, to_sfits, to_non_neg)
