-- An entry's pitch is near its exact value.
use mathlib.Core.Path.{◌≡◌, refl, sym, ◌∙◌, ap, ap₂}
use mathlib.Core.List.{[], ◌∷◌}
use Prim.Native.Nat.{ℕ, zero, suc, ◌+◌, ◌*◌, ◌^◌, ◌<◌}
use native.Mathlib.Nat.{mul_comm, pow-zero, zero-mul, mul-pos, one-le-pow, eq_of_mul-eq-mul_right}
use native.Mathlib.Omega.{arith}
use lib.IntN.{ℤ, pos, negsuc, nat_abs, ◌+ℤ◌, ◌*ℤ◌}
use lib.Pow.{pow-add}
use Rattle.integers.proofs.Powers.{mul_pow, pow_mul, under_ratio_pow}
use Rattle.integers.specs.Parts.{up, dn}
use Rattle.integers.proofs.Difference.{Is, is_self, is_add, is_pos, is_scale, is_flip, is_mul}
use Rattle.cents.specs.Measure.{measure}
use Rattle.cents.specs.Distance.{hundredfold}
use Rattle.cents.proofs.Near.{Close, close_one, close_inverse, close_same, close_times, close_power, close_lift}
use Rattle.exact.specs.Entry.{Number, Factor, Entry, degree_of, degrees, weight, part, above, below}

-- What a number measures, from 440 hertz on where it is in hertz.
abbrev pub size_by : ℕ → Number → ℤ
size_by zero n = measure n.degree n.over n.under
size_by (suc h) n = measure n.degree n.over (n.under * 440)

unfoldable pub size_of : Number → ℤ
size_of n = size_by n.hertz n

-- The measure of an entry, and its power of hertz: 1 for a tone, 0 for an interval.
unfoldable pub pitch : Entry → ℤ
pitch [] = pos 0
pitch (f ∷ l) = f.power *ℤ size_of f.of +ℤ pitch l

unfoldable pub hertz_of : Entry → ℤ
hertz_of [] = pos 0
hertz_of (f ∷ l) = f.power *ℤ pos f.of.hertz +ℤ hertz_of l

-- The number's lower part once it is divided by 440 hertz.
unfoldable pub scaled : Number → ℕ
scaled n = n.under * 440 ^ (n.hertz * n.degree)

-- The value of an entry as a fraction, with another lower part for each number.
unfoldable pub above_by : (Number → ℕ) → Entry → ℕ
above_by lower [] = 1
above_by lower (f ∷ l) = part f.power f.of.over (lower f.of) ^ degrees l * above_by lower l ^ degree_of f.power f.of.degree

unfoldable pub below_by : (Number → ℕ) → Entry → ℕ
below_by lower [] = 1
below_by lower (f ∷ l) = part f.power (lower f.of) f.of.over ^ degrees l * below_by lower l ^ degree_of f.power f.of.degree

above_by_holds : (l : Entry) → above l ≡ above_by (λ n. n.under) l
unfolding above above_by
above_by_holds [] = refl
above_by_holds (f ∷ l) = rw (above_by_holds l)

below_by_holds : (l : Entry) → below l ≡ below_by (λ n. n.under) l
unfolding below below_by
below_by_holds [] = refl
below_by_holds (f ∷ l) = rw (below_by_holds l)

pub record Good (n : Number) : Type 0 where
  pub near : Close n.degree n.counts (up (size_of n)) (dn (size_of n)) n.over (scaled n)
  pub over_pos : zero < n.over
  pub scaled_pos : zero < scaled n

pub data AllGood : Entry → Type 0 where
  none : AllGood []
  also : {f : Factor} {l : Entry} → Good f.of → AllGood l → AllGood (f ∷ l)

-- ---- the product theorem, for values divided by 440 hertz

factor : (e : ℤ) (n : Number) → Good n
    → Close (degree_of e n.degree) (nat_abs e * n.counts) (up (e *ℤ size_of n)) (dn (e *ℤ size_of n)) (part e n.over (scaled n)) (part e (scaled n) n.over)
unfolding degree_of part
factor (pos zero) n h =
    rw (pow-zero n.over, pow-zero (scaled n), zero-mul n.counts) (close_same _ _ (omega (arith, (is_scale 0 (size_of n) (is_self (size_of n))).eq)) (close_one 1))
factor (pos (suc k)) n h =
    close_same _ _ (omega (arith, (is_scale (suc k) (size_of n) (is_self (size_of n))).eq)) (close_power (suc k) h.near)
factor (negsuc k) n h =
    close_same _ _ (omega (arith, (is_flip k (size_of n) (is_self (size_of n))).eq)) (close_inverse (close_power (suc k) h.near))

product : (l : Entry) → AllGood l → Close (degrees l) (weight l) (up (pitch l)) (dn (pitch l)) (above_by scaled l) (below_by scaled l)
unfolding degrees weight pitch above_by below_by
product l none = close_one 1
product l' (also {f} {l} g h) =
    let e : ℤ = f.power in
    let x : ℤ = e *ℤ size_of f.of in
    let A : ℕ = degree_of e f.of.degree in
    let head = close_lift (degrees l) (factor e f.of g) in
    let tail : Close (A * degrees l) (weight l) (up (pitch l)) (dn (pitch l)) (above_by scaled l ^ A) (below_by scaled l ^ A) = rw (mul_comm A (degrees l)) (close_lift A (product l h)) in
    close_same _ _ (omega (arith, (is_add x (pitch l) (is_self x) (is_self (pitch l))).eq)) (close_times head tail)

-- ---- from there to hertz

-- the hertz above and below
hp : Entry → ℕ
hp [] = 0
hp (f ∷ l) = f.of.hertz * up f.power + hp l

hm : Entry → ℕ
hm [] = 0
hm (f ∷ l) = f.of.hertz * dn f.power + hm l

hertz_is : (l : Entry) → Is (hertz_of l) (hp l) (hm l)
unfolding hertz_of hp hm
hertz_is [] = is_pos 0
hertz_is (f ∷ l) =
    let e : ℤ = f.power in
    let h : ℕ = f.of.hertz in
    let x = is_mul e (pos h) (is_self e) (is_pos h) in
    record { eq = omega (arith, (is_add (e *ℤ pos h) (hertz_of l) x (hertz_is l)).eq) }

-- One factor: dividing by 440 hertz.
scale_pow : (b u h A k : ℕ) → (u * b ^ (h * A)) ^ k ≡ u ^ k * b ^ (A * (h * k))
scale_pow b u h A k =
    let e : h * A * k ≡ A * (h * k) = omega arith in
    rw (mul_pow u (b ^ (h * A)) k, ← (pow_mul b (h * A) k), e)

nothing : (A h : ℕ) → A * (h * 0) ≡ 0
nothing A h = omega arith

rescale : (e : ℤ) (n : Number)
    → part e n.over n.under * part e (scaled n) n.over * 440 ^ (degree_of e n.degree * (n.hertz * dn e))
    ≡ part e n.over (scaled n) * part e n.under n.over * 440 ^ (degree_of e n.degree * (n.hertz * up e))
unfolding degree_of part scaled
rescale (pos zero) n = simp pow-zero
rescale (pos (suc k)) n =
    let X : ℕ = n.over ^ suc k in
    let Y : ℕ = n.under ^ suc k in
    let Z : ℕ = 440 ^ (n.degree * (n.hertz * suc k)) in
    let q : X * (Y * Z) * 1 ≡ X * Y * Z = omega arith in
    rw (scale_pow 440 n.under n.hertz n.degree (suc k), nothing n.degree n.hertz) q
rescale (negsuc k) n =
    let X : ℕ = n.over ^ suc k in
    let Y : ℕ = n.under ^ suc k in
    let Z : ℕ = 440 ^ (n.degree * (n.hertz * suc k)) in
    let q : Y * X * Z ≡ Y * Z * X * 1 = omega arith in
    rw (scale_pow 440 n.under n.hertz n.degree (suc k), nothing n.degree n.hertz) q

-- x·y·c^i = z·w·c^j, kept by powers and by products
module _ (c : ℕ) where
  keep_pow : (x y z w i j k : ℕ) → x * y * c ^ i ≡ z * w * c ^ j → x ^ k * y ^ k * c ^ (i * k) ≡ z ^ k * w ^ k * c ^ (j * k)
  keep_pow x y z w i j k e =
      rw (pow_mul c i k, pow_mul c j k, ← (mul_pow x y k), ← (mul_pow (x * y) (c ^ i) k), ← (mul_pow z w k), ← (mul_pow (z * w) (c ^ j) k))
      (ap (λ (t : ℕ). t ^ k) e)

  keep_mul : (x y z w i j x' y' z' w' i' j' : ℕ) → x * y * c ^ i ≡ z * w * c ^ j → x' * y' * c ^ i' ≡ z' * w' * c ^ j'
      → x * x' * (y * y') * c ^ (i + i') ≡ z * z' * (w * w') * c ^ (j + j')
  keep_mul x y z w i j x' y' z' w' i' j' e e' =
      let I : ℕ = c ^ i in
      let J : ℕ = c ^ j in
      let I' : ℕ = c ^ i' in
      let J' : ℕ = c ^ j' in
      let f : x * y * I * (x' * y' * I') ≡ z * w * J * (z' * w' * J') = ap₂ (λ (s t : ℕ). s * t) e e' in
      rw (pow-add c i i', pow-add c j j') (regroup x x' y y' I I' ∙ f ∙ sym (regroup z z' w w' J J'))
    where
      regroup : (a a' b b' d d' : ℕ) → a * a' * (b * b') * (d * d') ≡ a * b * d * (a' * b' * d')
      regroup a a' b b' d d' = omega arith

rescaled : (l : Entry)
    → above_by (λ n. n.under) l * below_by scaled l * 440 ^ (degrees l * hm l) ≡ above_by scaled l * below_by (λ n. n.under) l * 440 ^ (degrees l * hp l)
unfolding degrees above_by below_by hp hm
rescaled [] = refl
rescaled (f ∷ l) =
    let e : ℤ = f.power in
    let n : Number = f.of in
    let A : ℕ = degree_of e n.degree in
    let D : ℕ = degrees l in
    let i : A * (n.hertz * dn e) * D + D * hm l * A ≡ A * D * (n.hertz * dn e + hm l) = omega arith in
    let j : A * (n.hertz * up e) * D + D * hp l * A ≡ A * D * (n.hertz * up e + hp l) = omega arith in
    rw (← i, ← j) (keep_mul 440 _ _ _ _ _ _ _ _ _ _ _ _ (keep_pow 440 _ _ _ _ _ _ D (rescale e n)) (keep_pow 440 _ _ _ _ _ _ A (rescaled l)))

-- ---- the same fraction, written otherwise

near_ratio : {N w a b u v : ℕ} (u' v' : ℕ) → zero < u → zero < v → u * v' ≡ u' * v → Close N w a b u v → Close N w a b u' v'
near_ratio {u} {v} u' v' pu pv e h =
    record { low = under_ratio_pow hundredfold v u v' u' pv e h.low; high = under_ratio_pow hundredfold u v u' v' pu (omega arith) h.high }

part_pos : (e : ℤ) (p q : ℕ) → zero < p → zero < q → zero < part e p q
unfolding part
part_pos (pos k) p q a b = one-le-pow k p a
part_pos (negsuc k) p q a b = one-le-pow (suc k) q b

positive : (l : Entry) → AllGood l → (zero < above_by scaled l) × (zero < below_by scaled l)
unfolding above_by below_by
positive l none = (omega arith, omega arith)
positive l' (also {f} {l} g h) =
    let n : Number = f.of in
    let t = positive l h in (
      mul-pos (one-le-pow _ _ (part_pos f.power n.over (scaled n) g.over_pos g.scaled_pos)) (one-le-pow _ _ t.0),
      mul-pos (one-le-pow _ _ (part_pos f.power (scaled n) n.over g.scaled_pos g.over_pos)) (one-le-pow _ _ t.1),
    )

-- The exact frequency, divided by 440 hertz and raised to `degrees l`, is above l / (below l · 440^degrees l).
pub entry_near : (l : Entry) → AllGood l → hertz_of l ≡ pos 1
    → Close (degrees l) (weight l) (up (pitch l)) (dn (pitch l)) (above l) (below l * 440 ^ degrees l)
entry_near l h e =
    let D : ℕ = degrees l in
    let H : ℕ = 440 ^ (D * hm l) in
    let a_l : ℕ = above_by (λ n. n.under) l in
    let b_l : ℕ = below_by (λ n. n.under) l in
    let a_s : ℕ = above_by scaled l in
    let b_s : ℕ = below_by scaled l in
    let t : up (pos 1) + hm l ≡ dn (pos 1) + hp l = rw e at (hertz_is l).eq in
    let p : hp l ≡ hm l + 1 = omega arith in
    let x : D * hp l ≡ D * hm l + D = rw p (omega arith) in
    let r : a_l * b_s * H ≡ a_s * b_l * 440 ^ (D * hp l) = rescaled l in
    let s : a_l * b_s * H ≡ a_s * b_l * (H * 440 ^ D) = r ∙ rw (x, pow-add 440 (D * hm l) D) in
    let c : a_s * (b_l * 440 ^ D) ≡ a_l * b_s =
    eq_of_mul-eq-mul_right H (one-le-pow (D * hm l) 440 (omega arith)) (a_s * (b_l * 440 ^ D)) (a_l * b_s) (omega arith) in
    let o = positive l h in
    rw (above_by_holds l, below_by_holds l) (near_ratio a_l (b_l * 440 ^ D) o.0 o.1 c (product l h))
