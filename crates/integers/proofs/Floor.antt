-- What division that rounds down gives.
use mathlib.Core.Path.{◌≡◌, sym, ap}
use Prim.Native.Nat.{ℕ, zero, suc, ◌+◌, ◌-◌, ◌*◌, ◌/◌, ◌%◌, ◌≤◌, ◌<◌}
use native.Mathlib.Nat.{div-add-mod', mod-lt, mul-div-le, lt-mul-div-succ, lt_of_mul-lt-mul_left}
use native.Mathlib.Omega.{arith}
use lib.IntN.{ℤ, pos, negsuc, ◌+ℤ◌, ◌*ℤ◌}
use Rattle.integers.specs.Parts.{up, dn}
use Rattle.integers.specs.Floor.{floor_div, floor_mod}
use Rattle.integers.proofs.Signed.{signed, sum, times}
use Rattle.integers.proofs.Difference.{Is, is_self}

-- z = q·w + r
pub floor_law : (z : ℤ) (w : ℕ) → 0 < w → z ≡ floor_div z w *ℤ pos w +ℤ pos (floor_mod z w)
floor_law (pos n) w h = ap pos (sym (div-add-mod' n w))
floor_law (negsuc n) w h =
    omega (signed, sum (negsuc (n / w) *ℤ pos w) (pos (w - suc (n % w))), times (negsuc (n / w)) w, div-add-mod' n w, mod-lt n h)

-- with r below w
pub floor_range : (z : ℤ) (w : ℕ) → 0 < w → floor_mod z w < w
floor_range (pos n) w h = mod-lt n h
floor_range (negsuc n) w h = omega arith

-- z / m rounded down: m·s ≤ z < m·s + m
pub record Floor (m a b c d : ℕ) : Type 0 where
  pub low : m * c + b ≤ a + m * d
  pub high : a + m * d < m * c + b + m

pub floor_is : (z : ℤ) {a b : ℕ} (m : ℕ) → zero < m → Is z a b → Floor m a b (up (floor_div z m)) (dn (floor_div z m))
floor_is (pos n) m p h =
    let x : m * (n / m) ≤ n = mul-div-le n m in
    let y : n < m * (n / m + 1) = lt-mul-div-succ n p in
    record { low = omega (arith, h.eq); high = omega (arith, h.eq) }
floor_is (negsuc n) m p h =
    let x : m * (n / m) ≤ n = mul-div-le n m in
    let y : n < m * (n / m + 1) = lt-mul-div-succ n p in
    record { low = omega (arith, h.eq); high = omega (arith, h.eq) }

-- what a quotient rounded down is, is settled by its two bounds
pub floor_one : {m a b c d c' d' : ℕ} → Floor m a b c d → Floor m a b c' d' → c + d' ≤ c' + d
floor_one {m} {a} {b} {c} {d} {c'} {d'} h k =
    let l : m * (c + d') < m * (c' + d + 1) = omega (arith, h.low, k.high) in
    omega (arith, lt_of_mul-lt-mul_left m l)

-- q and r are the only numbers with z = q·w + r and r below w
pub floor_unique : (z q : ℤ) (w r : ℕ) → r < w → z ≡ q *ℤ pos w +ℤ pos r → (floor_div z w ≡ q) × (floor_mod z w ≡ r)
floor_unique z q w r h e =
    let Q : ℤ = floor_div z w in
    let p : 0 < w = omega arith in
    let f = floor_is z w p (is_self z) in
    let g : Floor w (up z) (dn z) (up q) (dn q) =
    record { low = omega (signed, e, sum (q *ℤ pos w) (pos r), times q w); high = omega (signed, e, sum (q *ℤ pos w) (pos r), times q w) } in
    let same : Q ≡ q = omega (signed, floor_one f g, floor_one g f) in
    (same, omega (signed, e, sum (q *ℤ pos w) (pos r), times q w, floor_law z w p, sum (Q *ℤ pos w) (pos (floor_mod z w)), times Q w, ap (λ (x : ℤ). up x * w) same, ap (λ (x : ℤ). dn x * w) same))
