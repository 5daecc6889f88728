-- The numbers of a text are as near to their measures as one declared number is; the start's own are exact.
use mathlib.Core.Path.{◌≡◌, refl}
use mathlib.Core.List.{List}
use Rattle.std.specs.Prelude.{Option}
use Prim.Native.Nat.{ℕ, suc, ◌+◌, ◌*◌, ◌^◌}
use native.Mathlib.Nat.{mul-one}
use native.Mathlib.Omega.{arith}
use Rattle.integers.proofs.Powers.{Under, one_pow}
use Rattle.cents.specs.Distance.{fewest}
use Rattle.cents.proofs.Near.{Close, measure_close}
use Rattle.exact.specs.Book.{Declared, frequency, ratio, root, number, start440, start_root, Powers, numbered, numbers_of, written}
use Rattle.exact.proofs.Ranges.{InRange, AllInRange, no_more, number_and, passing}
use Rattle.exact.proofs.Sizes.{size_440, size_root}
use Rattle.exact.proofs.EntryNear.{size_of, scaled, Good, AllGood, none as no-factor, also}

-- a bare ratio is divided by nothing
bare : (q A : ℕ) → q * 440 ^ (0 * A) ≡ q
bare q A =
    let e : 0 * A ≡ 0 = omega arith in
    rw e (mul-one q)

pub number_good : (d : Declared) → InRange d → Good (number d)
unfolding number scaled size_of
number_good (frequency f) h =
    record { near = measure_close 1 f 4400000 (omega arith) h.least h.most (omega arith) (omega arith); over_pos = h.least; scaled_pos = omega arith }
number_good (ratio p q) h =
    record { near = rw (bare q 1) (measure_close 1 p q (omega arith) h.0.least h.0.most h.1.least h.1.most); over_pos = h.0.least; scaled_pos = rw (bare q 1) h.1.least }
number_good (root A B) h =
    record { near = rw (bare 10000 A) (measure_close A B 10000 h.0 h.1.least h.1.most (omega arith) (omega arith)); over_pos = h.1.least; scaled_pos = rw (bare 10000 A) (omega arith) }

self : (N u : ℕ) → Close N 0 0 0 u u
self N u = record { low = record { le = omega arith }; high = record { le = omega arith } }

exact_root : (C N k : ℕ) → N * k ≡ C
    → (Under (N * (100 * k)) (N * (100 * 0 + fewest * 0)) (1 ^ (100 * C)) (2 ^ (100 * C))) × (Under (N * (100 * 0)) (N * (100 * k + fewest * 0)) (2 ^ (100 * C)) (1 ^ (100 * C)))
exact_root C N k e =
    let x : N * (100 * k) ≡ 100 * C = omega arith in
    let y : N * (100 * k + fewest * 0) ≡ 100 * C = omega arith in
    let z : N * (100 * 0 + fewest * 0) ≡ 0 = omega arith in
    let q : N * (100 * 0) ≡ 0 = omega arith in (
      record { le = rw (x, z, one_pow (100 * C)) (omega arith) },
      record { le = rw (y, q, one_pow (100 * C)) (omega arith) },
    )

pub start_good : Good start440 × Good start_root
unfolding start440 start_root scaled
start_good =
    let r = exact_root 1200000 12 100000 refl in (
      record { near = rw size_440 (self 1 440); over_pos = omega arith; scaled_pos = omega arith },
      record { near = rw size_root (record { low = r.0; high = r.1 }); over_pos = omega arith; scaled_pos = omega arith },
    )

numbered_good : (i : ℕ) (e : Powers) {l : List (Option Declared)} → AllInRange l → AllGood (written (numbered i l) e)
unfolding written numbered
numbered_good i e no_more = no-factor
numbered_good i e (number_and {d} r h) = also (number_good d r) (numbered_good (suc i) e h)
numbered_good i e (passing h) = numbered_good (suc i) e h

pub written_good : {ds : List (Option Declared)} (e : Powers) → AllInRange ds → AllGood (written (numbers_of ds) e)
unfolding written numbers_of
written_good e a = also start_good.0 (also start_good.1 (numbered_good 0 e a))
