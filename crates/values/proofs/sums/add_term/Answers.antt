-- Neither the product nor the sum leaves the range of an `i64`.
use Prim.Native.Nat.{◌+◌, ◌*◌, ◌≤◌}
use native.Mathlib.Nat.{mul-le-mul_right}
use mathlib.Core.Path.{◌≡◌}
use borrow.Author.Rules.{rules}
use lib.IntN.{ℤ, nat_abs, ◌+ℤ◌, ◌*ℤ◌}
use mir.Facts.{to_z-of_z}
use mir.Syntax.{w64}
use mir.Val.{SFits, to_z, of_z}
use Rattle.integers.proofs.Signed.{signed, sum, mul_size}
use Rattle.std.specs.Prelude.{Some}
use Rattle.values.specs.Values.{Term, Value, farthest_tone, plus, weight}
use Rattle.values.specs.Inner.{size, largest_factor, largest_sum}
use Rattle.values.proofs.sums.add_term.Goals as goal

module _ (s z w : ℤ) (a : nat_abs s ≤ largest_sum) (b : nat_abs z ≤ farthest_tone) (c : nat_abs w ≤ largest_factor) where
  product : nat_abs (z *ℤ w) ≤ nat_abs w * farthest_tone
  product = omega (signed, mul_size z w, mul-le-mul_right (nat_abs w) b)

  bound : nat_abs (s +ℤ z *ℤ w) ≤ nat_abs s + nat_abs w * farthest_tone
  bound = let p = product in omega (signed, sum s (z *ℤ w))

  -- what the machine makes of it
  made : to_z w64 (of_z w64 (s +ℤ to_z w64 (of_z w64 (z *ℤ w)))) ≡ s +ℤ z *ℤ w
  made =
      let p = product in
      let q = bound in
      let f : SFits w64 (z *ℤ w) = omega signed in
      let g : SFits w64 (s +ℤ z *ℤ w) = omega signed in
      rw (to_z-of_z f, to_z-of_z g)

summed : {a b : Value} {s z w : ℤ} (t : Term) → a ≡ Some s → b ≡ Some z → w ≡ weight t → Some (s +ℤ z *ℤ w) ≡ plus a t b
unfolding plus
summed t e f g = rw (e, f, g)

pub returns : goal.returns
returns c =
    let s = c.in_ok-sum.field-0 in
    let z = c.in_ok-value.field-0 in
    let w = c.weigh.result in
    let f : SFits w64 s = search rules in
    let g : SFits w64 z = search rules in
    let h : SFits w64 w = search rules in
    let a : nat_abs s ≤ largest_sum = rw c.in_ok-sum.was at c.requires.0 in
    let b : nat_abs z ≤ farthest_tone = rw c.in_ok-value.was at c.requires.1 in
    let k : nat_abs w ≤ largest_factor = search (rules, c.weigh.ensures.1) in
    let e : size c.args.sum ≡ nat_abs s = rw c.in_ok-sum.was in
    rw (to_z-of_z f, to_z-of_z g, to_z-of_z h, made s z w a b k, e) (summed c.args.term c.in_ok-sum.was c.in_ok-value.was c.weigh.ensures.0, rw c.weigh.ensures.1 at (bound s z w a b k))
