-- The pitch and the sum together fit an `i64`.
use mathlib.Core.Path.{◌≡◌, ◌∙◌, ap, ap₂}
use borrow.Author.Rules.{rules}
use lib.IntN.{ℤ, ◌+ℤ◌}
use mir.Facts.{to_z-of_z}
use mir.Syntax.{w32, w64}
use mir.Val.{SFits, to_z, of_z}
use Rattle.integers.proofs.Signed.{signed, sum}
use Rattle.tuning.specs.Capped.{capped}
use Rattle.filling.proofs.sums.Sum.shift.Goals.{Start}
use Rattle.filling.proofs.sums.Sum.shift.Goals as goal

module _ (c : goal.Start) where
  abbrev p : ℤ
  p = c.args.from.0

  abbrev d : ℤ
  d = c.args.self.0

  narrow : SFits w32 p
  narrow = search rules

  wide : SFits w64 p
  wide = let f = narrow in omega signed

  sum_fits : SFits w64 d
  sum_fits = search rules

  whole_fits : SFits w64 (p +ℤ d)
  whole_fits = let f = narrow in omega (signed, sum p d, c.requires)

  whole : to_z w64 (of_z w64 (to_z w32 (of_z w32 p))) +ℤ to_z w64 (of_z w64 d) ≡ p +ℤ d
  whole = ap₂ (λ (x y : ℤ). x +ℤ y) (ap (λ (x : ℤ). to_z w64 (of_z w64 x)) (to_z-of_z narrow) ∙ to_z-of_z wide) (to_z-of_z sum_fits)

pub overflow_cast-from : goal.overflow_cast-from
overflow_cast-from c = rw (to_z-of_z (narrow (goal.at.overflow_cast-from c).Start)) (wide (goal.at.overflow_cast-from c).Start)

pub overflow_add-from : goal.overflow_add-from
overflow_add-from c = rw (whole (goal.at.overflow_add-from c).Start) (whole_fits (goal.at.overflow_add-from c).Start)

pub returns : goal.returns
returns c =
    let start = (goal.at.returns c).Start in
    let f : SFits w32 c.cap.result = search rules in
    to_z-of_z f ∙ c.cap.ensures ∙ ap capped (ap (λ (x : ℤ). to_z w64 (of_z w64 x)) (whole start) ∙ to_z-of_z (whole_fits start))
