-- By the item; one that is no term adds nothing.
use borrow.Enum.Refused.{opened}
use mathlib.Core.Path.{◌≡◌, sym, ◌∙◌, ap}
use mathlib.Core.Bool.{true, false}
use native.Mathlib.Omega.{arith}
use borrow.Author.Rules.{rules}
use lib.IntN.{ℤ, pos, neg_ℤ, ◌-ℤ◌, ◌*ℤ◌, +ℤ_idl}
use mir.Facts.{to_z-of_z, to_z_pos}
use mir.Syntax.{w64}
use mir.Val.{SFits, to_z, of_z}
use Rattle.integers.proofs.Signed.{signed, diff}
use Rattle.values.specs.Values.{Term, weight}
use Rattle.filling.specs.Tables.{sum_of}
use Rattle.filling.specs.Inner.{value_in, FitTerm}
use Rattle.filling.proofs.Inside.{inside, no_term_holds}
use Rattle.filling.proofs.Terms.{sum_one}
use Rattle.filling.proofs.sums.weigh.Goals.{In-Add, In-Subtract}
use Rattle.filling.proofs.sums.weigh.Goals as goal

-- the term that is added, or subtracted
added : (c : goal.In-Add) → FitTerm c.args.values.now (record { minus = false; factor = c.in-Add.factor; of = c.in-Add.of })
added c = (rw c.in-Add.is at c.requires).0

subtracted : (c : goal.In-Subtract) → FitTerm c.args.values.now (record { minus = true; factor = c.in-Subtract.factor; of = c.in-Subtract.of })
subtracted c = (rw c.in-Subtract.is at c.requires).0

less : (c : goal.In-Subtract) → SFits w64 (pos 0 -ℤ pos c.in-Subtract.factor)
less c = omega (signed, diff (pos 0) (pos c.in-Subtract.factor), (subtracted c).factor)

pub multiply-requires : goal.multiply-requires
multiply-requires c =
    let t = added c in
    record { fit_value = t.of; times_bound = rw (to_z_pos w64 {n = c.in-Add.factor} (omega (arith, t.factor))) t.factor }

pub overflow_sub-factor : goal.overflow_sub-factor
overflow_sub-factor c = rw (to_z_pos w64 {n = c.in-Subtract.factor} (omega (arith, (subtracted c).factor))) (less c)

pub multiply-requires-in-Subtract : goal.multiply-requires-in-Subtract
multiply-requires-in-Subtract c =
    let t = subtracted c in
    let f = less c in
    record { fit_value = t.of; times_bound = simp (to_z_pos w64 {n = c.in-Subtract.factor} (omega (arith, t.factor)), to_z-of_z) (omega (signed, diff (pos 0) (pos c.in-Subtract.factor))) }

pub returns-in-Add : goal.returns-in-Add
returns-in-Add c =
    let v = value_in c.args.values.now in
    let t : Term = record { minus = false; factor = c.in-Add.factor; of = c.in-Add.of } in
    let f : SFits w64 c.multiply.result = search rules in
    let e = to_z_pos w64 {n = t.factor} (omega (arith, (added (goal.at.returns-in-Add c).In-Add).factor)) in
    rw c.in-Add.is (to_z-of_z f ∙ c.multiply.ensures ∙ ap (λ (w : ℤ). v t.of *ℤ w) e ∙ sym (sum_one v t))

pub returns-in-Subtract : goal.returns-in-Subtract
returns-in-Subtract c =
    let v = value_in c.args.values.now in
    let t : Term = record { minus = true; factor = c.in-Subtract.factor; of = c.in-Subtract.of } in
    let f : SFits w64 c.multiply-in-Subtract.result = search rules in
    let g = less (goal.at.returns-in-Subtract c).In-Subtract in
    let e = to_z_pos w64 {n = t.factor} (omega (arith, (subtracted (goal.at.returns-in-Subtract c).In-Subtract).factor)) in
    let m : to_z w64 (of_z w64 (pos 0 -ℤ to_z w64 t.factor)) ≡ weight t = rw e (to_z-of_z g ∙ +ℤ_idl (neg_ℤ (pos t.factor))) in
    rw c.in-Subtract.is (to_z-of_z f ∙ c.multiply-in-Subtract.ensures ∙ ap (λ (w : ℤ). v t.of *ℤ w) m ∙ sym (sum_one v t))

pub returns-in_default : goal.returns-in_default
returns-in_default c = ap (sum_of (value_in c.args.values.now)) (sym (no_term_holds (inside c.args.item) (opened c.in_default.in_default-own.keys3)))
