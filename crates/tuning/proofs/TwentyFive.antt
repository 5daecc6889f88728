-- The law of specs/ByZero.antt: no other check has 25. Assumes nothing.
use mathlib.Core.Path.{◌≡◌}
use mathlib.Core.Logic.{◌↔◌, ◌≢◌}
use mathlib.Core.Bool.{true, false, false≢true}
use mathlib.Core.List.{[]}
use native.Mathlib.Omega.{arith}
use Rattle.status.specs.Status.{division_by_zero}
use Rattle.tuning.specs.Tuning.{Tuning, Action, anchor_to, width_to, period_to, tones_to, system}
use Rattle.tuning.specs.Desk.{cents, first_failing, checks, called}
use Rattle.tuning.specs.ByZero.{divides, TwentyFive}
use Rattle.tuning.proofs.Outcomes.{none_fails, not_first, decides}
use Rattle.tuning.proofs.Laws.{refused_keeps}

none : first_failing [] ≢ division_by_zero
none = none_fails division_by_zero (λ e. omega arith)

never : {A : Type 0} → (A → ⊥) → A ↔ (false ≡ true)
never h = (λ a. absurd (h a), λ e. absurd (false≢true e))

exactly : (s : Tuning cents) (c : Action cents) → (first_failing (checks s c) ≡ division_by_zero) ↔ (divides c ≡ true)
exactly s (anchor_to m) =
    never (not_first 9 division_by_zero _ _ (λ e. omega arith) (not_first 12 division_by_zero _ _ (λ e. omega arith) (not_first 13 division_by_zero _ _ (λ e. omega arith) none)))
exactly s (width_to m) =
    decides 24 _ _
    (not_first 10 division_by_zero _ _ (λ e. omega arith)
    (not_first 12 division_by_zero _ _ (λ e. omega arith)
    (not_first 13 division_by_zero _ _ (λ e. omega arith) (not_first 11 division_by_zero _ _ (λ e. omega arith) none))))
exactly s (period_to m) = never (not_first 11 division_by_zero _ _ (λ e. omega arith) none)
exactly s (tones_to l) = never (not_first 13 division_by_zero _ _ (λ e. omega arith) none)
exactly s (system y) = never none

number : (s : Tuning cents) (c : Action cents) → ((called s c).number ≡ division_by_zero) ↔ (divides c ≡ true)
unfolding called
number s c = exactly s c

pub twenty_five : (s : Tuning cents) (c : Action cents) → TwentyFive s c
twenty_five s c = record { exactly = number s c; unchanged = λ h. refused_keeps s c (λ e. omega (arith, (number s c).1 h)) }
