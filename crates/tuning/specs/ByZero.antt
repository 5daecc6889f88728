-- Document 02, 1/13: "only a zero handed to `/` waits for the call": what the call then gets, and calls worked out in numbers.
use Rattle.std.specs.Prelude.{◌≡◌, ◌↔◌, Bool, true, false, List, [], ◌∷◌}
use Rattle.cents.specs.Sums.{Row, ◌gives◌}
use Rattle.status.specs.Status.{division_by_zero, width_out_of_range}
use Rattle.status.specs.Status as Status
use Rattle.tuning.specs.declared.Operator.TheVariants.{Times, Divide}
use Rattle.tuning.specs.declared.Amount.TheVariants.{Absolute, Relative}
use Rattle.tuning.specs.Tuning.{Tuning, Action, anchor_to, width_to, period_to, tones_to, system, start}
use Rattle.tuning.specs.Desk.{cents, divides_by_zero, called}
use Rattle.tuning.specs.Sums.{call_number}
use Rattle.tuning.specs.BothEnds.{first_muted}

-- a call that divides by zero: a width's alone
abbrev pub divides : Action cents → Bool
divides (anchor_to m) = false
divides (width_to m) = divides_by_zero m
divides (period_to m) = false
divides (tones_to l) = false
divides (system y) = false

-- "at the call 25, before 10 to 14, for division by zero, state unchanged": just there, whatever else is wrong with it
pub record TwentyFive (s : Tuning cents) (c : Action cents) : Type 0 where
  pub exactly : ((called s c).number ≡ division_by_zero) ↔ (divides c ≡ true)
  pub unchanged : divides c ≡ true → (called s c).state ≡ s

-- from the start, whose width is 12: `@ / 0`, and the same where the first position is muted; `@ / 12` is taken and `@ / 13` comes to 0, which is no width,
-- as `@ * 0` and `<< 0 >>` do
unfoldable pub zeros : List Row
zeros =
    (called (start cents) (width_to (Relative Divide 0)) gives record { number = division_by_zero; state = start cents })
    ∷ (called first_muted (width_to (Relative Divide 0)) gives record { number = division_by_zero; state = first_muted })
    ∷ (call_number (start cents) (width_to (Relative Divide 12)) gives Status.done)
    ∷ (call_number (start cents) (width_to (Relative Divide 13)) gives width_out_of_range)
    ∷ (call_number (start cents) (width_to (Relative Times 0)) gives width_out_of_range)
    ∷ (call_number (start cents) (width_to (Absolute 0)) gives width_out_of_range)
    ∷ []
