-- `tuning::State::change_period` meets its contract, each return by the law of its outcome. Assumes nothing.
use mathlib.Core.Path.{◌≡◌, sym, ap, ◌∙◌}
use native.Mathlib.Omega.{arith}
use lib.IntN.{ℤ}
use lib.ListN.{length}
use Rattle.tuning.specs.Tuning.{period_to, new_period}
use Rattle.tuning.specs.Desk.{cents, is_period, called}
use Rattle.tuning.specs.State.{held, period_meant}
use Rattle.tuning.specs.Capped.{capped_period}
use Rattle.tuning.proofs.Lists.{length_mapped}
use Rattle.tuning.proofs.Valid.{valid_of, period_size}
use Rattle.tuning.proofs.Held.{valid_held}
use Rattle.tuning.proofs.Changed.{period_state}
use Rattle.tuning.proofs.Capped.{capped_period_step}
use Rattle.tuning.proofs.Outcomes.{period_out, period_taken, reply_refused, reply_taken}
use Rattle.tuning.proofs.State.change_period.Goals.{After-is_period, Start}
use Rattle.tuning.proofs.State.change_period.Goals as goal

-- the state has sixty places
long : (c : goal.Start) → length c.args.self.tones ≡ 60
long c = search length_mapped

-- the change as it is capped is called the same
same : (c : goal.Start) → called (held c.args.self) (period_to (period_meant c.args.change)) ≡ called (held c.args.self) (period_to (capped_period (period_meant c.args.change)))
same c = sym (capped_period_step (held c.args.self) (valid_held c.args.self c.requires (long c)) (period_meant c.args.change))

-- what `is_period` tells of the new period
tested : (c : goal.After-is_period) → is_period (new_period cents c.args.self.period.0 (capped_period (period_meant c.args.change))) ≡ c.is_period.result
tested c = ap is_period (sym c.apply-period.ensures) ∙ sym c.is_period.ensures

pub apply-period-requires : goal.apply-period-requires
apply-period-requires c =
    let s = c.args.self in
    omega (arith, period_size s.period.0 (valid_of s c.requires).period)

pub returns-then-not-is_period : goal.returns-then-not-is_period
returns-then-not-is_period c =
    let a = (goal.at.returns-then-not-is_period c).Start in
    c.refused.ensures ∙ reply_refused a.args.self _ a.requires (long a) 12 (same a ∙ period_out _ _ (tested (goal.at.returns-then-not-is_period c).After-is_period ∙ c.if-not-is_period.true))

pub returns : goal.returns
returns c =
    let a = (goal.at.returns c).Start in
    let s = a.args.self in
    c.taken.ensures ∙ reply_taken s _ _ (same a ∙ period_taken _ _ (tested (goal.at.returns c).After-is_period ∙ c.if-not-is_period.false)) _
    (ap (λ (d : ℤ). record { anchor = s.anchor; width = s.width; tones = s.tones; period = record { 0 = d } }) c.apply-period.ensures ∙ period_state s a.requires (long a) _)
