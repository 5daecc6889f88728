-- `tuning::State::with_anchor` meets its contract. The loop's invariant: the first i places are shifted, and nothing else has changed.
-- Assumes nothing.
use mathlib.Core.Path.{◌≡◌}
use Rattle.tuning.proofs.Changed.{changed, shifted}
use Rattle.tuning.proofs.State.with_anchor.Given as goal

abbrev pub invariant-loop-i : goal.invariant-loop-i
invariant-loop-i l = l.self ≡ changed (λ k. shifted l.by.0) l.i l.initial.self
