-- `tuning::State::with_tones` meets its contract. The loop's invariant: the first i places are changed as the list says, and nothing else is.
-- Assumes nothing.
use mathlib.Core.Path.{◌≡◌}
use Rattle.tuning.proofs.Changed.{changed, retoned}
use Rattle.tuning.proofs.State.with_tones.Given as goal

abbrev pub invariant-loop-i : goal.invariant-loop-i
invariant-loop-i l = l.self ≡ changed (retoned l.list.positions) l.i l.initial.self
