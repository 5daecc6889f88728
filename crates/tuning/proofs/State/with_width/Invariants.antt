-- `tuning::State::with_width` meets its contract. The loop's invariant: the first i places hold the sounds of i keys from the anchor on, the
-- others are unused. Assumes nothing.
use mathlib.Core.Path.{◌≡◌}
use Rattle.tuning.specs.State.{held}
use Rattle.tuning.proofs.Part.{part}
use Rattle.tuning.proofs.Changed.{keyed}
use Rattle.tuning.proofs.State.with_width.Given as goal

abbrev pub invariant-loop-i : goal.invariant-loop-i
invariant-loop-i l = l.tones ≡ part (keyed (held l.self) l.self.anchor.0) l.i l.initial.tones
