-- The loop's invariant: the tones before this one are written.
use lib.ListN.{take}
use Rattle.tuning.specs.State.{held}
use Rattle.answers.specs.Answer.{tones_bytes}
use Rattle.answers.specs.Inner.{Adds}
use Rattle.answers.proofs.Line.put_tones.Given as goal

abbrev pub invariant-loop-tone : goal.invariant-loop-tone
invariant-loop-tone l = Adds l.initial.self l.self (tones_bytes (take l.tone-index (held l.fn.s).tones))
