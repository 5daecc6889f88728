-- The loop's invariant: the letters before i are read.
use Rattle.frames.proofs.Reading.{Reading}
use Rattle.frames.proofs.read_letters.Given as goal

abbrev pub invariant-loop-i : goal.invariant-loop-i
invariant-loop-i l = Reading l.digits l.codes l.i
