-- The loop's invariant: the bytes before i are written.
use mathlib.Core.Path.{◌≡◌}
use lib.ListN.{take}
use Rattle.hexadecimal.specs.Lines.{written}
use Rattle.hexadecimal.proofs.put_bytes.Given as goal

abbrev pub invariant-loop-i : goal.invariant-loop-i
invariant-loop-i l = l.buf ≡ written l.initial.buf l.at (take l.i l.bytes)
