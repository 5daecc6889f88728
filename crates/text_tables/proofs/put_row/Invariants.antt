-- The room shrinks by four bytes for each number that is put.
use Rattle.std.proofs.Common.{◌≡◌, ◌+◌, ◌*◌, length}
use Rattle.text_tables.proofs.put_row.Given as goal

abbrev pub invariant-loop-value : goal.invariant-loop-value
invariant-loop-value l = length l.out.now + 4 * l.value-index ≡ length l.initial.out.now
