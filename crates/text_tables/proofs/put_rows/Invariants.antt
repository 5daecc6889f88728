-- The room shrinks by seventeen bytes for each row that is put.
use Rattle.std.proofs.Common.{◌≡◌, ◌+◌, ◌*◌, ◌/◌, ◌≤◌, min, length}
use Rattle.text_tables.proofs.put_rows.Given as goal

abbrev pub invariant-loop-row : goal.invariant-loop-row
invariant-loop-row l =
    record {
      size : l.row-iterator.iter.size ≡ 5;
      room : 17 * min l.row-iterator.n (length l.row-iterator.iter.rest.now / 5) ≤ length l.out.now;
      left : length l.out.now + 17 * min l.count (length l.rows / 5) ≡ length l.initial.out.now + 17 * min l.row-iterator.n (length l.row-iterator.iter.rest.now / 5);
    }
