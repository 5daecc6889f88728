-- The room shrinks by two bytes for each code that is put.
use Rattle.std.proofs.Common.{◌≡◌, ◌+◌, ◌*◌, ◌/◌, ◌≤◌, min, length}
use Rattle.text_tables.proofs.put_orders.Given as goal

abbrev pub invariant-loop-order : goal.invariant-loop-order
invariant-loop-order l =
    record {
      size : l.order-iterator.iter.size ≡ 2;
      room : 4 * min l.order-iterator.n (length l.order-iterator.iter.rest.now / 2) ≤ length l.out.now;
      left : length l.out.now + 4 * min l.count (length l.orders / 2) ≡ length l.initial.out.now + 4 * min l.order-iterator.n (length l.order-iterator.iter.rest.now / 2);
    }

abbrev pub invariant-loop-code : goal.invariant-loop-code
invariant-loop-code l = length l.out.now + 2 * l.code-index ≡ length l.initial.out.now
