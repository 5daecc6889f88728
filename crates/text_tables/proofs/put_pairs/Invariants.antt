-- The room shrinks by five bytes for each pair that is put.
use Rattle.std.proofs.Common.{◌≡◌, ◌+◌, ◌*◌, ◌≤◌, min, length}
use Rattle.text_tables.proofs.put_pairs.Given as goal

abbrev pub invariant-loop-kind : goal.invariant-loop-kind
invariant-loop-kind l =
    record {
      alike : length l.kind-iterator.iter.a.rest.now ≡ length l.kind-iterator.iter.b.rest.now;
      room : 5 * min l.kind-iterator.n (length l.kind-iterator.iter.a.rest.now) ≤ length l.out.now;
      left : length l.out.now + 5 * min l.count (length l.kinds) ≡ length l.initial.out.now + 5 * min l.kind-iterator.n (length l.kind-iterator.iter.a.rest.now);
    }
