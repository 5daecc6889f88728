-- `validity::Rows::are_right` meets its contract. The loop's invariant: what is left gives the answer, with the intervals as what the others leave of the
-- rows passed. Assumes nothing.
use mathlib.Core.Path.{◌≡◌}
use Prim.Native.Nat.{◌-◌, ◌≤◌}
use Rattle.validity.specs.Valid.{kinds, ends}
use Rattle.validity.specs.Inner.{others, kinds_among, fast_rows}
use Rattle.validity.proofs.Rows.are_right.Given as goal

abbrev pub invariant-loop-i : goal.invariant-loop-i
invariant-loop-i l =
    record {
      few : others l.kinds ≤ l.i;
      left : fast_rows l.self.numbers.now l.used (kinds_among l.kinds l.i) l.ends l.i (l.used.rows - l.i) ≡ fast_rows l.self.numbers.now l.used (kinds 0 0 0 0 0 0) (ends 0 0 0) 0 l.used.rows;
    }
