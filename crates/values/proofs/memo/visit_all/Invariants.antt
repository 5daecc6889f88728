-- The loop's invariant: the memo is right, and has every value before `row`.
use Prim.Native.Nat.{ℕ, ◌<◌}
use mathlib.Core.Path.{◌≡◌}
use mathlib.Core.Bool.{true}
use lib.ListN.{length}
use Rattle.values.specs.Rows.{own_in}
use Rattle.values.specs.Inner.{known, Good}
use Rattle.values.proofs.memo.visit_all.Given as goal

abbrev pub invariant-loop-row : goal.invariant-loop-row
invariant-loop-row l = Good (own_in l.rows) (length l.rows) l.memo × ((k : ℕ) → k < l.row → known l.memo k ≡ true)
