-- `tables::decode::places_of` meets its contract. The loop's invariant: the first i places are filled. Assumes nothing.
use Rattle.std.proofs.Common.{◌≡◌, ℕ, ℤ}
use Rattle.tuning.specs.State.{places}
use Rattle.tables.proofs.Lists.{filled}
use Rattle.tables.proofs.decode.places_of.Given as goal

abbrev pub invariant-loop-i : goal.invariant-loop-i
invariant-loop-i g l =
    goal.F-IsAlwaysCallable g l.read
    × ((f : ℕ → ℤ → _) → ((k : ℕ) (z : ℤ) (x : _) → goal.F-post g l.read k z x → x ≡ f k z) → l.all ≡ filled f l.fn.unused places l.kinds l.numbers l.i)
