-- What the chord has and what the keys left still reach is at every turn what it was at the first.
use mathlib.Core.Path.{◌≡◌}
use mathlib.Core.Bool.{◌||◌}
use Prim.Native.Nat.{ℕ, ◌^◌, ◌<◌}
use Rattle.sets.specs.Sets.{has}
use Rattle.harmonies.specs.Inner.{reaches}
use Rattle.harmonies.proofs.join.Given as goal

pub record Inv (chord keys first width joined left r : ℕ) : Type 0 where
  pub below : joined < 2 ^ 60
  pub small : left < 2 ^ 64
  pub place : r < width
  pub same : (s : ℕ) → has joined s || reaches left r width s ≡ has chord s || reaches keys first width s

abbrev pub invariant-loop-left : goal.invariant-loop-left
invariant-loop-left l = Inv l.chord l.keys l.first l.width l.joined l.left l.r

abbrev pub decreases-loop-left : goal.decreases-loop-left
decreases-loop-left l = l.left
