use mathlib.Core.Path.{subst}
use Prim.Native.Nat.{ℕ}
use Rattle.harmonies.specs.Inner.{Joined}
use Rattle.harmonies.proofs.Chords.{both_halves}
use Rattle.harmonies.proofs.project.Goals as goal

pub returns : goal.returns
returns c =
    let a = c.args in
    let first = c.position_of.ensures.0 in
    let second = c.position_of-2.ensures.0 in
    let half = c.join-lower in
    let low = subst (λ (p : ℕ). Joined 0 c.keys_down.result p a.width half.result) first half.ensures in
    let high = subst (λ (p : ℕ). Joined half.result c.keys_down-2.result p a.width c.join.result) second c.join.ensures in (
      both_halves a.held a.anchor.0 a.width c.requires.0 c.requires.1 c.keys_down.ensures c.keys_down-2.ensures low high,
      c.join.ensures.within,
    )
