-- What the chord has and what the keys left still reach is at every turn what it was at the first.
use mathlib.Core.Path.{refl, sym, ap, ap₂, ◌∙◌}
use mathlib.Core.Bool.{Bool, true, false, cond, ◌||◌, or-false}
use Prim.Native.Nat.{ℕ, ◌+◌, ◌/◌, ◌%◌, ◌^◌, ◌<◌}
use native.Mathlib.Nat.{mod-lt}
use native.Mathlib.Omega.{arith}
use borrow.Author.Rules.{rules}
use lib.Dec.{eqb}
use Rattle.sets.specs.Sets.{has, added}
use Rattle.sets.proofs.Members.{added_below}
use Rattle.harmonies.specs.Inner.{reaches}
use Rattle.harmonies.proofs.Chords.{lowest, stays, none_reached}
use Rattle.harmonies.proofs.join.Goals as goal

within : (joined r : ℕ) (b : Bool) → joined < 2 ^ 60 → r < 60 → cond b (added joined r) joined < 2 ^ 60
within joined r true h l = added_below 60 joined r h l
within joined r false h l = h

pub loop-left-init : goal.loop-left-init
loop-left-init c = record { below = c.requires.0; small = search rules; place = c.requires.1; same = λ s. refl }

pub with_position-joined-requires : goal.with_position-joined-requires
with_position-joined-requires c = omega (arith, c.loop-left.invariant.place, c.requires.2)

pub next_position-r-requires : goal.next_position-r-requires
next_position-r-requires c = c.loop-left.invariant.place

pub loop-left-smaller : goal.loop-left-smaller
loop-left-smaller c = omega (arith, c.loop-left-test.true)

pub loop-left-preserved : goal.loop-left-preserved
loop-left-preserved c =
    let l = c.loop-left in
    let width = c.args.width in
    let joined = c.with_position-joined.ensures in
    let r = c.next_position-r.ensures in
    record {
      below = rw joined (within l.joined l.r (eqb (l.left % 2) 1) l.invariant.below (omega (arith, l.invariant.place, c.requires.2)));
      small = omega (arith, l.invariant.small);
      place = rw r (mod-lt (l.r + 1) (omega (arith, l.invariant.place)));
      same = λ s.
          ap₂ (λ (j n : ℕ). has j s || reaches (l.left / 2) n width s) joined r
          ∙ stays l.left l.r width s l.invariant.small l.invariant.place l.joined (eqb (l.left % 2) 1) (lowest l.left)
          ∙ l.invariant.same s;
    }

pub returns : goal.returns
returns c =
    let l = c.loop-left in
    let width = c.args.width in
    record {
      members = λ s.
          sym (ap (λ (b : Bool). has l.joined s || b) (ap (λ (n : ℕ). reaches n l.r width s) c.loop-left-test.false ∙ none_reached l.r width s)
          ∙ or-false (has l.joined s))
          ∙ l.invariant.same s;
      within = l.invariant.below;
    }
