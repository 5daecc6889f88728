-- One row after the other, from the last.
use mathlib.Core.Path.{◌≡◌, ◌∙◌, ap, subst}
use mathlib.Core.List.{List}
use native.Mathlib.Omega.{arith}
use Prim.Native.Nat.{ℕ, ◌+◌, ◌-◌, ◌<◌}
use lib.IntN.{ℤ}
use Rattle.std.specs.Prelude.{Option}
use Rattle.protocol.specs.Inner.{logic_trigger}
use Rattle.protocol.proofs.Index.{From, from_end, from_letter, from_chord, from_other, from_start}
use Rattle.protocol.proofs.board.index_rows.Goals.{in-Some, in-Some-2, in-None}
use Rattle.protocol.proofs.board.index_rows.Goals as goal

-- the index of the rows behind the present one
behind : {rows : List ℤ} {count i : ℕ} {letters chords : List (Option ℕ)} {first : Option ℕ} → From rows count i letters chords first → 0 < i
    → From rows count (i - 1 + 1) letters chords first
behind {rows} {count} {i} {letters} {chords} {first} w h =
    let e : i ≡ i - 1 + 1 = omega (arith, h) in
    subst (λ (j : ℕ). From rows count j letters chords first) e w

pub loop-i-init : goal.loop-i-init
loop-i-init c = rw (c.requires.letters, c.requires.chords) (from_end _ _ c.requires.most)

pub loop-i-preserved : goal.loop-i-preserved
loop-i-preserved c =
    let w = behind c.loop-i.invariant c.loop-i-test.true in
    let e = c.logic_trigger.ensures ∙ ap logic_trigger c.numbers_at.ensures in
    elim c.match-logic_trigger.branch [
      | in-Some w' ↦ rw (w'.letters-is, w'.first-is) (from_letter _ _ c.requires.most _ _ _ _ w e w'.in-Some.is w'.if-trigger.true)
      | in-Some-2 w' ↦ rw (w'.letters-is, w'.first-is) (from_chord _ _ c.requires.most _ _ _ _ w e w'.in-Some.is w'.if-trigger.false)
      | in-None w' ↦ rw (w'.letters-is, w'.first-is) (from_other _ _ c.requires.most _ _ _ _ w e w'.in-None.is)
    ]

pub returns : goal.returns
returns c = from_start _ _ c.loop-i.invariant (omega arith)
