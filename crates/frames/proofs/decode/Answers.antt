-- A line that begins with a head is this and what stands behind it.
use mathlib.Core.Path.{◌≡◌, ap, sym, ◌∙◌}
use mathlib.Core.Bool.{true}
use mathlib.Core.List.{List}
use Prim.Native.Nat.{ℕ}
use native.Mathlib.Omega.{arith}
use borrow.Author.Tests.{ne_eqb}
use Rattle.frames.specs.declared.Decoded.{Decoded}
use Rattle.frames.specs.Frames.{frame_of, decoded_as, inside}
use Rattle.frames.specs.Inner.{row_behind}
use Rattle.frames.proofs.Lines.{no_house, row_frame, three_frame, longer_frame, behind_head}
use Rattle.frames.proofs.Ranges.{frame_inside}
use Rattle.frames.proofs.decode.Goals as goal

-- the equation, from which the ranges follow
whole : (l : List ℕ) {r : Decoded} → r ≡ decoded_as (frame_of l) → (r ≡ decoded_as (frame_of l)) × (inside (frame_of l) ≡ true)
whole l e = (e, frame_inside l)

pub returns-then-not-is_house : goal.returns-then-not-is_house
returns-then-not-is_house c = whole _ (ap decoded_as (sym (no_house _ _ c.in-Some.ensures (sym (c.if-not-is_house.ensures)))))

pub returns-then-head-eq-LETTER_ROW_KIND : goal.returns-then-head-eq-LETTER_ROW_KIND
returns-then-head-eq-LETTER_ROW_KIND c =
    let l = c.args.line.now in
    let head = c.in-Some.head in
    whole _ (
    c.read_row.ensures
    ∙ ap (λ (digits : List ℕ). decoded_as (row_behind head.house head.value digits)) (behind_head l)
    ∙ ap decoded_as (sym (row_frame l head c.in-Some.ensures (sym (c.if-not-is_house.ensures)) c.if-head-eq-LETTER_ROW_KIND.true)))

pub returns-then-line-ne-HEAD_DIGITS : goal.returns-then-line-ne-HEAD_DIGITS
returns-then-line-ne-HEAD_DIGITS c =
    let h = c.in-Some.ensures in
    whole _ (ap decoded_as (sym (longer_frame _ _ h (omega (arith, h.long, c.if-line-ne-HEAD_DIGITS.true)) (ne_eqb _ _ c.if-head-eq-LETTER_ROW_KIND.false))))

pub returns : goal.returns
returns c =
    whole _ (c.read_frame.ensures ∙ ap decoded_as (sym (three_frame _ _ c.in-Some.ensures (sym (c.if-not-is_house.ensures)) c.if-line-ne-HEAD_DIGITS.false)))
