-- One line after the other.
use mathlib.Core.Logic.{inl, inr}
use mathlib.Core.Path.{◌≡◌, refl, sym, ap, ◌∙◌, subst}
use mathlib.Core.Bool.{true, false}
use mathlib.Core.List.{List, [], ◌++◌}
use Prim.Native.Nat.{ℕ, ◌+◌, ◌-◌, ◌≤◌, ◌<◌}
use native.Mathlib.Omega.{arith}
use borrow.Rule.Slice.PartMut.{same_len_mid}
use lib.ListN.{length, take, drop, length-take, length-drop, drop_of_length-le}
use lib.Seq.{drop-drop}
use Rattle.std.specs.Prelude.{Option, Some, IfSome}
use Rattle.std.proofs.lemmas.List.{take_rest}
use Rattle.frames.specs.Frames.{frame_of}
use Rattle.answers.specs.Answer.{smallest_buffer}
use Rattle.tables.specs.Layout.{Tables}
use Rattle.protocol.specs.declared.Desk.{Desk}
use Rattle.protocol.specs.declared.Answered.{Answered}
use Rattle.protocol.specs.declared.Told.{Told}
use Rattle.protocol.specs.Answers.{frame_outcome, valid_desk, answer_of, Gives}
use Rattle.protocol.specs.Inner.{may_change, told_outcome, Tells}
use Rattle.protocol.specs.OnBoard.{tables_on}
use Rattle.protocol.proofs.Ways.{told_by}
use Rattle.stream.specs.Feed.{feed}
use Rattle.stream.specs.Line.{held_in}
use Rattle.stream.proofs.Steps.{answer_fits, drop_more, rest_kept, on_line, same_held, same_ended, change_answered, told_answered}
use Rattle.stream.proofs.fill_ready.Invariants.{Going}
use Rattle.stream.proofs.fill_ready.Goals.{After-decode-frame, then-may_change, else-may_change}
use Rattle.stream.proofs.fill_ready.Goals as goal

ended : {o : Option ℕ} {n k : ℕ} → IfSome o (λ (i : ℕ). i < n) → o ≡ Some k → k < n
ended {o} {n} w e = subst (λ (x : Option ℕ). IfSome x (λ (i : ℕ). i < n)) e w

-- what is left of the chunk is no longer than it
left_most : (rest chunk : List ℕ) → rest ≡ drop (length chunk - length rest) chunk → length rest ≤ length chunk
left_most rest chunk e = omega (arith, ap length e, length-drop (length chunk - length rest) chunk)

-- once a line is read
module _ (c : goal.After-decode-frame) where
  abbrev t : Tables
  t = tables_on c.args.board.now

  abbrev d₁ : Desk
  d₁ = c.loop-end.d

  abbrev o : List ℕ
  o = c.loop-end.out

  abbrev u : ℕ
  u = c.loop-end.used

  abbrev bytes : List ℕ
  bytes = c.as_slice-bytes.result.now

  -- the part of the output that is lent
  abbrev part : List ℕ
  part = take (length o - u) (drop u o)

  room_here : smallest_buffer ≤ length part
  room_here = simp (length-take, length-drop) (omega (arith, c.if-out-used-lt-SMALLEST_BUFFER.false))

  change_here : {r : Answered} {written : List ℕ} → Gives (frame_outcome t d₁ (frame_of bytes)) r part written → Gives (answer_of t d₁ bytes (length part)) r part written
  change_here g = change_answered bytes c.decode-frame.ensures.0 t d₁ (length part) room_here c.loop-end.invariant.known g

  told_here : {r : Told} {written : List ℕ} → may_change c.decode-frame.result ≡ false
      → Tells (told_outcome d₁ c.decode-frame.result) r part written → Gives (answer_of t d₁ bytes (length part)) (told_by d₁ r) part written
  told_here h r = told_answered bytes c.decode-frame.ensures.0 t d₁ (length part) room_here c.loop-end.invariant.known h r

  -- an answer ends within the output
  module _ {r : Answered} {written : List ℕ} (g : Gives (answer_of t d₁ bytes (length part)) r part written) (k : length written ≡ length part) where
    answer_within : u + r.length ≤ length o
    answer_within =
        let v = c.loop-end.invariant in
        let fits = answer_fits g k in
        omega (arith, fits, v.room, v.out_length, length-take (length o - u) (drop u o), length-drop u o)

    -- the next line
    next : valid_desk t r.desk ≡ true → {out : List ℕ} {d : Desk} {used : ℕ} → out ≡ take u o ++ (written ++ drop (length o - u) (drop u o))
        → d ≡ r.desk → used ≡ u + r.length
        → Going t (feed c.args.desk (held_in c.args.line.now) []) c.args.chunk.now c.args.out.now d [] (drop (c.in-Some.end + 1) c.loop-end.rest.now) out used
    next valid {out} {d} {used} e f h =
        let v = c.loop-end.invariant in
        let rest = c.loop-end.rest.now in
        let chunk = c.args.chunk.now in
        let end = c.in-Some.end in
        let most = left_most rest chunk v.left in
        let room : u ≤ length o = omega (arith, v.room, v.out_length) in
        let within = answer_within in
        let inside : end < length rest = ended c.find_end.ensures.within c.in-Some.is in
        let size : length (drop (end + 1) rest) ≡ length rest - (end + 1) = length-drop (end + 1) rest in
        record {
          known = ap (valid_desk t) f ∙ valid;
          out_length = ap length e ∙ same_len_mid u (length o - u) o written k ∙ v.out_length;
          room = omega (arith, within, v.out_length, h);
          first = inr (omega (arith, size, inside, most));
          left =
              let at : length chunk - length rest + (end + 1) ≡ length chunk - length (drop (end + 1) rest) = omega (arith, size, inside, most) in
              ap (drop (end + 1)) v.left ∙ drop-drop (end + 1) (length chunk - length rest) chunk ∙ ap (λ (n : ℕ). drop n chunk) at;
          kept =
              (λ x. drop (h x) (e x))
              ∙ rest_kept o u (length o - u) room g k
              ∙ drop_more r.length u o _ v.kept
              ∙ ap (λ (n : ℕ). drop n c.args.out.now) (sym h);
          same = λ more.
              same_ended t d₁ (held_in c.loop-end.line) (take u o) rest (sym c.find_end.ensures.first ∙ c.in-Some.is) (c.as_slice-bytes.ensures ∙ c.hold.ensures)
              ((λ x. feed (f x) [] (take (h x) (e x))) ∙ on_line t d₁ bytes o _ u _ room_here room g) more
              ∙ v.same more;
        }

pub loop-end-init : goal.loop-end-init
loop-end-init c =
    record {
      known = c.requires;
      out_length = refl;
      room = omega arith;
      first = inl refl;
      left = let z : length c.args.chunk.now - length c.args.chunk.now ≡ 0 = omega arith in rw z;
      kept = refl;
      same = λ more. refl;
    }

pub loop-end-preserved : goal.loop-end-preserved
loop-end-preserved c =
    let here = (goal.at.loop-end-preserved c).After-decode-frame in
    rw (take_rest c.loop-end.rest.now (c.in-Some.end + 1), c.clear.ensures)
    (elim c.if-may_change.branch [
      | then-may_change w ↦
          next here (change_here here w.answer_changing-r.ensures.gives) w.answer_changing-r.auto.buffer w.answer_changing-r.ensures.stays w.out-is w.d-is w.used-is
      | else-may_change w ↦
          next here (told_here here (sym c.may_change.ensures ∙ w.if-may_change.false) w.tell-r.ensures) w.tell-r.auto.buffer c.loop-end.invariant.known w.out-is w.d-is w.used-is
    ])

pub returns-clause-same : goal.returns-clause-same
returns-clause-same c = λ more.
    let t = tables_on c.args.board.now in
    let chunk = c.args.chunk.now in
    let gone : drop (length chunk) chunk ≡ [] = drop_of_length-le chunk (omega arith) in
    rw gone
    (same_held t c.loop-end.d (held_in c.loop-end.line) (take c.loop-end.used c.loop-end.out) c.loop-end.rest.now (sym c.find_end.ensures.first ∙ c.in_default.is) c.hold-2.ensures more
    ∙ c.loop-end.invariant.same more)
