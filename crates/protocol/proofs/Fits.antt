-- No answer is longer than 501 bytes, and none to a row of letters longer than 147. Assumes nothing.
use mathlib.Core.Path.{◌≡◌, refl, sym, ap, ◌∙◌}
use mathlib.Core.Bool.{true}
use mathlib.Core.List.{List, [], ◌∷◌, ◌++◌}
use Prim.Native.Nat.{ℕ, ◌+◌, ◌*◌, ◌≤◌}
use native.Mathlib.Omega.{arith}
use lib.ListN.{length, length-append}
use lib.IntN.{ℤ}
use Rattle.tuning.specs.Scale.{Sound}
use Rattle.tuning.specs.Tuning.{Tuning}
use Rattle.tuning.specs.Desk.{cents, playable}
use Rattle.tuning.specs.State.{places, held, valid_state}
use Rattle.tuning.proofs.Valid.{valid_of}
use Rattle.tuning.proofs.Held.{held_width}
use Rattle.tables.specs.Layout.{Tables}
use Rattle.frames.specs.Frames.{letter_kind, way_kind, Frame, bad, letter, key, dump, move, letter_row, frame_of, inside}
use Rattle.frames.proofs.Ranges.{frame_inside, row_ranges}
use Rattle.hexadecimal.specs.Numbers.{four_of}
use Rattle.hexadecimal.specs.Lines.{line_of}
use Rattle.hexadecimal.proofs.Written.{length_line}
use Rattle.answers.specs.Answer.{state_bytes, change_bytes, letter_row_bytes, key_bytes, dump_bytes, bad_bytes}
use Rattle.answers.proofs.Lines.{length_tones}
use Rattle.protocol.specs.declared.Desk.{Desk}
use Rattle.protocol.specs.Steps.{letter_step, pressed_in_turn, move_step}
use Rattle.protocol.specs.Answers.{Outcome, letter_outcome, move_outcome, letter_row_outcome, sound_at, key_number, key_outcome, frame_outcome}
use Rattle.protocol.specs.Fits.{longest_row_answer, longest_answer, AnswersFit}
use Rattle.protocol.proofs.Ways.{by_outcome, state_right}

-- a line has two digits for each byte, and a line feed
line_fits : (bs : List ℕ) → 2 * length bs + 1 ≤ longest_answer → length (line_of bs) ≤ longest_answer
line_fits bs h = omega (arith, length_line bs)

change_fits : (house kind value number : ℕ) (s : Tuning cents) → length (line_of (change_bytes house kind value number s)) ≤ longest_answer
unfolding four_of
change_fits house kind value number s = line_fits (change_bytes house kind value number s) (omega arith)

key_fits : (house k number : ℕ) (t : Sound ℤ) → length (line_of (key_bytes house k number t)) ≤ longest_answer
unfolding four_of
key_fits house k number t = line_fits (key_bytes house k number t) (omega arith)

-- a number for each press
count_numbers : (t : Tables) (house : ℕ) (d : Desk) (cs : List ℕ) → length (pressed_in_turn t house d cs).numbers ≡ length cs
unfolding pressed_in_turn
count_numbers t house d [] = refl
count_numbers t house d (c ∷ cs) = omega (arith, count_numbers t house (letter_step t house d c).desk cs)

module _ (t : Tables) (d : Desk) where
  row_fits : (house : ℕ) (cs : List ℕ) → inside (letter_row house cs) ≡ true → length (letter_row_outcome t d house cs).line ≤ longest_row_answer
  unfolding letter_row_outcome four_of
  row_fits house cs i =
      let p = pressed_in_turn t house d cs in
      let s = held p.desk.tuning in
      omega (
        arith,
        length_line (letter_row_bytes house cs p.numbers s),
        length-append (cs ++ p.numbers) (state_bytes s),
        length-append cs p.numbers,
        count_numbers t house d cs,
        (row_ranges house cs i).most,
      )

  -- as many tones as the state is wide
  dump_fits : (house : ℕ) → valid_state d.tuning ≡ true → length d.tuning.tones ≡ places → 2 * length (dump_bytes house (held d.tuning)) + 1 ≤ longest_answer
  unfolding four_of
  dump_fits house v n =
      let s = held d.tuning in
      omega (arith, length_tones s.tones, held_width d.tuning v n, (valid_of d.tuning v).most)

  frame_fits : valid_state d.tuning ≡ true → length d.tuning.tones ≡ places → (f : Frame) → inside f ≡ true → length (frame_outcome t d f).line ≤ longest_answer
  unfolding frame_outcome letter_outcome move_outcome key_outcome
  frame_fits v n bad i = line_fits bad_bytes (omega arith)
  frame_fits v n (letter house c) i = let s = letter_step t house d c in change_fits house letter_kind c s.number (held s.desk.tuning)
  frame_fits v n (key house k) i = let x = sound_at d k in key_fits house k (key_number x) (playable x)
  frame_fits v n (dump house) i = line_fits (dump_bytes house (held d.tuning)) (dump_fits house v n)
  frame_fits v n (move way house k) i = let s = move_step t way house d k in change_fits house (way_kind way) k s.number (held s.desk.tuning)
  frame_fits v n (letter_row house cs) i = omega (arith, row_fits house cs i)

pub answers_fit : AnswersFit
unfolding AnswersFit frame_outcome
answers_fit t d n frame room = record {
  any =
      by_outcome t d frame room (λ (o : Outcome). length o.line ≤ longest_answer) (omega arith) (λ v. omega arith)
      (λ v. frame_fits t d (state_right t d v) n (frame_of frame) (frame_inside frame));
  row = λ house cs e.
      by_outcome t d frame room (λ (o : Outcome). length o.line ≤ longest_row_answer) (omega arith) (λ v. omega arith)
      (λ v. rw e (row_fits t d house cs (ap inside (sym e) ∙ frame_inside frame)));
}
