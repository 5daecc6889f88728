-- A row of letters does what its presses do that are sent singly. Assumes nothing.
use mathlib.Core.Path.{◌≡◌, refl, sym, ap, ap₂, ◌∙◌}
use mathlib.Core.Bool.{Bool, true, false, cond, ◌&&◌, false≢true}
use mathlib.Core.List.{List, [], ◌∷◌, ◌++◌, get_last_d, append_assoc, append-nil}
use Rattle.std.specs.Prelude.{Some}
use Prim.Native.Nat.{ℕ, ◌≤◌, ◌<◌}
use native.Mathlib.Decide.{dec_lt}
use native.Mathlib.Omega.{arith}
use borrow.Author.Tests.{eq-eqb, eqb-true}
use lib.Dec.{eqb}
use lib.ListN.{length}
use Rattle.status.specs.Status.{done, letter_unbound, buffer_too_small, table_damaged}
use Rattle.tuning.specs.State.{places, held}
use Rattle.tables.specs.Layout.{Tables}
use Rattle.ascii.proofs.Between.{each, in_range_holds}
use Rattle.hexadecimal.specs.Digits.{hexes, bytes_of}
use Rattle.hexadecimal.specs.Lines.{line_of}
use Rattle.hexadecimal.proofs.RoundTrip.{Bytes, bytes_back}
use Rattle.frames.specs.Frames.{first_house, second_house, is_house, first_letter, last_letter, is_capital, letter_kind, letter_row_kind, fewest_presses, most_presses, is_count, are_capitals}
use Rattle.frames.specs.Frames.{Frame, bad, letter, key, dump, move, letter_row, letter_row_frame, framed, frame_of, inside}
use Rattle.frames.proofs.Lines.{same}
use Rattle.frames.proofs.Ranges.{frame_inside, RowRanges, row_ranges}
use Rattle.answers.specs.Answer.{letter_row_bytes, smallest_buffer}
use Rattle.protocol.specs.declared.Desk.{Desk}
use Rattle.protocol.specs.Triggers.{itself}
use Rattle.protocol.specs.Steps.{Made, letter_step, pressed_in_turn}
use Rattle.protocol.specs.Answers.{Outcome, letter_outcome, letter_row_outcome, frame_outcome, valid_desk, unchanged, answer_of}
use Rattle.protocol.specs.Streams.{Lent, desk_after, made_in, numbers_in}
use Rattle.protocol.specs.Singly.{RightRow, RowsAreRead, WrongRows, single, singly, SameAsSingly, RowsAreSingles, sent_as, all_singly, SentSingly, StreamsOfRows}
use Rattle.protocol.proofs.Ways.{by_outcome, tables_right, too_small, damaged, taken}
use Rattle.protocol.proofs.InTurn.{last_of}
use Rattle.protocol.proofs.Stays.{right_valid, step_right, frame_right, valid_right}

-- ---- lines are read back

capital_bytes : (cs : List ℕ) → are_capitals cs ≡ true → Bytes cs
unfolding are_capitals
capital_bytes [] e = tt
capital_bytes (c ∷ cs) e = let a = each (is_capital c) (are_capitals cs) e in (omega (arith, (in_range_holds first_letter last_letter c a.0).1), capital_bytes cs a.1)

letter_read : (house c : ℕ) → is_house house ≡ true → is_capital c ≡ true → frame_of (hexes (house ∷ letter_kind ∷ c ∷ [])) ≡ letter house c
unfolding frame_of framed
letter_read house c h l =
    rw (
      bytes_back (house ∷ letter_kind ∷ c ∷ [])
          (omega (arith, (in_range_holds first_house second_house house h).1), (omega arith, (omega (arith, (in_range_holds first_letter last_letter c l).1), tt))),
      h,
      l,
    )

pub rows_are_read : RowsAreRead
unfolding RowsAreRead frame_of framed
rows_are_read house cs r =
    rw (
      bytes_back (house ∷ letter_row_kind ∷ length cs ∷ cs)
          (omega (arith, (in_range_holds first_house second_house house r.from).1), (omega arith, (omega (arith, (in_range_holds fewest_presses most_presses (length cs) r.count).1), capital_bytes cs r.letters))),
      r.from,
      r.count,
      eq-eqb (length cs) (length cs) refl,
      r.letters,
    )

-- any other line of kind 04 is a bad frame
wrong_frame : (line : List ℕ) (house : ℕ) (rest : List ℕ) → bytes_of line ≡ Some (house ∷ letter_row_kind ∷ rest)
    → ((cs : List ℕ) → rest ≡ length cs ∷ cs → RightRow house cs → ⊥) → frame_of line ≡ bad
unfolding frame_of framed
wrong_frame line house rest e n = rw e (by_rest rest n)
  where
    by_tests : (count : ℕ) (cs : List ℕ) (a b c z : Bool) → is_house house ≡ a → is_count count ≡ b → eqb (length cs) count ≡ c → are_capitals cs ≡ z
        → ((xs : List ℕ) → count ∷ cs ≡ length xs ∷ xs → RightRow house xs → ⊥) → cond a (cond (b && c && z) (letter_row house cs) bad) bad ≡ bad
    by_tests count cs false b c z h k l m n = refl
    by_tests count cs true false c z h k l m n = refl
    by_tests count cs true true false z h k l m n = refl
    by_tests count cs true true true false h k l m n = refl
    by_tests count cs true true true true h k l m n =
        let size = eqb-true (length cs) count l in
        absurd (n cs (ap (λ (x : ℕ). x ∷ cs) (sym size)) (record { from = h; count = ap is_count size ∙ k; letters = m }))

    by_rest : (rest : List ℕ) → ((cs : List ℕ) → rest ≡ length cs ∷ cs → RightRow house cs → ⊥) → cond (is_house house) (letter_row_frame house rest) bad ≡ bad
    by_rest [] n = same (is_house house)
    by_rest (count ∷ cs) n = by_tests count cs (is_house house) (is_count count) (eqb (length cs) count) (are_capitals cs) refl refl refl refl n

pub wrong_rows : WrongRows
unfolding WrongRows frame_outcome
wrong_rows t d v line house rest e n room h = sym (taken t d line room h refl v) ∙ ap (frame_outcome t d) (wrong_frame line house rest e n)

-- ---- presses sent singly

-- all but the line
record SameLess (t : Tables) (d : Desk) (line : List ℕ) (house : ℕ) (cs : List ℕ) (room : ℕ) : Type 0 where
  desk : (answer_of t d line room).desk ≡ desk_after t d (singly house room cs)
  made : (answer_of t d line room).made ≡ made_in t d (singly house room cs)
  number : (answer_of t d line room).number ≡ get_last_d (numbers_in t d (singly house room cs)) done

module _ (t : Tables) (house room : ℕ) where
  -- where nothing is done they leave the desk, and each has the same number
  module _ (d : Desk) (n : ℕ) (same : (frame : List ℕ) → answer_of t d frame room ≡ unchanged d n) where
    still_desk : (cs : List ℕ) → desk_after t d (singly house room cs) ≡ d
    unfolding desk_after
    still_desk [] = refl
    still_desk (c ∷ cs) = ap (λ (o : Outcome). desk_after t o.desk (singly house room cs)) (same (single house room c).frame) ∙ still_desk cs

    still_made : (cs : List ℕ) → made_in t d (singly house room cs) ≡ []
    unfolding made_in
    still_made [] = refl
    still_made (c ∷ cs) = ap (λ (o : Outcome). o.made ++ made_in t o.desk (singly house room cs)) (same (single house room c).frame) ∙ still_made cs

    first_number : (c : ℕ) (cs : List ℕ) (m : ℕ) → get_last_d (numbers_in t d (singly house room (c ∷ cs))) m ≡ get_last_d (numbers_in t d (singly house room cs)) n
    unfolding numbers_in
    first_number c cs m =
        ap (λ (o : Outcome). get_last_d (o.number ∷ numbers_in t o.desk (singly house room cs)) m) (same (single house room c).frame)
        ∙ last_of n (numbers_in t d (singly house room cs)) m

    still_number : (cs : List ℕ) → get_last_d (numbers_in t d (singly house room cs)) n ≡ n
    unfolding numbers_in get_last_d
    still_number [] = refl
    still_number (c ∷ cs) = first_number c cs n ∙ still_number cs

    still : (line cs : List ℕ) → 1 ≤ length cs → SameLess t d line house cs room
    still line [] h = absurd (omega arith)
    still line (c ∷ cs) h = record {
      desk = ap (λ (o : Outcome). o.desk) (same line) ∙ sym (still_desk (c ∷ cs));
      made = ap (λ (o : Outcome). o.made) (same line) ∙ sym (still_made (c ∷ cs));
      number = ap (λ (o : Outcome). o.number) (same line) ∙ sym (first_number c cs done ∙ still_number cs);
    }

  -- else each is the press of its letter
  module _ (h : is_house house ≡ true) (m : smallest_buffer ≤ room) where
    single_press : (d : Desk) → valid_desk t d ≡ true → (c : ℕ) → is_capital c ≡ true
        → answer_of t d (hexes (house ∷ letter_kind ∷ c ∷ [])) room ≡ letter_outcome t d house c
    unfolding frame_outcome
    single_press d v c l = sym (taken t d _ room m refl v) ∙ ap (frame_outcome t d) (letter_read house c h l)

    pub record Singles (d : Desk) (cs : List ℕ) : Type 0 where
      pub desk : desk_after t d (singly house room cs) ≡ (pressed_in_turn t house d cs).desk
      pub made : made_in t d (singly house room cs) ≡ (pressed_in_turn t house d cs).made
      pub numbers : numbers_in t d (singly house room cs) ≡ (pressed_in_turn t house d cs).numbers

    singles : (d : Desk) (v : valid_desk t d ≡ true) → length d.tuning.tones ≡ places → (cs : List ℕ) → are_capitals cs ≡ true → Singles d cs
    unfolding are_capitals desk_after made_in numbers_in pressed_in_turn letter_outcome
    singles d v n [] l = record { desk = refl; made = refl; numbers = refl }
    singles d v n (c ∷ cs) l =
        let a = each (is_capital c) (are_capitals cs) l in
        let s = letter_step t house d c in
        let right = step_right t (tables_right t d v) d (valid_right t d v n) house (itself c) letter_unbound in
        let rest = singles s.desk (right_valid t (tables_right t d v) s.desk right) right.tuning.1 cs a.1 in
        let e = single_press d v c a.0 in
        record {
          desk = ap (λ (o : Outcome). desk_after t o.desk (singly house room cs)) e ∙ rest.desk;
          made = ap (λ (o : Outcome). o.made ++ made_in t o.desk (singly house room cs)) e ∙ ap (λ (w : List Made). s.made ++ w) rest.made;
          numbers = ap (λ (o : Outcome). o.number ∷ numbers_in t o.desk (singly house room cs)) e ∙ ap (λ (w : List ℕ). s.number ∷ w) rest.numbers;
        }

-- ---- a row

module _ (t : Tables) (d : Desk) (n : length d.tuning.tones ≡ places) (line : List ℕ) (house : ℕ) (cs : List ℕ) (e : frame_of line ≡ letter_row house cs) (room : ℕ) where
  ranges : RowRanges house cs
  ranges = row_ranges house cs (ap inside (sym e) ∙ frame_inside line)

  from_house : is_house house ≡ true
  from_house = (each (is_house house) (is_count (length cs)) (each (is_house house && is_count (length cs)) (are_capitals cs) (ap inside (sym e) ∙ frame_inside line)).0).0

  -- a buffer that is too small, or damage
  small : room < smallest_buffer → (frame : List ℕ) → answer_of t d frame room ≡ unchanged d buffer_too_small
  small h frame = sym (too_small t d frame room h)

  hurt : smallest_buffer ≤ room → valid_desk t d ≡ false → (frame : List ℕ) → answer_of t d frame room ≡ unchanged d table_damaged
  hurt h v frame = sym (damaged t d frame room h refl v)

  refused : (m : ℕ) → ((frame : List ℕ) → answer_of t d frame room ≡ unchanged d m) → (smallest_buffer ≤ room → valid_desk t d ≡ true → ⊥) → SameAsSingly t d line house cs room
  refused m same never =
      let s = still t house room d m same line cs ranges.fewest in
      record { desk = s.desk; made = s.made; number = s.number; answer = λ h v. absurd (never h v) }

  -- or the presses are tried
  pressed : smallest_buffer ≤ room → valid_desk t d ≡ true → SameAsSingly t d line house cs room
  unfolding frame_outcome letter_row_outcome
  pressed h v =
      let s = singles t house room from_house h d v n cs ranges.capitals in
      let p = pressed_in_turn t house d cs in
      let o : answer_of t d line room ≡ letter_row_outcome t d house cs = sym (taken t d line room h refl v) ∙ ap (frame_outcome t d) e in
      record {
        desk = ap (λ (x : Outcome). x.desk) o ∙ sym s.desk;
        made = ap (λ (x : Outcome). x.made) o ∙ sym s.made;
        number = ap (λ (x : Outcome). x.number) o ∙ ap (λ (w : List ℕ). get_last_d w done) (sym s.numbers);
        answer = λ k w.
            ap (λ (x : Outcome). x.line) o
            ∙ ap₂ (λ (ms : List ℕ) (x : Desk). line_of (letter_row_bytes house cs ms (held x.tuning))) (sym s.numbers) (sym s.desk);
      }

  row_singly : SameAsSingly t d line house cs room
  row_singly =
      elim (dec_lt room smallest_buffer) [
        | yes h ↦ refused buffer_too_small (small h) (λ k v. omega arith)
        | no h ↦ by_desk (omega arith) (valid_desk t d) refl
      ]
    where
      by_desk : smallest_buffer ≤ room → (b : Bool) → valid_desk t d ≡ b → SameAsSingly t d line house cs room
      by_desk h true v = pressed h v
      by_desk h false v = refused table_damaged (hurt h v) (λ k w. false≢true (sym v ∙ w))

pub rows_are_singles : RowsAreSingles
unfolding RowsAreSingles
rows_are_singles t d n line house cs e room = row_singly t d n line house cs e room

-- ---- along a stream

module _ (t : Tables) where
  desk_append : (d : Desk) (ls ms : List Lent) → desk_after t d (ls ++ ms) ≡ desk_after t (desk_after t d ls) ms
  unfolding desk_after
  desk_append d [] ms = refl
  desk_append d (l ∷ ls) ms = desk_append (answer_of t d l.frame l.room).desk ls ms

  made_append : (d : Desk) (ls ms : List Lent) → made_in t d (ls ++ ms) ≡ made_in t d ls ++ made_in t (desk_after t d ls) ms
  unfolding desk_after made_in
  made_append d [] ms = refl
  made_append d (l ∷ ls) ms =
      let o = answer_of t d l.frame l.room in
      ap (λ (w : List Made). o.made ++ w) (made_append o.desk ls ms) ∙ sym (append_assoc o.made (made_in t o.desk ls) (made_in t (desk_after t o.desk ls) ms))

  -- one frame
  pub record SentAs (d : Desk) (l : Lent) (f : Frame) : Type 0 where
    pub desk : (answer_of t d l.frame l.room).desk ≡ desk_after t d (sent_as l f)
    pub made : (answer_of t d l.frame l.room).made ≡ made_in t d (sent_as l f)

  as_it_is : (d : Desk) (l : Lent) → SentAs d l bad
  unfolding desk_after made_in
  as_it_is d l = record { desk = refl; made = sym (append-nil (answer_of t d l.frame l.room).made) }

  sent_as_step : (d : Desk) → length d.tuning.tones ≡ places → (l : Lent) (f : Frame) → frame_of l.frame ≡ f → SentAs d l f
  sent_as_step d n l bad e = as_it_is d l
  sent_as_step d n l (letter house c) e = let s = as_it_is d l in record { desk = s.desk; made = s.made }
  sent_as_step d n l (key house k) e = let s = as_it_is d l in record { desk = s.desk; made = s.made }
  sent_as_step d n l (dump house) e = let s = as_it_is d l in record { desk = s.desk; made = s.made }
  sent_as_step d n l (move way house k) e = let s = as_it_is d l in record { desk = s.desk; made = s.made }
  sent_as_step d n l (letter_row house cs) e = let s = row_singly t d n l.frame house cs e l.room in record { desk = s.desk; made = s.made }

  -- a state keeps its sixty places
  tones_kept : (d : Desk) → length d.tuning.tones ≡ places → (l : Lent) → length (answer_of t d l.frame l.room).desk.tuning.tones ≡ places
  tones_kept d n l =
      by_outcome t d l.frame l.room (λ (o : Outcome). length o.desk.tuning.tones ≡ places) n (λ v. n)
      (λ v. (frame_right t (tables_right t d v) d (valid_right t d v n) (frame_of l.frame)).tuning.1)

  rows_streamed : (ls : List Lent) (d : Desk) → length d.tuning.tones ≡ places → SentSingly t d ls
  unfolding desk_after made_in all_singly
  rows_streamed [] d n = record { desk = refl; made = refl }
  rows_streamed (l ∷ ls) d n =
      let o = answer_of t d l.frame l.room in
      let fs = sent_as l (frame_of l.frame) in
      let s = sent_as_step d n l (frame_of l.frame) refl in
      let rest = rows_streamed ls o.desk (tones_kept d n l) in
      record {
        desk = rest.desk ∙ ap (λ (x : Desk). desk_after t x (all_singly ls)) s.desk ∙ sym (desk_append d fs (all_singly ls));
        made =
            ap₂ ◌++◌ s.made (rest.made ∙ ap (λ (x : Desk). made_in t x (all_singly ls)) s.desk)
            ∙ sym (made_append d fs (all_singly ls));
      }

pub streams_of_rows : StreamsOfRows
unfolding StreamsOfRows
streams_of_rows t d n ls = rows_streamed t ls d n
