-- Presses one after the other. Assumes nothing.
use mathlib.Core.Path.{◌≡◌, refl, sym, ap, ◌∙◌}
use mathlib.Core.Bool.{true, false≢true}
use mathlib.Core.List.{List, [], ◌∷◌, ◌++◌, map, get_last_d, append-nil}
use Prim.Native.Nat.{ℕ, zero, suc, ◌+◌, ◌≤◌, ◌<◌}
use native.Mathlib.Numerals.{add-one}
use native.Mathlib.Omega.{arith}
use lib.ListN.{length, take, drop, get_or, set, length-set, length-map, drop_of_length-le}
use lib.Seq.{drop-cons, take-suc-set, append_snoc, get_or-take, length-take-le}
use types.Run.{OneOf}
use denote.Enum.Declared.{tag_of}
use Rattle.status.specs.Status.{done}
use Rattle.tuning.specs.Tuning.{Tuning}
use Rattle.tuning.specs.Desk.{cents}
use Rattle.tuning.specs.State.{held}
use Rattle.tables.specs.Layout.{Tables}
use Rattle.frames.specs.Frames.{most_presses, Frame, bad, letter, key, dump, move, letter_row, decoded_as}
use Rattle.frames.specs.Inner.{HasLetters}
use Rattle.frames.specs.declared.Decoded.{Decoded}
use Rattle.frames.specs.declared.Decoded.TheVariants.{Bad, Letter, Key, Dump, Move, LetterRow}
use Rattle.frames.specs.contracts.Decoded as variants
use Rattle.frames.proofs.LetterRows.{no_row}
use Rattle.hexadecimal.specs.Lines.{line_of}
use Rattle.protocol.specs.declared.Desk.{Desk}
use Rattle.protocol.specs.declared.Stepped.{Stepped}
use Rattle.protocol.specs.declared.presses.PressedAll.{PressedAll}
use Rattle.protocol.specs.Steps.{Made, Step, Pressed, letter_step, pressed_in_turn}
use Rattle.protocol.specs.Answers.{Outcome, letter_outcome, move_outcome, letter_row_outcome, frame_outcome, valid_desk}
use Rattle.protocol.specs.Inner.{FrameInside, may_change, step_leaves, step_of, press_count, press_at, presses_of, steps_from, Presses, press_bytes, pressed_bytes}
use Rattle.protocol.proofs.Ways.{of_no_row}

-- the last of numbers
pub last_of : (n : ℕ) (ns : List ℕ) (d : ℕ) → get_last_d (n ∷ ns) d ≡ get_last_d ns n
unfolding get_last_d
last_of n [] d = refl
last_of n (m ∷ ns) d = refl

-- ---- the presses of a frame

mapped_at : (f : ℕ → Decoded) (l : List ℕ) (i : ℕ) → i < length l → get_or (map f l) i Bad ≡ f (get_or l i 0)
mapped_at f [] i h = absurd (omega arith)
mapped_at f (x ∷ l) zero h = refl
mapped_at f (x ∷ l) (suc i) h = mapped_at f l i (omega arith)

pub count_most : (f : Decoded) → FrameInside f → press_count f ≤ most_presses
count_most Bad h = omega arith
count_most (Letter house c) h = omega arith
count_most (Key house k) h = omega arith
count_most (Dump house) h = omega arith
count_most (Move way house k) h = omega arith
count_most (LetterRow house count) h = h

-- of a frame that is no row
pub press_bytes_holds : (f : Decoded) (letters numbers : List ℕ) (number : ℕ) (s : Tuning cents) → OneOf no_row (tag_of variants.the_type f)
    → press_bytes f number s ≡ pressed_bytes f letters numbers number s
press_bytes_holds f letters numbers number s =
    of_no_row (λ (f : Decoded). press_bytes f number s ≡ pressed_bytes f letters numbers number s) refl (λ house c. refl) (λ house k. refl) (λ house. refl) (λ way house k. refl) f

module _ (letters : List ℕ) (n : length letters ≡ most_presses) where
  pub presses_length : (f : Decoded) → FrameInside f → length (presses_of f letters) ≡ press_count f
  presses_length Bad h = refl
  presses_length (Letter house c) h = refl
  presses_length (Key house k) h = refl
  presses_length (Dump house) h = refl
  presses_length (Move way house k) h = refl
  presses_length (LetterRow house count) h = length-map (take count letters) (Letter house) ∙ length-take-le count letters (omega arith)

  pub press_here : (f : Decoded) → FrameInside f → (i : ℕ) → i < press_count f → get_or (presses_of f letters) i Bad ≡ press_at f letters i
  press_here Bad h zero k = refl
  press_here Bad h (suc i) k = absurd (omega arith)
  press_here (Letter house c) h zero k = refl
  press_here (Letter house c) h (suc i) k = absurd (omega arith)
  press_here (Key house x) h zero k = refl
  press_here (Key house x) h (suc i) k = absurd (omega arith)
  press_here (Dump house) h zero k = refl
  press_here (Dump house) h (suc i) k = absurd (omega arith)
  press_here (Move way house x) h zero k = refl
  press_here (Move way house x) h (suc i) k = absurd (omega arith)
  press_here (LetterRow house count) h i k =
      mapped_at (Letter house) (take count letters) i (omega (arith, length-take-le count letters (omega arith)))
      ∙ ap (Letter house) (get_or-take count letters i 0 k)

-- ---- some are pressed: those that are left, from here, come to what all come to

module _ (t : Tables) (p : Pressed) (fs : List Decoded) where
  pub record Pressing (i : ℕ) (d : Desk) (last : ℕ) (all : List ℕ) : Type 0 where
    pub size : length all ≡ most_presses
    pub valid : valid_desk t d ≡ true
    pub desk : p.desk ≡ (steps_from t d (drop i fs)).desk
    pub number : get_last_d p.numbers done ≡ get_last_d (steps_from t d (drop i fs)).numbers last
    pub numbers : p.numbers ≡ take i all ++ (steps_from t d (drop i fs)).numbers

  module _ {i : ℕ} {d : Desk} {last : ℕ} {all : List ℕ} (h : Pressing i d last all) where
    pub pressing_on : {r : Stepped} → i < length fs → i < most_presses → r ≡ step_leaves (step_of t d (get_or fs i Bad)) → valid_desk t r.desk ≡ true
        → Pressing (i + 1) r.desk r.number (set all i r.number)
    unfolding steps_from
    pressing_on {r} k l e v =
        let s = step_of t d (get_or fs i Bad) in
        let next : steps_from t d (drop i fs) ≡ steps_from t d (get_or fs i Bad ∷ drop (i + 1) fs) = rw (add-one i) (ap (steps_from t d) (drop-cons fs i Bad k)) in
        let more : take (i + 1) (set all i s.number) ≡ take i all ++ s.number ∷ [] = rw (add-one i) (take-suc-set all i s.number (omega (arith, h.size))) in
        let rest = (steps_from t s.desk (drop (i + 1) fs)).numbers in
        record {
          size = length-set all i r.number ∙ h.size;
          valid = v;
          desk = h.desk ∙ ap (λ (x : Pressed). x.desk) next ∙ ap (λ (x : Stepped). (steps_from t x.desk (drop (i + 1) fs)).desk) (sym e);
          number =
              h.number
              ∙ ap (λ (x : Pressed). get_last_d x.numbers last) next
              ∙ last_of s.number rest last
              ∙ ap (λ (x : Stepped). get_last_d (steps_from t x.desk (drop (i + 1) fs)).numbers x.number) (sym e);
          numbers =
              h.numbers
              ∙ ap (λ (x : Pressed). take i all ++ x.numbers) next
              ∙ sym (append_snoc (take i all) s.number rest)
              ∙ ap (λ (w : List ℕ). w ++ rest) (sym more)
              ∙ ap (λ (x : Stepped). take (i + 1) (set all i x.number) ++ (steps_from t x.desk (drop (i + 1) fs)).numbers) (sym e);
        }

    pub pressing_ends : {n : ℕ} → i ≡ n → length fs ≤ i → Presses p n (record { desk = d; number = last; numbers = all })
    unfolding steps_from get_last_d
    pressing_ends {n} e k =
        let none = drop_of_length-le fs {i = i} k in
        record {
          desk = sym (h.desk ∙ ap (λ (w : List Decoded). (steps_from t d w).desk) none);
          number = sym (h.number ∙ ap (λ (w : List Decoded). get_last_d (steps_from t d w).numbers last) none);
          numbers =
              ap (λ (m : ℕ). take m all) (sym e)
              ∙ sym (h.numbers ∙ ap (λ (w : List Decoded). take i all ++ (steps_from t d w).numbers) none ∙ append-nil (take i all));
        }

-- none is pressed yet
pub pressing_starts : (t : Tables) (d : Desk) (fs : List Decoded) (all : List ℕ) → length all ≡ most_presses → valid_desk t d ≡ true
    → Pressing t (steps_from t d fs) fs 0 d done all
pressing_starts t d fs all h v = record { size = h; valid = v; desk = refl; number = refl; numbers = refl }

-- ---- so a frame is answered

module _ (t : Tables) where
  -- the letters of a row are pressed in turn
  row_steps : (house : ℕ) (cs : List ℕ) (d : Desk) → steps_from t d (map (Letter house) cs) ≡ pressed_in_turn t house d cs
  unfolding steps_from pressed_in_turn
  row_steps house [] d = refl
  row_steps house (c ∷ cs) d =
      let s = letter_step t house d c in
      ap (λ (r : Pressed). let q : Pressed = record { desk = r.desk; numbers = s.number ∷ r.numbers; made = s.made ++ r.made } in q) (row_steps house cs s.desk)

  module _ (d : Desk) where
    -- what the presses leave, and the bytes that tell it
    abbrev pub pressed_outcome : Decoded → List ℕ → Pressed → Outcome
    pressed_outcome f letters p =
        record {
          desk = p.desk;
          number = get_last_d p.numbers done;
          made = p.made;
          line = line_of (pressed_bytes f letters p.numbers (get_last_d p.numbers done) (held p.desk.tuning));
        }

    no_more : (s : Step) (line : List ℕ) → ◌≡◌ {A = Outcome} (record { desk = s.desk; number = s.number; made = s.made ++ []; line = line }) (record { desk = s.desk; number = s.number; made = s.made; line = line })
    no_more s line = ap (λ (ms : List Made). let o : Outcome = record { desk = s.desk; number = s.number; made = ms; line = line } in o) (append-nil s.made)

    pub on_change : (f : Frame) {q : Decoded} (letters : List ℕ) → q ≡ decoded_as f → may_change q ≡ true → HasLetters letters f
        → pressed_outcome q (take (press_count q) letters) (steps_from t d (presses_of q letters)) ≡ frame_outcome t d f
    unfolding steps_from get_last_d frame_outcome letter_outcome move_outcome letter_row_outcome
    on_change f letters e h l =
        ap (λ (q : Decoded). pressed_outcome q (take (press_count q) letters) (steps_from t d (presses_of q letters))) e ∙ go f (ap may_change (sym e) ∙ h) l
      where
        go : (f : Frame) → may_change (decoded_as f) ≡ true → HasLetters letters f
            → (let q = decoded_as f in pressed_outcome q (take (press_count q) letters) (steps_from t d (presses_of q letters)) ≡ frame_outcome t d f)
        go bad h l = absurd (false≢true h)
        go (letter house c) h l = no_more (step_of t d (Letter house c)) _
        go (key house k) h l = absurd (false≢true h)
        go (dump house) h l = absurd (false≢true h)
        go (move way house k) h l = no_more (step_of t d (decoded_as (move way house k))) _
        go (letter_row house cs) h l =
            ap (λ (xs : List ℕ). pressed_outcome (LetterRow house (length cs)) xs (steps_from t d (map (Letter house) xs))) l
            ∙ ap (pressed_outcome (LetterRow house (length cs)) cs) (row_steps house cs d)

    -- by what the code's struct has of them
    abbrev pub struct_outcome : Decoded → List ℕ → List Made → ℕ → PressedAll → Outcome
    struct_outcome f letters made count r =
        record { desk = r.desk; number = r.number; made = made; line = line_of (pressed_bytes f letters (take count r.numbers) r.number (held r.desk.tuning)) }

    pub struct_gives : (f : Decoded) (letters : List ℕ) (p : Pressed) (count : ℕ) (r : PressedAll) → Presses p count r
        → struct_outcome f letters p.made count r ≡ pressed_outcome f letters p
    struct_gives f letters p count r h = rw (h.desk, h.number, h.numbers)
