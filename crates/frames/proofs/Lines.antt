-- The length of a frame: three bytes, or as many as a row of letters has.
use Prim.Native.Nat.{ℕ, suc, ◌+◌, ◌-◌, ◌*◌, ◌≤◌, ◌<◌}
use mathlib.Core.Path.{◌≡◌, refl, ap, ◌∙◌}
use mathlib.Core.Bool.{Bool, true, false, cond, ◌&&◌}
use mathlib.Core.List.{List, [], ◌∷◌}
use Rattle.std.specs.Prelude.{Option, None, Some}
use Rattle.std.proofs.lemmas.Option.{none-some, same_Some}
use Rattle.std.specs.Option.{option_map_or}
use native.Mathlib.Numerals.{add-one}
use native.Mathlib.Omega.{arith}
use native.Mathlib.Decide.{dec_le}
use borrow.Author.Tests.{eqb-true}
use lib.Dec.{eqb}
use lib.ListN.{length, take, drop, get_or, length-take, length-drop, drop_of_length-le}
use lib.Seq.{take_all, drop-cons}
use Rattle.ascii.proofs.Between.{in_range_holds}
use Rattle.hexadecimal.specs.Digits.{of_both, byte_of, bytes_of}
use Rattle.frames.specs.declared.Head.{Head}
use Rattle.frames.specs.Frames.{is_house, are_capitals, letter_row_kind, fewest_presses, most_presses, is_count, bad, letter_row, letter_row_frame, kind_frame, framed, frame_of, enough}
use Rattle.frames.specs.Inner.{head_digits, HeadOf, row_behind}

-- one byte more is two digits more
longer : (o : Option ℕ) (p : Option (List ℕ)) (n : ℕ) {bs : List ℕ} → ((xs : List ℕ) → p ≡ Some xs → n ≡ 2 * length xs) → of_both (λ b bs. b ∷ bs) o p ≡ Some bs → suc (suc n) ≡ 2 * length bs
longer (Some x) (Some xs) n {bs} h e = omega (arith, h xs refl, ap length (same_Some (x ∷ xs) bs e))
longer (Some x) None n {bs} h e = absurd (none-some bs e)
longer None p n {bs} h e = absurd (none-some bs e)

-- a line has two digits for each of its bytes
pub two_each : (l : List ℕ) {bs : List ℕ} → bytes_of l ≡ Some bs → length l ≡ 2 * length bs
unfolding bytes_of
two_each [] {bs} e = omega (arith, ap length (same_Some [] bs e))
two_each (a ∷ []) {bs} e = absurd (none-some bs e)
two_each (a ∷ b ∷ l) e = longer (byte_of a b) (bytes_of l) (length l) (λ xs h. two_each l h) e

-- bad either way
pub same : (t : Bool) → cond t bad bad ≡ bad
same true = refl
same false = refl

-- a row of another number of letters than its count, or whose count is none, is bad
pub no_row_holds : (house count : ℕ) (letters : List ℕ) → (is_count count ≡ true → length letters ≡ count → ⊥) → letter_row_frame house (count ∷ letters) ≡ bad
no_row_holds house count letters n = go (is_count count) (eqb (length letters) count) refl refl
  where
    go : (x y : Bool) → is_count count ≡ x → eqb (length letters) count ≡ y → cond (x && y && are_capitals letters) (letter_row house letters) bad ≡ bad
    go true true e f = absurd (n e (eqb-true (length letters) count f))
    go true false e f = refl
    go false y e f = refl

-- a frame has at least three bytes
short : (bs : List ℕ) → length bs < 3 → framed bs ≡ bad
unfolding framed
short [] n = refl
short (house ∷ []) n = refl
short (house ∷ kind ∷ []) n = simp same
short (house ∷ kind ∷ b ∷ more) n = absurd (omega arith)

-- one of another kind than a row's has no more
three : (house kind b c : ℕ) (more : List ℕ) → eqb kind letter_row_kind ≡ false → framed (house ∷ kind ∷ b ∷ c ∷ more) ≡ bad
unfolding framed
three house kind b c more e = rw e (simp same)

-- and a row's at most 32 more
long : (bs : List ℕ) → 3 + most_presses < length bs → framed bs ≡ bad
unfolding framed
long [] n = absurd (omega arith)
long (house ∷ []) n = absurd (omega arith)
long (house ∷ kind ∷ []) n = absurd (omega arith)
long (house ∷ kind ∷ b ∷ []) n = absurd (omega arith)
long (house ∷ kind ∷ b ∷ c ∷ more) n =
    rw (no_row_holds house b (c ∷ more) (λ e f. omega (arith, (in_range_holds fewest_presses most_presses b e).1))) (simp same)

-- so is a line of such a length
module _ (l : List ℕ) where
  by_bytes : ((bs : List ℕ) → length l ≡ 2 * length bs → framed bs ≡ bad) → frame_of l ≡ bad
  unfolding frame_of
  by_bytes n = go (bytes_of l) (λ bs h. two_each l h)
    where
      go : (o : Option (List ℕ)) → ((bs : List ℕ) → o ≡ Some bs → length l ≡ 2 * length bs) → option_map_or framed o bad ≡ bad
      go None h = refl
      go (Some bs) h = n bs (h bs refl)

  pub too_short : length l < 6 → frame_of l ≡ bad
  too_short n = by_bytes (λ bs h. short bs (omega arith))

  pub too_long : 2 * (3 + most_presses) < length l → frame_of l ≡ bad
  too_long n = by_bytes (λ bs h. long bs (omega arith))

-- of a long line no more than `enough` bytes matter
pub long_line : (l : List ℕ) → frame_of (take enough l) ≡ frame_of l
long_line l =
    elim (dec_le (length l) enough) [
      | yes h ↦ ap frame_of (take_all enough l h)
      | no h ↦ rw (too_long (take enough l) (omega (arith, length-take enough l)), too_long l (omega arith))
    ]

-- the byte whose first digit stands at `at`, before other bytes
abbrev pub byte_at : List ℕ → ℕ → Option (List ℕ) → Option (List ℕ)
byte_at l at rest = of_both (λ b bs. b ∷ bs) (byte_of (get_or l at 0) (get_or l (at + 1) 0)) rest

-- one byte further in a line
pub next_byte : (l : List ℕ) (at : ℕ) → at + 1 < length l → bytes_of (drop at l) ≡ byte_at l at (bytes_of (drop (at + 2) l))
unfolding bytes_of
next_byte l at h =
    let two : at + 2 ≡ suc (suc at) = omega arith in
    rw (drop-cons l at 0 (omega arith), drop-cons l (suc at) 0 (omega arith), add-one at, two)

-- the frame of a line that has three bytes or more
first_three : (l : List ℕ) → 6 ≤ length l → frame_of l ≡ option_map_or framed (byte_at l 0 (byte_at l 2 (byte_at l 4 (bytes_of (drop 6 l))))) bad
unfolding frame_of
first_three l h = rw (next_byte l 0 (omega arith), next_byte l 2 (omega arith), next_byte l 4 (omega arith))

-- ---- the first three bytes of a line, each there or not, and what stands behind them

pub no_house_byte : (l : List ℕ) → 6 ≤ length l → byte_of (get_or l 0 0) (get_or l 1 0) ≡ None → frame_of l ≡ bad
no_house_byte l h e = first_three l h ∙ rw e

pub no_kind_byte : (l : List ℕ) {house : ℕ} → 6 ≤ length l → byte_of (get_or l 0 0) (get_or l 1 0) ≡ Some house → byte_of (get_or l 2 0) (get_or l 3 0) ≡ None
    → frame_of l ≡ bad
no_kind_byte l h e f = first_three l h ∙ rw (e, f)

pub no_value_byte : (l : List ℕ) {house kind : ℕ} → 6 ≤ length l → byte_of (get_or l 0 0) (get_or l 1 0) ≡ Some house → byte_of (get_or l 2 0) (get_or l 3 0) ≡ Some kind
    → byte_of (get_or l 4 0) (get_or l 5 0) ≡ None → frame_of l ≡ bad
no_value_byte l h e f g = first_three l h ∙ rw (e, f, g)

pub head_there : (l : List ℕ) (house kind value : ℕ) → 6 ≤ length l → byte_of (get_or l 0 0) (get_or l 1 0) ≡ Some house → byte_of (get_or l 2 0) (get_or l 3 0) ≡ Some kind
    → byte_of (get_or l 4 0) (get_or l 5 0) ≡ Some value → HeadOf (record { house = house; kind = kind; value = value }) l
head_there l house kind value h e f g = record { long = h; frame = first_three l h ∙ rw (e, f, g) (go (bytes_of (drop 6 l))) }
  where
    go : (o : Option (List ℕ)) → option_map_or framed (of_both (λ b bs. b ∷ bs) (Some house) (of_both (λ b bs. b ∷ bs) (Some kind) (of_both (λ b bs. b ∷ bs) (Some value) o))) bad
        ≡ option_map_or (λ (cs : List ℕ). framed (house ∷ kind ∷ value ∷ cs)) o bad
    go None = refl
    go (Some cs) = refl

pub ruleset heads = (too_short, no_house_byte, no_kind_byte, no_value_byte, head_there)

-- the frame of a line that begins with a head
module _ (l : List ℕ) (head : Head) (h : HeadOf head l) where
  -- of no house
  pub no_house : is_house head.house ≡ false → frame_of l ≡ bad
  unfolding framed
  no_house e = h.frame ∙ go (bytes_of (drop 6 l))
    where
      go : (o : Option (List ℕ)) → option_map_or (λ (cs : List ℕ). framed (head.house ∷ head.kind ∷ head.value ∷ cs)) o bad ≡ bad
      go None = refl
      go (Some cs) = rw e

  module _ (i : is_house head.house ≡ true) where
    -- a row of letters
    pub row_frame : head.kind ≡ letter_row_kind → frame_of l ≡ row_behind head.house head.value (drop 6 l)
    unfolding framed
    row_frame e = h.frame ∙ go (bytes_of (drop 6 l))
      where
        go : (o : Option (List ℕ)) → option_map_or (λ (cs : List ℕ). framed (head.house ∷ head.kind ∷ head.value ∷ cs)) o bad
            ≡ option_map_or (λ (cs : List ℕ). letter_row_frame head.house (head.value ∷ cs)) o bad
        go None = refl
        go (Some cs) = rw (i, e)

    -- three bytes, where the line has six digits
    pub three_frame : length l ≡ 6 → frame_of l ≡ kind_frame head.house head.kind (head.value ∷ [])
    unfolding framed bytes_of
    three_frame e = h.frame ∙ rw (drop_of_length-le l {i = 6} (omega arith), i)

  -- what makes any other frame than a row too long
  pub longer_frame : 6 < length l → eqb head.kind letter_row_kind ≡ false → frame_of l ≡ bad
  longer_frame n e = h.frame ∙ go (bytes_of (drop 6 l)) (λ cs f. two_each (drop 6 l) f)
    where
      go : (o : Option (List ℕ)) → ((cs : List ℕ) → o ≡ Some cs → length (drop 6 l) ≡ 2 * length cs)
          → option_map_or (λ (cs : List ℕ). framed (head.house ∷ head.kind ∷ head.value ∷ cs)) o bad ≡ bad
      go None k = refl
      go (Some []) k = absurd (omega (arith, k [] refl, length-drop 6 l))
      go (Some (c ∷ more)) k = three head.house head.kind head.value c more e

-- the digits behind the head of a line
pub behind_head : (l : List ℕ) → take (length l - head_digits) (drop head_digits l) ≡ drop head_digits l
behind_head l = take_all (length l - head_digits) (drop head_digits l) (omega (arith, length-drop head_digits l))
