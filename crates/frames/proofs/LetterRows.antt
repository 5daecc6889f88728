-- A line that begins as a row of letters does, by its house, its count and what stands behind it.
use Prim.Native.Nat.{ℕ, ◌+◌, ◌*◌}
use mathlib.Core.Path.{◌≡◌, refl, sym, ap, ◌∙◌}
use mathlib.Core.Bool.{Bool, true, false, cond, ◌&&◌}
use mathlib.Core.List.{List, [], ◌∷◌, cons-ne-nil}
use Rattle.std.specs.Prelude.{Option, None, Some}
use Rattle.std.proofs.lemmas.Option.{none-some, same_Some, cond_some}
use Rattle.std.specs.Option.{option_map_or}
use mathlib.Core.Logic.{◌⊎◌, inl, inr, ⊎_elim}
use native.Mathlib.Omega.{arith}
use borrow.Author.Tests.{eq-eqb, eqb-true}
use lib.Dec.{eqb}
use lib.ListN.{length, drop}
use lib.Seq.{drop-drop}
use Rattle.ascii.proofs.Between.{each}
use Rattle.hexadecimal.specs.Digits.{of_both, byte_of, bytes_of}
use Rattle.frames.specs.declared.Way.{Way}
use Rattle.frames.specs.declared.Way.TheVariants.{Down, Up}
use Rattle.frames.specs.declared.Decoded.TheVariants.{LetterRow}
use Rattle.frames.specs.Frames.{is_house, letter_kind, key_kind, dump_kind, dump_data, down_kind, up_kind, is_capital, is_key, letter_row_kind, is_count, are_capitals}
use Rattle.frames.specs.Frames.{Frame, bad, letter, key, dump, move, letter_row, letter_frame, key_frame, dump_frame, move_frame, letter_row_frame, kind_frame, framed, frame_of, inside, decoded_as}
use Rattle.frames.specs.Inner.{capitals_in, capitals_only, head_digits, row_behind}
use Rattle.frames.proofs.Lines.{two_each, no_row_holds}
use Rattle.frames.proofs.Ranges.{of_either, frame_inside, RowRanges, row_ranges}
use Rattle.frames.proofs.Decoding.{row_decoded}

-- digits that write letters alone
only_capitals : (digits : List ℕ) {cs : List ℕ} → capitals_only digits ≡ Some cs → (bytes_of digits ≡ Some cs) × (are_capitals cs ≡ true)
only_capitals digits {cs} e = go (bytes_of digits) e
  where
    go : (o : Option (List ℕ)) → capitals_in o ≡ Some cs → (o ≡ Some cs) × (are_capitals cs ≡ true)
    go None e = absurd (none-some cs e)
    go (Some bs) e =
        let k = cond_some (are_capitals bs) bs cs e in
        (ap Some k.1, ap are_capitals (sym k.1) ∙ k.0)

module _ (house count : ℕ) (digits : List ℕ) where
  -- bad, whatever bytes the digits write
  always_bad : ((cs : List ℕ) → bytes_of digits ≡ Some cs → letter_row_frame house (count ∷ cs) ≡ bad) → row_behind house count digits ≡ bad
  always_bad h = go (bytes_of digits) h
    where
      go : (o : Option (List ℕ)) → ((cs : List ℕ) → o ≡ Some cs → letter_row_frame house (count ∷ cs) ≡ bad)
          → option_map_or (λ (cs : List ℕ). letter_row_frame house (count ∷ cs)) o bad ≡ bad
      go None k = refl
      go (Some cs) k = k cs refl

  pub no_count : is_count count ≡ false → row_behind house count digits ≡ bad
  no_count e = always_bad (λ cs h. rw e)

  pub other_length : (length digits ≡ 2 * count → ⊥) → row_behind house count digits ≡ bad
  other_length n = always_bad (λ cs h. no_row_holds house count cs (λ e f. n (two_each digits h ∙ ap (λ (m : ℕ). 2 * m) f)))

  -- not letters alone
  pub row_bad : capitals_only digits ≡ None → row_behind house count digits ≡ bad
  row_bad e = always_bad (λ cs f. let k : capitals_in (Some cs) ≡ None = ap capitals_in (sym f) ∙ e in go cs (are_capitals cs) refl k)
    where
      no_row_bad : (cs : List ℕ) → are_capitals cs ≡ false → letter_row_frame house (count ∷ cs) ≡ bad
      no_row_bad cs l = by (is_count count) (eqb (length cs) count)
        where
          by : (y z : Bool) → cond (y && z && are_capitals cs) (letter_row house cs) bad ≡ bad
          by true true = rw l
          by true false = refl
          by false z = refl

      go : (cs : List ℕ) (t : Bool) → are_capitals cs ≡ t → cond t (Some cs) None ≡ None → letter_row_frame house (count ∷ cs) ≡ bad
      go cs true l k = absurd (none-some cs (sym k))
      go cs false l k = no_row_bad cs l

  -- so many letters
  pub row_good : (cs : List ℕ) → is_count count ≡ true → length digits ≡ 2 * count → capitals_only digits ≡ Some cs → row_behind house count digits ≡ letter_row house cs
  row_good cs n k e =
      let l = only_capitals digits e in
      let m : length cs ≡ count = omega (arith, two_each digits l.0) in
      rw (l.0, n, eq-eqb (length cs) count m, l.1)

-- the variants of a frame that is no row
abbrev pub no_row : List ℕ
no_row = 0 ∷ 1 ∷ 2 ∷ 3 ∷ 4 ∷ []

-- ---- a line that is a row: its bytes

-- the bytes of a row; none of any other frame
abbrev row_bytes : Frame → List ℕ
row_bytes bad = []
row_bytes (letter house c) = []
row_bytes (key house k) = []
row_bytes (dump house) = []
row_bytes (move way house k) = []
row_bytes (letter_row house cs) = house ∷ letter_row_kind ∷ length cs ∷ cs

-- so what is read as a row has these
abbrev Read : List ℕ → Frame → Type 0
Read bs f = (row_bytes f ≡ []) ⊎ (row_bytes f ≡ bs)

module _ (bs : List ℕ) where
  otherwise : (t : Bool) (f : Frame) → row_bytes f ≡ [] → Read bs (cond t f bad)
  otherwise t f e = of_either (Read bs) t f bad (λ h. inl e) (inl refl)

  letter_other : (house : ℕ) (rest : List ℕ) → Read bs (letter_frame house rest)
  letter_other house [] = inl refl
  letter_other house (b ∷ []) = otherwise (is_capital b) (letter house b) refl
  letter_other house (b ∷ c ∷ more) = inl refl

  key_other : (house : ℕ) (rest : List ℕ) → Read bs (key_frame house rest)
  key_other house [] = inl refl
  key_other house (b ∷ []) = otherwise (is_key b) (key house b) refl
  key_other house (b ∷ c ∷ more) = inl refl

  dump_other : (house : ℕ) (rest : List ℕ) → Read bs (dump_frame house rest)
  dump_other house [] = inl refl
  dump_other house (b ∷ []) = otherwise (eqb b dump_data) (dump house) refl
  dump_other house (b ∷ c ∷ more) = inl refl

  move_other : (way : Way) (house : ℕ) (rest : List ℕ) → Read bs (move_frame way house rest)
  move_other way house [] = inl refl
  move_other way house (b ∷ []) = otherwise (is_key b) (move way house b) refl
  move_other way house (b ∷ c ∷ more) = inl refl

row_read : (house kind : ℕ) (rest : List ℕ) → kind ≡ letter_row_kind → Read (house ∷ kind ∷ rest) (letter_row_frame house rest)
row_read house kind [] k = inl refl
row_read house kind (count ∷ cs) k =
    of_either (Read (house ∷ kind ∷ count ∷ cs)) (is_count count && eqb (length cs) count && are_capitals cs) (letter_row house cs) bad
    (λ e. let n = (each (is_count count) (eqb (length cs) count) (each (is_count count && eqb (length cs) count) (are_capitals cs) e).0).1 in inr (rw (k, eqb-true (length cs) count n)))
    (inl refl)

row_bytes_holds : (bs : List ℕ) → Read bs (framed bs)
unfolding framed
row_bytes_holds [] = inl refl
row_bytes_holds (house ∷ []) = inl refl
row_bytes_holds (house ∷ kind ∷ rest) =
    let bs = house ∷ kind ∷ rest in
    of_either (Read bs) (is_house house) (kind_frame house kind rest) bad
    (λ h.
    of_either (Read bs) (eqb kind letter_kind) (letter_frame house rest) _ (λ e. letter_other bs house rest)
    (of_either (Read bs) (eqb kind key_kind) (key_frame house rest) _ (λ e. key_other bs house rest)
    (of_either (Read bs) (eqb kind dump_kind) (dump_frame house rest) _ (λ e. dump_other bs house rest)
    (of_either (Read bs) (eqb kind down_kind) (move_frame Down house rest) _ (λ e. move_other bs Down house rest)
    (of_either (Read bs) (eqb kind up_kind) (move_frame Up house rest) _ (λ e. move_other bs Up house rest)
    (of_either (Read bs) (eqb kind letter_row_kind) (letter_row_frame house rest) bad (λ e. row_read house kind rest (eqb-true kind letter_row_kind e)) (inl refl)))))))
    (inl refl)

pub row_line : (l : List ℕ) {house : ℕ} {cs : List ℕ} → frame_of l ≡ letter_row house cs → bytes_of l ≡ Some (house ∷ letter_row_kind ∷ length cs ∷ cs)
unfolding frame_of
row_line l {house} {cs} e = go (bytes_of l) e
  where
    go : (o : Option (List ℕ)) → option_map_or framed o bad ≡ letter_row house cs → o ≡ Some (house ∷ letter_row_kind ∷ length cs ∷ cs)
    go None e = absurd (cons-ne-nil _ _ (sym (ap row_bytes e)))
    go (Some bs) e = ⊎_elim (λ z. absurd (cons-ne-nil _ _ (sym (ap row_bytes e) ∙ z))) (λ z. ap Some (sym z ∙ ap row_bytes e)) (row_bytes_holds bs)

-- without its first byte
rest_bytes : (l : List ℕ) {b : ℕ} {bs : List ℕ} → bytes_of l ≡ Some (b ∷ bs) → bytes_of (drop 2 l) ≡ Some bs
unfolding bytes_of
rest_bytes [] {b} {bs} e = absurd (cons-ne-nil b bs (sym (same_Some _ _ e)))
rest_bytes (a ∷ []) e = absurd (none-some _ e)
rest_bytes (a ∷ c ∷ l) {b} {bs} e = go (byte_of a c) (bytes_of l) e
  where
    go : (o : Option ℕ) (p : Option (List ℕ)) → of_both (λ x xs. x ∷ xs) o p ≡ Some (b ∷ bs) → p ≡ Some bs
    go None p e = absurd (none-some _ e)
    go (Some x) None e = absurd (none-some _ e)
    go (Some x) (Some xs) e = ap Some (ap (drop 1) (same_Some _ _ e))

pub row_behind_holds : (l : List ℕ) {house : ℕ} {cs : List ℕ} → frame_of l ≡ letter_row house cs → bytes_of (drop head_digits l) ≡ Some cs
row_behind_holds l e =
    let three = row_line l e in
    let two = rest_bytes l three in
    let one = rest_bytes (drop 2 l) two in
    ap bytes_of (sym (drop-drop 2 4 l) ∙ ap (drop 2) (sym (drop-drop 2 2 l))) ∙ rest_bytes (drop 2 (drop 2 l)) one

-- so many digits, of so many letters
pub record RowThere (l : List ℕ) (house count : ℕ) : Type 0 where
  pub letters : List ℕ
  pub same : frame_of l ≡ letter_row house letters
  pub behind : capitals_only (drop head_digits l) ≡ Some letters
  pub size : length letters ≡ count
  pub digits : length l ≡ head_digits + 2 * count
  pub ranges : RowRanges house letters

pub row_there : (l : List ℕ) {house count : ℕ} → LetterRow house count ≡ decoded_as (frame_of l) → RowThere l house count
row_there l {house} {count} e =
    let d = row_decoded (frame_of l) (sym e) in
    let ranges = row_ranges house d.letters (ap inside (sym d.same) ∙ frame_inside l) in
    record {
      letters = d.letters;
      same = d.same;
      behind = rw (row_behind_holds l d.same, ranges.capitals);
      size = d.size;
      digits = omega (arith, two_each l (row_line l d.same), d.size);
      ranges = ranges;
    }
