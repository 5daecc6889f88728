-- The parts of a frame lie in their ranges.
use Prim.Native.Nat.{ℕ, ◌≤◌}
use mathlib.Core.Path.{◌≡◌, refl}
use mathlib.Core.Bool.{Bool, true, false, cond, ◌&&◌}
use mathlib.Core.List.{List, [], ◌∷◌}
use Rattle.std.specs.Prelude.{Option, None, Some}
use Rattle.std.specs.Option.{option_map_or}
use borrow.Author.Tests.{leb-true, eqb-true}
use lib.Dec.{eqb}
use lib.ListN.{length}
use Rattle.hexadecimal.specs.Digits.{bytes_of}
use Rattle.frames.specs.declared.Way.{Way}
use Rattle.frames.specs.declared.Way.TheVariants.{Down, Up}
use Rattle.frames.specs.Frames.{first_house, second_house, is_house, letter_kind, key_kind, dump_kind, first_letter, last_letter, is_capital, last_key, is_key, dump_data, down_kind, up_kind, letter_row_kind, fewest_presses, most_presses, is_count, are_capitals, Frame, bad, letter, key, dump, move, letter_row, letter_frame, key_frame, dump_frame, move_frame, letter_row_frame, kind_frame, framed, frame_of, inside}
use Rattle.ascii.proofs.Between.{each, in_range_holds}

-- ---- for callers: what `inside` says of a frame that has come

pub letter_ranges : (house c : ℕ) → inside (letter house c) ≡ true
    → (first_house ≤ house) × (house ≤ second_house) × (first_letter ≤ c) × (c ≤ last_letter)
letter_ranges house c e =
    let k = each (is_house house) (is_capital c) e in
    let h = in_range_holds first_house second_house house k.0 in
    let l = in_range_holds first_letter last_letter c k.1 in
    (h.0, h.1, l.0, l.1)

pub key_ranges : (house b : ℕ) → inside (key house b) ≡ true → (first_house ≤ house) × (house ≤ second_house) × (b ≤ last_key)
key_ranges house b e =
    let k = each (is_house house) (is_key b) e in
    let h = in_range_holds first_house second_house house k.0 in
    (h.0, h.1, leb-true b last_key k.1)

pub move_ranges : (way : Way) (house b : ℕ) → inside (move way house b) ≡ true → (first_house ≤ house) × (house ≤ second_house) × (b ≤ last_key)
move_ranges way house b e =
    let k = each (is_house house) (is_key b) e in
    let h = in_range_holds first_house second_house house k.0 in
    (h.0, h.1, leb-true b last_key k.1)

pub dump_ranges : (house : ℕ) → inside (dump house) ≡ true → (first_house ≤ house) × (house ≤ second_house)
dump_ranges house e = in_range_holds first_house second_house house e

-- of a row: its house, how many letters it has, and these
pub record RowRanges (house : ℕ) (letters : List ℕ) : Type 0 where
  pub first : first_house ≤ house
  pub second : house ≤ second_house
  pub fewest : fewest_presses ≤ length letters
  pub most : length letters ≤ most_presses
  pub capitals : are_capitals letters ≡ true

pub row_ranges : (house : ℕ) (letters : List ℕ) → inside (letter_row house letters) ≡ true → RowRanges house letters
row_ranges house letters e =
    let a = each (is_house house && is_count (length letters)) (are_capitals letters) e in
    let b = each (is_house house) (is_count (length letters)) a.0 in
    let h = in_range_holds first_house second_house house b.0 in
    let n = in_range_holds fewest_presses most_presses (length letters) b.1 in
    record { first = h.0; second = h.1; fewest = n.0; most = n.1; capitals = a.1 }

-- ---- every line's frame is inside

-- what holds of a frame either way
pub of_either : (P : Frame → Type 0) (t : Bool) (f g : Frame) → (t ≡ true → P f) → P g → P (cond t f g)
of_either P true f g h k = h refl
of_either P false f g h k = k

abbrev Inside : Frame → Type 0
Inside f = inside f ≡ true

inside_if : (t : Bool) (f : Frame) → (t ≡ true → inside f ≡ true) → inside (cond t f bad) ≡ true
inside_if t f h = of_either Inside t f bad h refl

module _ (house : ℕ) (h : is_house house ≡ true) where
  letter_inside : (rest : List ℕ) → inside (letter_frame house rest) ≡ true
  letter_inside [] = refl
  letter_inside (b ∷ []) = inside_if (is_capital b) (letter house b) (λ e. rw (h, e))
  letter_inside (b ∷ c ∷ more) = refl

  key_inside : (rest : List ℕ) → inside (key_frame house rest) ≡ true
  key_inside [] = refl
  key_inside (b ∷ []) = inside_if (is_key b) (key house b) (λ e. rw (h, e))
  key_inside (b ∷ c ∷ more) = refl

  dump_inside : (rest : List ℕ) → inside (dump_frame house rest) ≡ true
  dump_inside [] = refl
  dump_inside (b ∷ []) = inside_if (eqb b dump_data) (dump house) (λ e. h)
  dump_inside (b ∷ c ∷ more) = refl

  move_inside : (way : Way) (rest : List ℕ) → inside (move_frame way house rest) ≡ true
  move_inside way [] = refl
  move_inside way (b ∷ []) = inside_if (is_key b) (move way house b) (λ e. rw (h, e))
  move_inside way (b ∷ c ∷ more) = refl

  row_inside : (rest : List ℕ) → inside (letter_row_frame house rest) ≡ true
  row_inside [] = refl
  row_inside (count ∷ letters) =
      inside_if (is_count count && eqb (length letters) count && are_capitals letters) (letter_row house letters)
      (λ e.
      let a = each (is_count count && eqb (length letters) count) (are_capitals letters) e in
      let b = each (is_count count) (eqb (length letters) count) a.0 in
      rw (h, eqb-true (length letters) count b.1, b.0, a.1))

  kind_inside : (kind : ℕ) (rest : List ℕ) → inside (kind_frame house kind rest) ≡ true
  kind_inside kind rest =
      of_either Inside (eqb kind letter_kind) (letter_frame house rest) _ (λ e. letter_inside rest)
      (of_either Inside (eqb kind key_kind) (key_frame house rest) _ (λ e. key_inside rest)
      (of_either Inside (eqb kind dump_kind) (dump_frame house rest) _ (λ e. dump_inside rest)
      (of_either Inside (eqb kind down_kind) (move_frame Down house rest) _ (λ e. move_inside Down rest)
      (of_either Inside (eqb kind up_kind) (move_frame Up house rest) _ (λ e. move_inside Up rest)
      (inside_if (eqb kind letter_row_kind) (letter_row_frame house rest) (λ e. row_inside rest))))))

framed_inside : (bs : List ℕ) → inside (framed bs) ≡ true
unfolding framed
framed_inside [] = refl
framed_inside (house ∷ []) = refl
framed_inside (house ∷ kind ∷ rest) = inside_if (is_house house) (kind_frame house kind rest) (λ h. kind_inside house h kind rest)

pub frame_inside : (l : List ℕ) → inside (frame_of l) ≡ true
unfolding frame_of
frame_inside l = go (bytes_of l)
  where
    go : (o : Option (List ℕ)) → inside (option_map_or framed o bad) ≡ true
    go None = refl
    go (Some bs) = framed_inside bs
