-- The letters of a row, read from their digits one after the other.
use Prim.Native.Nat.{ℕ, ◌+◌, ◌*◌, ◌<◌}
use mathlib.Core.Path.{◌≡◌, refl, sym, ap, ◌∙◌}
use mathlib.Core.Bool.{Bool, true, false, ◌&&◌}
use mathlib.Core.List.{List, [], ◌∷◌, ◌++◌, append-nil}
use Rattle.std.specs.Prelude.{Option, None, Some, option_map}
use native.Mathlib.Numerals.{add-one}
use native.Mathlib.Omega.{arith}
use lib.ListN.{length, take, drop, get_or, set, length-set, drop_of_length-le}
use lib.Seq.{take-suc-set, append_snoc}
use Rattle.hexadecimal.specs.Digits.{of_both, byte_of, bytes_of}
use Rattle.frames.specs.Frames.{is_capital, are_capitals, most_presses}
use Rattle.frames.specs.Inner.{capitals_in, capitals_only}
use Rattle.frames.proofs.Lines.{next_byte}

capitals_append : (xs ys : List ℕ) → are_capitals (xs ++ ys) ≡ (are_capitals xs && are_capitals ys)
unfolding are_capitals
capitals_append [] ys = refl
capitals_append (x ∷ xs) ys = go (is_capital x) (capitals_append xs ys)
  where
    go : (b : Bool) → are_capitals (xs ++ ys) ≡ (are_capitals xs && are_capitals ys) → (b && are_capitals (xs ++ ys)) ≡ (b && are_capitals xs && are_capitals ys)
    go true e = e
    go false e = refl

-- bytes before those that digits write, where they write any
abbrev before : List ℕ → Option (List ℕ) → Option (List ℕ)
before xs o = option_map (λ (ys : List ℕ). xs ++ ys) o

module _ (digits : List ℕ) where
  -- with what stands behind them those that are read are what the digits write, and each is a letter
  pub record Reading (codes : List ℕ) (i : ℕ) : Type 0 where
    pub size : length codes ≡ most_presses
    pub bytes : bytes_of digits ≡ before (take i codes) (bytes_of (drop (2 * i) digits))
    pub capitals : are_capitals (take i codes) ≡ true

  pub reading_starts : (codes : List ℕ) → length codes ≡ most_presses → Reading codes 0
  unfolding are_capitals
  reading_starts codes h = record { size = h; bytes = go (bytes_of digits); capitals = refl }
    where
      go : (o : Option (List ℕ)) → o ≡ before [] o
      go None = refl
      go (Some ys) = refl

  module _ {codes : List ℕ} {i : ℕ} (r : Reading codes i) where
    -- the next byte
    next : {o : Option ℕ} → 2 * i + 1 < length digits → byte_of (get_or digits (2 * i) 0) (get_or digits (2 * i + 1) 0) ≡ o
        → bytes_of digits ≡ before (take i codes) (of_both (λ b bs. b ∷ bs) o (bytes_of (drop (2 * i + 2) digits)))
    next h e = r.bytes ∙ ap (before (take i codes)) (next_byte digits (2 * i) h ∙ ap (λ (x : Option ℕ). of_both (λ b bs. b ∷ bs) x (bytes_of (drop (2 * i + 2) digits))) e)

    -- a letter
    pub reading_on : {c : ℕ} → i < most_presses → 2 * i + 1 < length digits → byte_of (get_or digits (2 * i) 0) (get_or digits (2 * i + 1) 0) ≡ Some c → is_capital c ≡ true
        → Reading (set codes i c) (i + 1)
    unfolding are_capitals
    reading_on {c} h k e l =
        let more : take (i + 1) (set codes i c) ≡ take i codes ++ c ∷ [] = rw (add-one i) (take-suc-set codes i c (omega (arith, r.size))) in
        let two : 2 * (i + 1) ≡ 2 * i + 2 = omega arith in
        record {
          size = length-set codes i c ∙ r.size;
          bytes = next k e ∙ rw (more, two) (go (bytes_of (drop (2 * i + 2) digits)));
          capitals = rw more (capitals_append (take i codes) (c ∷ []) ∙ rw (r.capitals, l));
        }
      where
        go : (o : Option (List ℕ)) → before (take i codes) (of_both (λ b bs. b ∷ bs) (Some c) o) ≡ before (take i codes ++ c ∷ []) o
        go None = refl
        go (Some ys) = ap Some (sym (append_snoc (take i codes) c ys))

    -- no byte, or no letter
    pub no_byte : 2 * i + 1 < length digits → byte_of (get_or digits (2 * i) 0) (get_or digits (2 * i + 1) 0) ≡ None → capitals_only digits ≡ None
    no_byte k e = rw (next k e)

    pub no_letter_holds : {c : ℕ} → 2 * i + 1 < length digits → byte_of (get_or digits (2 * i) 0) (get_or digits (2 * i + 1) 0) ≡ Some c → is_capital c ≡ false
        → capitals_only digits ≡ None
    unfolding are_capitals
    no_letter_holds {c} k e l = rw (next k e) (go (bytes_of (drop (2 * i + 2) digits)))
      where
        go : (o : Option (List ℕ)) → capitals_in (before (take i codes) (of_both (λ b bs. b ∷ bs) (Some c) o)) ≡ None
        go None = refl
        go (Some ys) = rw (capitals_append (take i codes) (c ∷ ys), r.capitals, l)

    -- all of them
    pub all_read : length digits ≡ 2 * i → capitals_only digits ≡ Some (take i codes)
    unfolding bytes_of
    all_read h =
        let all : bytes_of digits ≡ Some (take i codes) = r.bytes ∙ rw (drop_of_length-le digits {i = 2 * i} (omega arith)) (ap Some (append-nil (take i codes))) in
        rw (all, r.capitals)

pub ruleset readings = (reading_starts, reading_on, no_byte, no_letter_holds, all_read)
