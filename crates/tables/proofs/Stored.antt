-- Tables that are filled one after the other: what a store adds, and what is read back. Assumes nothing.
use mathlib.Core.Path.{◌≡◌, refl, sym, ap, ◌∙◌}
use mathlib.Core.List.{List, [], ◌∷◌, ◌++◌, map}
use Prim.Native.Nat.{ℕ, zero, suc, ◌+◌, ◌*◌, ◌-◌, ◌≤◌, ◌<◌}
use native.Mathlib.Omega.{arith}
use lib.IntN.{ℤ, pos}
use lib.ListN.{length, length-map, get_or-append, get_or, take, drop, replicate}
use lib.Seq.{sets, slice, take-append-le}
use Rattle.tuning.specs.declared.Tone.{Tone as SoundingTone}
use Rattle.tuning.specs.declared.ToneChange.{ToneChange}
use Rattle.tables.specs.declared.Numbers.{Numbers}
use Rattle.tables.specs.declared.Row.{Row}
use Rattle.tables.specs.declared.Row.TheVariants.{Unused}
use Rattle.tables.specs.Layout.{row_width, most_rows, numbers_of, row_of, written, written_all, number_at, read_at, sounding_of, pitch_of, tone_of, change_code, change_number, change_of, joined, joined_from, full}
use Rattle.tables.proofs.Lists.{full_next, joined_back}
use Rattle.tables.proofs.Rows.{row_back, tone_back, change_back}

-- ---- a table before anything is stored

pub full_none : {A : Type 0} (nought : A) (size : ℕ) → replicate size nought ≡ full nought size []
full_none nought size = let e : size - 0 ≡ size = omega arith in rw e

-- ---- one more row

pub written_length : (rs : List Row) → length (written_all rs) ≡ row_width * length rs
unfolding written_all
written_length [] = refl
written_length (r ∷ rs) = omega (arith, written_length rs)

pub written_next : (rs : List Row) (r : Row) → written_all (rs ++ r ∷ []) ≡ written_all rs ++ written (numbers_of r)
unfolding written_all
written_next [] r = refl
written_next (x ∷ rs) r = ap (λ (l : List ℤ). written (numbers_of x) ++ l) (written_next rs r)

pub rows_next : (rs : List Row) (r : Row) (n : ℕ) → length rs ≡ n → n < most_rows
    → sets (full (pos 0) (row_width * most_rows) (written_all rs)) (row_width * n) (written (numbers_of r)) ≡ full (pos 0) (row_width * most_rows) (written_all (rs ++ r ∷ []))
rows_next rs r n e h =
    full_next (pos 0) (row_width * most_rows) (written_all rs) (written (numbers_of r)) (row_width * n) (written_length rs ∙ ap (λ (k : ℕ). row_width * k) e) (omega arith)
    ∙ ap (full (pos 0) (row_width * most_rows)) (sym (written_next rs r))

-- ---- rows read back

shift : (n : Numbers) (l : List ℤ) (i k : ℕ) → number_at (written n ++ l) (suc i) k ≡ number_at l i k
shift n l i k =
    let e : row_width * suc i + k ≡ suc (suc (suc (suc (suc (row_width * i + k))))) = omega arith in
    ap (λ (j : ℕ). get_or (written n ++ l) j (pos 0)) e

-- the k-th number of each row is that of its own numbers
pub number_read : (rs : List Row) (rest : List ℤ) (i k : ℕ) → i < length rs → k < row_width → number_at (written_all rs ++ rest) i k ≡ get_or (written (numbers_of (get_or rs i Unused))) k (pos 0)
unfolding written_all
number_read [] rest i k h m = let e : ⊥ = omega arith in absurd e
number_read (r ∷ rs) rest zero k h m =
    let l = written (numbers_of r) in
    let e : row_width * 0 + k ≡ k = omega arith in
    rw e (get_or-append l (written_all rs ++ rest) (pos 0) k m)
number_read (r ∷ rs) rest (suc i) k h m = shift (numbers_of r) (written_all rs ++ rest) i k ∙ number_read rs rest i k (omega arith) m

pub numbers_read : (rs : List Row) (rest : List ℤ) (i : ℕ) → i < length rs → read_at (written_all rs ++ rest) i ≡ numbers_of (get_or rs i Unused)
numbers_read rs rest i h =
    rw (
      number_read rs rest i 0 h (omega arith),
      number_read rs rest i 1 h (omega arith),
      number_read rs rest i 2 h (omega arith),
      number_read rs rest i 3 h (omega arith),
      number_read rs rest i 4 h (omega arith),
    )

pub row_read : (size : ℕ) (rs : List Row) (i : ℕ) → i < length rs → row_of (read_at (full (pos 0) size (written_all rs)) i) ≡ get_or rs i Unused
row_read size rs i h = ap row_of (numbers_read rs (replicate (size - length (written_all rs)) (pos 0)) i h) ∙ row_back (get_or rs i Unused)

-- ---- tones and changes read back

pub tones_back : (l : List SoundingTone) → joined tone_of (map sounding_of l) (map pitch_of l) ≡ l
tones_back = joined_back tone_of sounding_of pitch_of tone_back

pub changes_back : (l : List ToneChange) → joined change_of (map change_code l) (map change_number l) ≡ l
changes_back = joined_back change_of change_code change_number change_back

module _ {A B : Type 0} (f : A → B) where
  take_map : (n : ℕ) (l : List A) → take n (map f l) ≡ map f (take n l)
  take_map zero l = refl
  take_map (suc n) [] = refl
  take_map (suc n) (x ∷ l) = ap (λ (k : List B). f x ∷ k) (take_map n l)

  drop_map : (n : ℕ) (l : List A) → drop n (map f l) ≡ map f (drop n l)
  drop_map zero l = refl
  drop_map (suc n) [] = refl
  drop_map (suc n) (x ∷ l) = drop_map n l

  pub part_read : (nought : B) (size from to : ℕ) (l : List A) → to ≤ length l → slice from to (full nought size (map f l)) ≡ map f (slice from to l)
  part_read nought size from to l h =
      rw (take-append-le to (map f l) (replicate (size - length (map f l)) nought) (rw (length-map l f) h), take_map to l) (drop_map from (take to l))

module _ (size from to : ℕ) where
  pub tones_read : (l : List SoundingTone) → to ≤ length l → joined_from tone_of (full 0 size (map sounding_of l)) (full (pos 0) size (map pitch_of l)) from to ≡ slice from to l
  tones_read l h = rw (part_read sounding_of 0 size from to l h, part_read pitch_of (pos 0) size from to l h) (tones_back (slice from to l))

  pub changes_read : (l : List ToneChange) → to ≤ length l → joined_from change_of (full 0 size (map change_code l)) (full (pos 0) size (map change_number l)) from to ≡ slice from to l
  changes_read l h = rw (part_read change_code 0 size from to l h, part_read change_number (pos 0) size from to l h) (changes_back (slice from to l))
