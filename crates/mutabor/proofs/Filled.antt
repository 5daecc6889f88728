-- The lists of all declarations of a program: what they hold, and where those of one declaration stand. Assumes nothing.
use mathlib.Core.Path.{◌≡◌, refl, ap, ◌∙◌}
use mathlib.Core.List.{List, [], ◌∷◌, map, flat_map}
use Rattle.std.specs.Prelude.{Option}
use Prim.Native.Nat.{ℕ, zero, suc, ◌+◌, ◌≤◌, ◌<◌}
use native.Mathlib.Nat.{zero-add}
use native.Mathlib.Omega.{arith}
use lib.IntN.{ℤ}
use lib.ListN.{length, length-append, get_or, take}
use lib.Seq.{slice, take_at}
use Rattle.values.specs.Values.{Term}
use Rattle.tuning.specs.declared.Tone.{Tone}
use Rattle.tuning.specs.declared.ToneChange.{ToneChange}
use Rattle.tables.specs.declared.Row.{Row}
use Rattle.tables.specs.declared.Row.TheVariants.{Unused}
use Rattle.program.specs.Program.{Declaration, ratio, root, sequence, frequency, from, system, anchor, width, fresh_period, onward_period, tones, pattern, logic, harmony, Placed, Program, Position, Trigger, Order}
use Rattle.program.specs.Meaning.{declaration_at, value_of}
use Rattle.filling.specs.Tables.{tone_of, tones_of, change_of, changes_of, orders_of, row_of, Filled, filled_from}
use Rattle.mutabor.proofs.Lists.{slice_behind}

-- ---- what declarations have, one after the other

module _ {A : Type 0} (f : Declaration → List A) where
  abbrev pub gathered : Program → List A
  gathered p = flat_map (λ (d : Placed). f d.is) p

  -- how many the declarations before declaration k have
  abbrev pub before : Program → ℕ → ℕ
  before p k = length (gathered (take k p))

  -- where those of declaration k end
  abbrev up_to : Program → ℕ → ℕ
  up_to p k = before p k + length (f (declaration_at p k))

  before_next : (d : Placed) (p : Program) (k : ℕ) → before (d ∷ p) (suc k) ≡ length (f d.is) + before p k
  unfolding flat_map
  before_next d p k = length-append (f d.is) (gathered (take k p))

  part_ends : (p : Program) (k : ℕ) → k < length p → up_to p k ≤ length (gathered p)
  unfolding flat_map
  part_ends [] k h = let e : ⊥ = omega arith in absurd e
  part_ends (d ∷ p) zero h = omega (arith, length-append (f d.is) (gathered p))
  part_ends (d ∷ p) (suc k) h =
      let a = part_ends p k (omega arith) in
      omega (arith, length-append (f d.is) (gathered p), before_next d p k)

  part_gathered : (p : Program) (k : ℕ) → k < length p → slice (before p k) (up_to p k) (gathered p) ≡ f (declaration_at p k)
  unfolding flat_map
  part_gathered [] k h = let e : ⊥ = omega arith in absurd e
  part_gathered (d ∷ p) zero h = take_at (f d.is) (gathered p) (0 + length (f d.is)) (omega arith)
  part_gathered (d ∷ p) (suc k) h =
      let e = before_next d p k in
      let n : up_to (d ∷ p) (suc k) ≡ length (f d.is) + up_to p k = omega arith in
      rw (n, e) (slice_behind (f d.is) (gathered p) (before p k) (up_to p k) ∙ part_gathered p k (omega arith))

  -- xs, n of them, are what declaration k has: they stand among all, after those of the declarations before
  pub part_stands : (p : Program) (k : ℕ) → k < length p → {all xs : List A} {n : ℕ} → all ≡ gathered p → f (declaration_at p k) ≡ xs → length xs ≡ n
      → (before p k + n ≤ length all) × (slice (before p k) (before p k + n) all ≡ xs)
  part_stands p k h e own count =
      let m = ap (λ (j : ℕ). before p k + j) (ap length own ∙ count) in
      (rw (e, ← m) (part_ends p k h), rw (e, ← m) (part_gathered p k h ∙ own))

-- ---- only a tone system has tones, only a tones retuning changes, only a logic orders

module _ (value : ℕ → ℤ) where
  pub only_systems : (P : List Tone → Type 0) (d : Declaration) → P []
      → ((a : ℕ) (l : List (Option ℕ)) (ts : List Term) → d ≡ system a l ts → P (map (tone_of value) l)) → P (tones_of value d)
  only_systems P (ratio a b) empty own = empty
  only_systems P (root a b) empty own = empty
  only_systems P (sequence ts) empty own = empty
  only_systems P (frequency f) empty own = empty
  only_systems P (from k ts) empty own = empty
  only_systems P (system a l ts) empty own = own a l ts refl
  only_systems P (anchor m) empty own = empty
  only_systems P (width m) empty own = empty
  only_systems P (fresh_period ts) empty own = empty
  only_systems P (onward_period ts) empty own = empty
  only_systems P (tones l) empty own = empty
  only_systems P (logic c s os) empty own = empty
  only_systems P pattern empty own = empty
  only_systems P (harmony ks) empty own = empty

  pub only_retunings : (P : List ToneChange → Type 0) (d : Declaration) → P []
      → ((l : List Position) → d ≡ tones l → P (map (change_of value) l)) → P (changes_of value d)
  only_retunings P (ratio a b) empty own = empty
  only_retunings P (root a b) empty own = empty
  only_retunings P (sequence ts) empty own = empty
  only_retunings P (frequency f) empty own = empty
  only_retunings P (from k ts) empty own = empty
  only_retunings P (system a l ts) empty own = empty
  only_retunings P (anchor m) empty own = empty
  only_retunings P (width m) empty own = empty
  only_retunings P (fresh_period ts) empty own = empty
  only_retunings P (onward_period ts) empty own = empty
  only_retunings P (tones l) empty own = own l refl
  only_retunings P (logic c s os) empty own = empty
  only_retunings P pattern empty own = empty
  only_retunings P (harmony ks) empty own = empty

pub only_logics : (P : List Order → Type 0) (d : Declaration) → P []
    → ((c : Trigger) (s : Option ℕ) (os : List Order) → d ≡ logic c s os → P os) → P (orders_of d)
only_logics P (ratio a b) empty own = empty
only_logics P (root a b) empty own = empty
only_logics P (sequence ts) empty own = empty
only_logics P (frequency f) empty own = empty
only_logics P (from k ts) empty own = empty
only_logics P (system a l ts) empty own = empty
only_logics P (anchor m) empty own = empty
only_logics P (width m) empty own = empty
only_logics P (fresh_period ts) empty own = empty
only_logics P (onward_period ts) empty own = empty
only_logics P (tones l) empty own = empty
only_logics P (logic c s os) empty own = own c s os refl
only_logics P pattern empty own = empty
only_logics P (harmony ks) empty own = empty

-- ---- what is filled

module _ (value : ℕ → ℤ) where
  pub record Fills (p : Program) (f : Filled) : Type 0 where
    pub rows : length f.rows ≡ length p
    pub tones : f.tones ≡ gathered (tones_of value) p
    pub changes : f.changes ≡ gathered (changes_of value) p
    pub orders : f.orders ≡ gathered orders_of p

  pub fills : (i t c o : ℕ) (p : Program) → Fills p (filled_from value i t c o p)
  unfolding filled_from flat_map
  fills i t c o [] = record { rows = refl; tones = refl; changes = refl; orders = refl }
  fills i t c o (d ∷ p) =
      let ts = tones_of value d.is in
      let cs = changes_of value d.is in
      let os = orders_of d.is in
      let a = fills (suc i) (t + length ts) (c + length cs) (o + length os) p in
      record { rows = ap suc a.rows; tones = rw a.tones; changes = rw a.changes; orders = rw a.orders }

  same_row : (d : Declaration) {i t c o i' t' c' o' : ℕ} → i ≡ i' → t ≡ t' → c ≡ c' → o ≡ o' → row_of value i t c o d ≡ row_of value i' t' c' o' d
  same_row d e f g h = rw (e, f, g, h)

  -- the row of a declaration among those from declaration i on, before which so many tones, changes and orders stand
  pub row_filled : (i t c o : ℕ) (p : Program) (k : ℕ) → k < length p
      → get_or (filled_from value i t c o p).rows k Unused
      ≡ row_of value (i + k) (t + before (tones_of value) p k) (c + before (changes_of value) p k) (o + before orders_of p k) (declaration_at p k)
  unfolding filled_from flat_map
  row_filled i t c o [] k h = let e : ⊥ = omega arith in absurd e
  row_filled i t c o (d ∷ p) zero h = same_row d.is (omega arith) (omega arith) (omega arith) (omega arith)
  row_filled i t c o (d ∷ p) (suc k) h =
      let ts = tones_of value d.is in
      let cs = changes_of value d.is in
      let os = orders_of d.is in
      let a = before_next (tones_of value) d p k in
      let b = before_next (changes_of value) d p k in
      let e = before_next orders_of d p k in
      row_filled (suc i) (t + length ts) (c + length cs) (o + length os) p k (omega arith)
      ∙ same_row (declaration_at p k) (omega arith) (omega arith) (omega arith) (omega arith)

-- ---- the whole program

abbrev pub filled : Program → Filled
filled p = filled_from (value_of p) 0 0 0 0 p

-- how many tones, changes and orders the declarations before declaration k have
abbrev pub tones_before : Program → ℕ → ℕ
tones_before p k = before (tones_of (value_of p)) p k

abbrev pub changes_before : Program → ℕ → ℕ
changes_before p k = before (changes_of (value_of p)) p k

abbrev pub orders_before : Program → ℕ → ℕ
orders_before p k = before orders_of p k

-- the row of declaration k
abbrev pub row_for : Program → ℕ → Row
row_for p k = row_of (value_of p) k (tones_before p k) (changes_before p k) (orders_before p k) (declaration_at p k)

module _ (p : Program) where
  pub filled_lists : Fills (value_of p) p (filled p)
  filled_lists = fills (value_of p) 0 0 0 0 p

  pub row_at_step : (k : ℕ) → k < length p → get_or (filled p).rows k Unused ≡ row_for p k
  row_at_step k h =
      let t = zero-add (tones_before p k) in
      let c = zero-add (changes_before p k) in
      let o = zero-add (orders_before p k) in
      row_filled (value_of p) 0 0 0 0 p k h ∙ same_row (value_of p) (declaration_at p k) (zero-add k) t c o
