-- The declarations of a program that keeps document 01's limits can be written, with the values of the program. Assumes nothing.
use mathlib.Core.Path.{◌≡◌, refl}
use mathlib.Core.List.{List, [], ◌∷◌, map}
use Rattle.std.specs.Prelude.{Option, Some, None}
use Prim.Native.Nat.{ℕ, suc, ◌+◌, ◌≤◌, ◌<◌, ◌^◌}
use native.Mathlib.Omega.{arith}
use lib.IntN.{ℤ}
use lib.ListN.{length}
use Rattle.tuning.specs.declared.Operator.TheVariants.{Plus, Minus, Times, Divide}
use Rattle.tuning.specs.declared.Amount.{Amount}
use Rattle.tuning.specs.declared.Amount.TheVariants.{Kept, Absolute, Relative}
use Rattle.values.specs.Values.{Term}
use Rattle.values.specs.Rows.{rows}
use Rattle.tables.specs.Layout.{amount_number}
use Rattle.program.specs.Program.{Declaration, ratio, root, sequence, frequency, from, system, anchor, width, fresh_period, onward_period, tones, pattern, logic, harmony, Placed, Program, Position, mute, kept, named, Trigger, by_letter, by_harmony, Order}
use Rattle.program.specs.Allowed as allowed
use Rattle.program.specs.Allowed.{Each, Terms, AnchorAmount, WidthAmount, FitStart, FitTrigger, Fits}
use Rattle.filling.specs.Tables.{sum_of, tone_of, tones_of, change_of, changes_of, orders_of, trigger_code, row_of, filled_from}
use Rattle.filling.specs.Inner.{Valued, called_by, FitValue, FitTerm, Summable, FitSystemPosition, FitPosition, FitOrder, FitParts}
use Rattle.filling.proofs.Each.{each_map}

-- ---- what is required of a declaration

anchor_fit : (m : Amount) → AnchorAmount m → amount_number m < 2 ^ 16
anchor_fit Kept h = omega arith
anchor_fit (Absolute n) h = omega arith
anchor_fit (Relative Plus n) h = omega arith
anchor_fit (Relative Minus n) h = omega arith
anchor_fit (Relative Times n) h = absurd h
anchor_fit (Relative Divide n) h = absurd h

width_fit : (m : Amount) → WidthAmount m → amount_number m < 2 ^ 16
width_fit Kept h = omega arith
width_fit (Absolute n) h = omega arith
width_fit (Relative Plus n) h = omega arith
width_fit (Relative Minus n) h = omega arith
width_fit (Relative Times n) h = omega arith
width_fit (Relative Divide n) h = omega arith

module _ {p : Program} {values : List ℤ} (v : Valued p values) (few : length p ≤ rows) where
  pub value_fit : {k : ℕ} → k < length p → FitValue values k
  value_fit {k} h = record { within = omega (arith, v.size); small = v.small k h }

  term_fit : (t : Term) → allowed.FitTerm p t → FitTerm values t
  term_fit t h = record { factor = h.factor; of = value_fit h.of.within }

  terms_fit : {ts : List Term} → Terms p ts → Summable values ts
  terms_fit {ts} h = record { few = h.few; each = each_map term_fit ts h.each }

  place_fit : (x : Option ℕ) → allowed.FitSystemPosition p x → FitSystemPosition values x
  place_fit None h = tt
  place_fit (Some k) h = value_fit h.within

  position_fit : (x : Position) → allowed.FitPosition p x → FitPosition values x
  position_fit mute h = tt
  position_fit (kept ts) h = terms_fit h
  position_fit (named k ts) h = (value_fit h.0.within, terms_fit h.1)

  start_fit : (s : Option ℕ) → FitStart p s → called_by s < 2 ^ 31
  start_fit None h = omega arith
  start_fit (Some k) h = omega (arith, h.refers.within)

  trigger_fit : (x : Trigger) → FitTrigger p x → trigger_code x < 2 ^ 16
  trigger_fit (by_letter c) h = omega (arith, h.most)
  trigger_fit (by_harmony k) h = omega (arith, h.within)

  order_fit : (o : Order) → allowed.FitOrder p o → FitOrder o
  order_fit o h = record { trigger = trigger_fit o.trigger h.trigger; calls = omega (arith, h.calls.refers.within) }

  pub fit_parts : (d : Declaration) → Fits p d → FitParts values d
  fit_parts (ratio a b) h = tt
  fit_parts (root a b) h = tt
  fit_parts (sequence ts) h = tt
  fit_parts (frequency f) h = tt
  fit_parts (from k ts) h = tt
  fit_parts (system a l ts) h = (omega (arith, h.anchor), each_map place_fit l h.each)
  fit_parts (anchor m) h = anchor_fit m h
  fit_parts (width m) h = width_fit m h
  fit_parts (fresh_period ts) h = terms_fit h
  fit_parts (onward_period ts) h = terms_fit h
  fit_parts (tones l) h = each_map position_fit l h.each
  fit_parts pattern h = tt
  fit_parts (logic x s os) h = record { trigger = trigger_fit x h.trigger; start = start_fit s h.start; orders = each_map order_fit os h.orders }
  fit_parts (harmony ks) h = h.each

-- ---- two values that are the same for the declarations of the program

module _ (p : Program) (v w : ℕ → ℤ) (agree : (k : ℕ) → k < length p → v k ≡ w k) where
  sum_same : (ts : List Term) → Each (allowed.FitTerm p) ts → sum_of v ts ≡ sum_of w ts
  sum_same [] h = refl
  sum_same (t ∷ ts) h = rw (agree t.of h.0.of.within, sum_same ts h.1)

  tone_same : (l : List (Option ℕ)) → Each (allowed.FitSystemPosition p) l → map (tone_of v) l ≡ map (tone_of w) l
  tone_same [] h = refl
  tone_same (None ∷ l) h = rw (tone_same l h.1)
  tone_same (Some k ∷ l) h = rw (agree k h.0.within, tone_same l h.1)

  change_same : (x : Position) → allowed.FitPosition p x → change_of v x ≡ change_of w x
  change_same mute h = refl
  change_same (kept ts) h = rw (sum_same ts h.each)
  change_same (named k ts) h = rw (agree k h.0.within, sum_same ts h.1.each)

  all_same : (l : List Position) → Each (allowed.FitPosition p) l → map (change_of v) l ≡ map (change_of w) l
  all_same [] h = refl
  all_same (x ∷ l) h = rw (change_same x h.0, all_same l h.1)

  tones_same : (d : Declaration) → Fits p d → tones_of v d ≡ tones_of w d
  tones_same (ratio a b) h = refl
  tones_same (root a b) h = refl
  tones_same (sequence ts) h = refl
  tones_same (frequency f) h = refl
  tones_same (from k ts) h = refl
  tones_same (system a l ts) h = tone_same l h.each
  tones_same (anchor m) h = refl
  tones_same (width m) h = refl
  tones_same (fresh_period ts) h = refl
  tones_same (onward_period ts) h = refl
  tones_same (tones l) h = refl
  tones_same (logic c s os) h = refl
  tones_same pattern h = refl
  tones_same (harmony ks) h = refl

  changes_same : (d : Declaration) → Fits p d → changes_of v d ≡ changes_of w d
  changes_same (ratio a b) h = refl
  changes_same (root a b) h = refl
  changes_same (sequence ts) h = refl
  changes_same (frequency f) h = refl
  changes_same (from k ts) h = refl
  changes_same (system a l ts) h = refl
  changes_same (anchor m) h = refl
  changes_same (width m) h = refl
  changes_same (fresh_period ts) h = refl
  changes_same (onward_period ts) h = refl
  changes_same (tones l) h = all_same l h.each
  changes_same (logic c s os) h = refl
  changes_same pattern h = refl
  changes_same (harmony ks) h = refl

  row_same : (i t c o : ℕ) (d : Declaration) → i < length p → Fits p d → row_of v i t c o d ≡ row_of w i t c o d
  row_same i t c o (ratio a b) k h = rw (agree i k)
  row_same i t c o (root a b) k h = rw (agree i k)
  row_same i t c o (sequence ts) k h = rw (agree i k)
  row_same i t c o (frequency f) k h = rw (agree i k)
  row_same i t c o (from m ts) k h = rw (agree i k)
  row_same i t c o (system a l ts) k h = rw (agree i k)
  row_same i t c o (anchor m) k h = refl
  row_same i t c o (width m) k h = refl
  row_same i t c o (fresh_period ts) k h = rw (sum_same ts h.each)
  row_same i t c o (onward_period ts) k h = rw (sum_same ts h.each)
  row_same i t c o (tones l) k h = refl
  row_same i t c o pattern k h = refl
  row_same i t c o (logic x s os) k h = refl
  row_same i t c o (harmony ks) k h = refl

  pub filled_same : (i t c o : ℕ) (ds : Program) → i + length ds ≤ length p → Each (λ (d : Placed). Fits p d.is) ds → filled_from v i t c o ds ≡ filled_from w i t c o ds
  unfolding filled_from
  filled_same i t c o [] k h = refl
  filled_same i t c o (d ∷ ds) k h =
      rw (
        tones_same d.is h.0,
        changes_same d.is h.0,
        row_same i t c o d.is (omega arith) h.0,
        filled_same (suc i) (t + length (tones_of w d.is)) (c + length (changes_of w d.is)) (o + length (orders_of d.is)) ds (omega arith) h.1,
      )
