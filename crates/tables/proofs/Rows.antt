-- A row and its numbers: each gives the other back, and which numbers a row can have. Assumes nothing.
use mathlib.Core.Path.{◌≡◌, refl, sym, ap}
use mathlib.Core.List.{List}
use Prim.Native.Nat.{ℕ, ◌+◌, ◌*◌, ◌/◌, ◌%◌, ◌≤◌, ◌<◌}
use native.Mathlib.Omega.{arith}
use lib.IntN.{ℤ, pos}
use lib.ListN.{length, get_or-eq_default}
use mir.Syntax.{w32}
use mir.Val.{SFits}
use Rattle.tuning.specs.declared.Operator.TheVariants.{Plus, Minus, Times, Divide}
use Rattle.tuning.specs.declared.Amount.{Amount}
use Rattle.tuning.specs.declared.Amount.TheVariants.{Kept, Absolute, Relative}
use Rattle.tuning.specs.declared.PeriodChange.{PeriodChange}
use Rattle.tuning.specs.declared.PeriodChange.TheVariants.{Fresh, Onward}
use Rattle.tuning.specs.declared.ToneChange.{ToneChange}
use Rattle.tuning.specs.declared.ToneChange.TheVariants.{Mute, Move, Set}
use Rattle.tuning.specs.declared.Tone.{Tone as SoundingTone}
use Rattle.tuning.specs.declared.Tone.TheVariants.{Muted, At}
use Rattle.tuning.specs.declared.Retuning.TheVariants.{Anchor, Width, Period, Tones}
use Rattle.tables.specs.declared.Numbers.{Numbers}
use Rattle.tables.specs.declared.Row.{Row}
use Rattle.tables.specs.declared.Row.TheVariants.{Unused, Interval, Tone, System, Retuning, Logic, Harmony, Pattern}
use Rattle.tables.specs.Layout.{row_width, numbers, unused_form, amount_code, amount_number, amount_of, period_code, period_sum, period_of, numbers_of, row_of, read_at, sounding_of, pitch_of, tone_of, change_code, change_number, change_of, divide_code, onward_code, pattern_form, half_set, all_sets}
use Rattle.tables.specs.Values.{NumbersFit}

-- ---- decoding gives back what was encoded

amount_back : (m : Amount) → amount_of (amount_code m) (amount_number m) ≡ m
amount_back Kept = refl
amount_back (Absolute n) = refl
amount_back (Relative Plus n) = refl
amount_back (Relative Minus n) = refl
amount_back (Relative Times n) = refl
amount_back (Relative Divide n) = refl

period_back : (m : PeriodChange) → period_of (period_code m) (period_sum m) ≡ m
period_back (Fresh d) = refl
period_back (Onward d) = refl

set_back : (s : ℕ) → s % half_set + s / half_set * half_set ≡ s
set_back s = omega arith

pub row_back : (r : Row) → row_of (numbers_of r) ≡ r
unfolding row_of
row_back Unused = refl
row_back (Interval d) = refl
row_back (Tone p) = refl
row_back (System a P from to) = refl
row_back (Retuning (Anchor m) from to) = ap (λ (x : Amount). Retuning (Anchor x) from to) (amount_back m)
row_back (Retuning (Width m) from to) = ap (λ (x : Amount). Retuning (Width x) from to) (amount_back m)
row_back (Retuning (Period m) from to) = ap (λ (x : PeriodChange). Retuning (Period x) from to) (period_back m)
row_back (Retuning Tones from to) = refl
row_back (Logic c s from to) = refl
row_back (Harmony needed named) = rw (set_back needed, set_back named)
row_back Pattern = refl

pub tone_back : (t : SoundingTone) → tone_of (sounding_of t) (pitch_of t) ≡ t
tone_back Muted = refl
tone_back (At p) = refl

pub change_back : (x : ToneChange) → change_of (change_code x) (change_number x) ≡ x
change_back Mute = refl
change_back (Move d) = refl
change_back (Set p) = refl

-- ---- small numbers

pub amount_code_small : (m : Amount) → amount_code m ≤ divide_code
amount_code_small Kept = omega arith
amount_code_small (Absolute n) = omega arith
amount_code_small (Relative Plus n) = omega arith
amount_code_small (Relative Minus n) = omega arith
amount_code_small (Relative Times n) = omega arith
amount_code_small (Relative Divide n) = omega arith

pub period_code_small : (m : PeriodChange) → period_code m ≤ onward_code
period_code_small (Fresh d) = omega arith
period_code_small (Onward d) = omega arith

pub form_small : (r : Row) → (numbers_of r).form ≤ pattern_form
form_small Unused = omega arith
form_small (Interval d) = omega arith
form_small (Tone p) = omega arith
form_small (System a P from to) = omega arith
form_small (Retuning (Anchor m) from to) = omega arith
form_small (Retuning (Width m) from to) = omega arith
form_small (Retuning (Period m) from to) = omega arith
form_small (Retuning Tones from to) = omega arith
form_small (Logic c s from to) = omega arith
form_small (Harmony needed named) = omega arith
form_small Pattern = omega arith

-- those of a harmony fit the table, its sets being of key numbers to 59
pub harmony_fits : (needed named : ℕ) → needed < all_sets → named < all_sets → NumbersFit (numbers_of (Harmony needed named))
harmony_fits needed named h k =
    let f : SFits w32 (pos (needed / half_set)) = record { sfits = omega arith } in
    record { second = f; from = omega arith; to = omega arith }

-- ---- reading

-- a row by its form
pub form_row : (n : Numbers) (k : ℕ) → n.form ≡ k → row_of (numbers k n.first n.second n.from n.to) ≡ row_of n
form_row n k e = ap (λ (f : ℕ). row_of (numbers f n.first n.second n.from n.to)) (sym e)

-- past the end there are zeros
pub past_end : (rows : List ℤ) (i : ℕ) → length rows ≤ i → read_at rows i ≡ numbers unused_form (pos 0) (pos 0) 0 0
past_end rows i h =
    rw (
      get_or-eq_default rows (pos 0) {n = row_width * i + 0} (omega arith),
      get_or-eq_default rows (pos 0) {n = row_width * i + 1} (omega arith),
      get_or-eq_default rows (pos 0) {n = row_width * i + 2} (omega arith),
      get_or-eq_default rows (pos 0) {n = row_width * i + 3} (omega arith),
      get_or-eq_default rows (pos 0) {n = row_width * i + 4} (omega arith),
    )
