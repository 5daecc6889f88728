-- What a row is, by its form: its kind, and whether it is a logic. Assumes nothing.
use mathlib.Core.Path.{◌≡◌, refl}
use mathlib.Core.Bool.{Bool, true, false, cond, ◌&&◌}
use Rattle.std.specs.Prelude.{Option, Some, None}
use Prim.Native.Nat.{ℕ, ◌+◌, ◌*◌, ◌<◌}
use native.Mathlib.Omega.{arith}
use borrow.Author.Tests.{ne_eqb, le-leb, lt-leb}
use lib.Dec.{eqb, leb}
use Rattle.integers.specs.Parts.{up}
use Rattle.orders.specs.declared.Kind.{Kind}
use Rattle.orders.specs.declared.Kind.TheVariants as kind
use Rattle.tables.specs.declared.Numbers.{Numbers}
use Rattle.tables.specs.declared.Row.{Row}
use Rattle.tables.specs.declared.Row.TheVariants.{Unused}
use Rattle.tables.specs.Layout.{numbers, row_of, as_logic, AsHarmony, no_harmony, a_harmony, as_harmony, half_set, system_form, anchor_form, tones_form, logic_form, harmony_form, pattern_form}
use Rattle.tables.proofs.Forms.{by_form, no_row_holds}
use Rattle.validity.specs.Valid.{is_logic}
use Rattle.protocol.specs.Triggers.{passes}
use Rattle.protocol.specs.Inner.{is_trigger, kind_of}

-- the kind of a row, as the code finds it by the form
abbrev pub kind_by : ℕ → Option Kind
kind_by f =
    cond (eqb f system_form) (Some kind.System)
    (cond (leb anchor_form f && leb f tones_form) (Some kind.Retuning) (cond (eqb f logic_form) (Some kind.Logic) None))

abbrev pub is_logic_kind : Option Kind → Bool
is_logic_kind None = false
is_logic_kind (Some kind.System) = false
is_logic_kind (Some kind.Retuning) = false
is_logic_kind (Some kind.Logic) = true

module _ (n : Numbers) where
  -- the row, were this its form
  abbrev row : ℕ → Row
  row f = row_of (numbers f n.first n.second n.from n.to)

  none : (f : ℕ) → pattern_form < f → row f ≡ Unused
  none f h = no_row_holds f n.first n.second n.from n.to h

  pub logic_by : (trigger : ℕ) → eqb n.form logic_form && eqb (up n.first) trigger ≡ passes (is_trigger trigger) (as_logic (row_of n))
  unfolding row_of
  logic_by trigger =
      by_form (λ f. eqb f logic_form && eqb (up n.first) trigger ≡ passes (is_trigger trigger) (as_logic (row f))) refl refl refl refl refl refl refl refl refl refl refl
      (λ f h. rw (none f h, ne_eqb f logic_form (omega arith))) n.form

  -- a logic whose trigger passes a test, by the form
  pub passes_by : (p : ℕ → Bool) → cond (eqb n.form logic_form) (p (up n.first)) false ≡ passes p (as_logic (row_of n))
  unfolding row_of
  passes_by p =
      by_form (λ f. cond (eqb f logic_form) (p (up n.first)) false ≡ passes p (as_logic (row f))) refl refl refl refl refl refl refl refl refl refl refl
      (λ f h. rw (none f h, ne_eqb f logic_form (omega arith))) n.form

  -- the harmony that the numbers are, were they one
  abbrev pub harmony : AsHarmony
  harmony = a_harmony (up n.first + up n.second * half_set) (n.from + n.to * half_set)

  pub harmony_by : cond (eqb n.form harmony_form) harmony no_harmony ≡ as_harmony (row_of n)
  unfolding row_of
  harmony_by =
      by_form (λ f. cond (eqb f harmony_form) harmony no_harmony ≡ as_harmony (row f)) refl refl refl refl refl refl refl refl refl refl refl
      (λ f h. rw (none f h, ne_eqb f harmony_form (omega arith))) n.form

  pub logic_is : eqb n.form logic_form ≡ is_logic (row_of n)
  unfolding row_of
  logic_is =
      by_form (λ f. eqb f logic_form ≡ is_logic (row f)) refl refl refl refl refl refl refl refl refl refl refl
      (λ f h. rw (none f h, ne_eqb f logic_form (omega arith))) n.form

  pub logic_kind : is_logic_kind (kind_of (row_of n)) ≡ eqb n.form logic_form
  unfolding row_of
  logic_kind =
      by_form (λ f. is_logic_kind (kind_of (row f)) ≡ eqb f logic_form) refl refl refl refl refl refl refl refl refl refl refl
      (λ f h. rw (none f h, ne_eqb f logic_form (omega arith))) n.form

  pub kind_by_step : kind_by n.form ≡ kind_of (row_of n)
  unfolding row_of
  kind_by_step =
      by_form (λ f. kind_by f ≡ kind_of (row f)) refl refl refl refl refl refl refl refl refl refl refl
      (λ f h.
      rw (none f h, ne_eqb f system_form (omega arith), lt-leb f tones_form (omega arith), le-leb anchor_form f (omega arith))
      (rw (ne_eqb f logic_form (omega arith))))
      n.form
