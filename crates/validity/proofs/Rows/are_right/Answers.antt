-- `validity::Rows::are_right` meets its contract. The loop's invariant: what is left gives the answer, with the intervals as what the others leave of the
-- rows passed. Assumes nothing.
use mathlib.Core.Bool.{Bool, true, false, ◌&&◌}
use mathlib.Core.Path.{◌≡◌, sym, ap, ◌∙◌}
use mathlib.Core.List.{List}
use Prim.Native.Nat.{ℕ, ◌+◌, ◌-◌, ◌*◌, ◌≤◌, ◌<◌}
use native.Mathlib.Nat.{add-zero}
use native.Mathlib.Omega.{arith}
use borrow.Author.Rules.{rules}
use lib.IntN.{ℤ, pos, nat_abs}
use lib.ListN.{get_or}
use lib.Signed.{le_z}
use mir.Facts.{to_z-of_z}
use mir.Syntax.{w32}
use mir.Val.{SFits}
use Rattle.integers.specs.Parts.{up}
use Rattle.tuning.specs.Desk.{between}
use Rattle.tuning.proofs.Lists.{both}
use Rattle.tables.specs.declared.Counts.{Counts}
use Rattle.tables.specs.Layout.{row_width, number_at, read_at, interval_form, tone_form}
use Rattle.validity.proofs.Runs.{sounding_right, other_form, natural_is, form_known, Turned, value_turned, other_turned, value_ends, row_wrong, rows_turn, rows_end}
use Rattle.validity.specs.declared.Kinds.{Kinds}
use Rattle.validity.specs.declared.Ends.{Ends}
use Rattle.validity.specs.Valid.{kinds, kinds_right, ends, ends_right}
use Rattle.validity.specs.Inner.{others, kinds_among, kinds_with, ends_with, has_naturals, fast_row, value_right, fast_rows}
use Rattle.validity.proofs.Rows.are_right.Goals.{After-is_between, then-is_between+else-not-is_value, else-is_between+else-not-is_other}
use Rattle.validity.proofs.Rows.are_right.Goals as goal

-- once it is told whether the row is an interval or a tone
module _ (c : After-is_between) where
  abbrev rows : List ℤ
  rows = c.args.self.numbers.now

  abbrev used : Counts
  used = c.args.used

  abbrev k₁ : Kinds
  k₁ = c.loop-i.kinds

  abbrev e₁ : Ends
  e₁ = c.loop-i.ends

  abbrev i : ℕ
  i = c.loop-i.i

  abbrev n : ℕ
  n = used.rows

  before : i < n
  before = omega arith

  abbrev number : ℕ → ℤ
  number k = number_at rows i k

  -- the form as the code reads it
  abbrev form : ℤ
  form = get_or rows (row_width * i) (pos 0)

  form_is : number 0 ≡ form
  form_is = rw add-zero

  form_fits : SFits w32 form
  form_fits = search rules

  value_is : {b : Bool} → c.is_between.result ≡ b → between (pos interval_form) (pos tone_form) form ≡ b
  value_is e = let f = form_fits in sym (simp to_z-of_z at c.is_between.ensures) ∙ e

  abbrev row_is : Bool
  row_is = has_naturals rows i && fast_row rows n e₁ (read_at rows i)

  wrong : row_is ≡ false → false ≡ fast_rows rows used (kinds 0 0 0 0 0 0) (ends 0 0 0) 0 n
  wrong q =
      sym (row_wrong rows used (kinds_among k₁ i) e₁ i n before q)
      ∙ c.loop-i.invariant.left

  -- what holds before the next row, of these kinds and ends
  abbrev Next : Kinds → Ends → Type 0
  Next k e =
      record {
        few : others k ≤ i + 1;
        left : fast_rows rows used (kinds_among k (i + 1)) e (i + 1) (n - (i + 1)) ≡ fast_rows rows used (kinds 0 0 0 0 0 0) (ends 0 0 0) 0 n;
      }

  next : row_is ≡ true → {k : Kinds} {e : Ends} → Turned i (kinds_with (kinds_among k₁ i) (up (number 0))) k
      → e ≡ ends_with e₁ (up (number 0)) (up (number 4)) → Next k e
  next q t ee =
      record { few = t.few; left = rows_turn rows used k₁ e₁ i n before q t ee ∙ c.loop-i.invariant.left }

  -- a right row has no negative form and end
  record Naturals : Type 0 where
    natural : le_z (pos 0) form ≡ true
    form_up : nat_abs form ≡ up (number 0)
    to : le_z (pos 0) (number 4) ≡ true

  naturals : row_is ≡ true → Naturals
  naturals q =
      let a = both (has_naturals rows i) _ q in
      let b = both _ (le_z (pos 0) (number 4)) a.0 in
      let d = both (le_z (pos 0) (number 0)) (le_z (pos 0) (number 3)) b.0 in
      let f = rw form_is at d.0 in
      record { natural = f; form_up = natural_is form f ∙ ap up (sym form_is); to = b.1 }

  -- an interval or a tone
  value_row : c.is_between.result ≡ true → {b r : Bool} → r ≡ value_right rows i → r ≡ b → row_is ≡ b
  value_row h e f =
      sym (sounding_right rows n e₁ (number 0) (number 1) (number 2) (number 3) (number 4) (rw form_is (value_is h))) ∙ sym e ∙ f

  value_next : c.is_between.result ≡ true → row_is ≡ true → {k : Kinds} {e : Ends}
      → k ≡ kinds k₁.intervals (k₁.tones + (nat_abs form - interval_form)) k₁.systems k₁.retunings k₁.logics k₁.harmonies
      → e ≡ e₁ → Next k e
  value_next h q {k} ek ee =
      let value : between (pos interval_form) (pos tone_form) (number 0) ≡ true = rw form_is (value_is h) in
      next q {k = k} (rw (ek, (naturals q).form_up) (value_turned k₁ i c.loop-i.invariant.few (number 0) value))
      (ee ∙ value_ends rows n e₁ (number 0) (up (number 4)) value)

  -- another row
  other_next : c.is_between.result ≡ false → row_is ≡ true → {k : Kinds} {e : Ends} → k ≡ kinds_with k₁ (nat_abs form)
      → e ≡ ends_with e₁ (nat_abs form) (nat_abs (number 4)) → Next k e
  other_next h q {k} ek ee =
      let s = naturals q in
      let forms = other_form form s.natural (value_is h) in
      let row = (both (has_naturals rows i) _ q).1 in
      let known = form_known rows n e₁ (read_at rows i) row (λ z. forms.0 (s.form_up ∙ z)) (λ z. forms.1 (s.form_up ∙ z)) in
      next q {k = k} (rw (ek, s.form_up) (other_turned k₁ i c.loop-i.invariant.few (up (number 0)) known.0 known.1))
      (ee ∙ rw (s.form_up, natural_is (number 4) s.to))

pub returns-then-not-is_value : goal.returns-then-not-is_value
returns-then-not-is_value c =
    let p = (goal.at.returns-then-not-is_value c).After-is_between in
    wrong p (value_row p c.if-is_between.true c.is_value.ensures c.if-not-is_value.true)

pub returns-then-not-is_other : goal.returns-then-not-is_other
returns-then-not-is_other c = wrong (goal.at.returns-then-not-is_other c).After-is_between (sym (rw c.requires.0 at c.is_other.ensures) ∙ c.if-not-is_other.true)

pub loop-i-preserved : goal.loop-i-preserved
loop-i-preserved c =
    let p = (goal.at.loop-i-preserved c).After-is_between in
    let f = form_fits p in
    let g : SFits w32 (number p 4) = search rules in
    elim c.if-is_between.branch [
      | then-is_between+else-not-is_value w ↦
          value_next p w.if-is_between.true (value_row p w.if-is_between.true w.is_value.ensures w.if-not-is_value.false) (simp to_z-of_z at w.kinds-is) w.ends-is
      | else-is_between+else-not-is_other w ↦
          other_next p w.if-is_between.false (sym (rw c.requires.0 at w.is_other.ensures) ∙ w.if-not-is_other.false)
          (w.kinds-is ∙ simp to_z-of_z at w.with-kinds.ensures) (w.ends-is ∙ simp to_z-of_z at w.with-ends.ensures)
    ]

pub returns : goal.returns
returns c =
    let used = c.args.used in
    let l = c.loop-i in
    let left : used.rows ≤ l.i = omega arith in
    let all : l.i ≡ used.rows = omega arith in
    rw (c.are_few.ensures, c.are.ensures, c.among.ensures)
    (ap (λ (m : ℕ). kinds_right (kinds_among l.kinds m) && ends_right used l.ends) (sym all)
    ∙ sym (rows_end c.args.self.numbers.now used (kinds_among l.kinds l.i) l.ends l.i used.rows left)
    ∙ l.invariant.left)
