-- What valid tables have for a search: all that it reads; and what is called is one of the rows. Assumes nothing.
use mathlib.Core.Path.{◌≡◌, refl, ◌∙◌, subst}
use mathlib.Core.Bool.{Bool, true}
use Rattle.std.specs.Prelude.{Option, Some, None}
use Rattle.std.proofs.lemmas.Option.{none-some}
use Prim.Native.Nat.{ℕ, zero, suc, ◌<◌}
use native.Mathlib.Omega.{arith}
use borrow.Author.Tests.{ltb-true}
use lib.Dec.{ltb}
use Rattle.tuning.proofs.Lists.{both}
use Rattle.tables.specs.declared.Row.{Row as TableRow}
use Rattle.tables.specs.declared.Row.TheVariants.{Unused, Interval, Tone, System, Retuning, Logic, Harmony, Pattern}
use Rattle.tables.specs.Layout.{Tables, row_count, row_at, read_at, as_logic}
use Rattle.tables.specs.Values.{FieldsFit}
use Rattle.validity.specs.Valid.{is_logic, valid_tables}
use Rattle.validity.proofs.Laws.{valid_of, ValidRow, row_valid, fields_fit, order_valid}
use Rattle.protocol.specs.Triggers.{Sought, answers_to, first_logic, order_by, order_of, else_order, calls_as, called, struck}
use Rattle.protocol.specs.Answers.{active_right}
use Rattle.protocol.specs.Inner.{Within}
use Rattle.protocol.proofs.Searches.{logic_found, order_called}
use Rattle.protocol.proofs.Struck.{named}

module _ (t : Tables) (v : valid_tables t ≡ true) where
  active_within : (i : ℕ) → active_right t (Some i) ≡ true → i < row_count t
  active_within i h = ltb-true _ _ (both (ltb i (row_count t)) (is_logic (row_at t i)) h).0

  pub active_row : (i : ℕ) → active_right t (Some i) ≡ true → ValidRow t (row_at t i)
  active_row i h = row_valid t v i (active_within i h)

  pub active_fields : (i : ℕ) → active_right t (Some i) ≡ true → FieldsFit (read_at t.rows i)
  active_fields i h = fields_fit t v i (active_within i h)

  -- what an order calls
  order_within_step : (p : ℕ → Bool) (r : TableRow) → ValidRow t r → {k : ℕ} → order_by t p r ≡ Some k → k < row_count t
  order_within_step p Unused h {k} e = absurd (none-some k e)
  order_within_step p (Interval d) h {k} e = absurd (none-some k e)
  order_within_step p (Tone f) h {k} e = absurd (none-some k e)
  order_within_step p (System a P from to) h {k} e = absurd (none-some k e)
  order_within_step p (Retuning r from to) h {k} e = absurd (none-some k e)
  order_within_step p (Harmony needed named) h {k} e = absurd (none-some k e)
  order_within_step p Pattern h {k} e = absurd (none-some k e)
  order_within_step p (Logic c s from to) h {k} e =
      let w = valid_of t v in
      let o = order_called p t.triggers t.calls from to (omega (arith, h.within, w.room.orders, w.sizes.calls)) e in
      subst (λ (x : ℕ). x < row_count t) o.is (order_valid t v o.index (omega (arith, o.most, h.within))).within

  module _ (a : Option ℕ) (h : active_right t a ≡ true) (x : Sought) where
    pub named_within : {k : ℕ} → named t a x ≡ Some k → k < row_count t
    named_within {k} e = go (first_logic t.rows (answers_to t x) 0 (row_count t)) refl e
      where
        ordered : (b : Option ℕ) → active_right t b ≡ true → order_of t (answers_to t x) b ≡ Some k → k < row_count t
        ordered None r q = absurd (none-some k q)
        ordered (Some i) r q = order_within_step (answers_to t x) (row_at t i) (row_valid t v i (active_within i r)) q

        go : (o : Option ℕ) → first_logic t.rows (answers_to t x) 0 (row_count t) ≡ o → else_order t a (answers_to t x) o ≡ Some k → k < row_count t
        go None f q = ordered a h q
        go (Some i) f q = omega (arith, (logic_found t.rows (answers_to t x) 0 (row_count t) (f ∙ q)).0)

    calls_within : (k : ℕ) (r : TableRow) → ValidRow t r → k < row_count t → Within t (calls_as a k (as_logic r)).calls
    calls_within k Unused w l = (l, tt)
    calls_within k (Interval d) w l = (l, tt)
    calls_within k (Tone f) w l = (l, tt)
    calls_within k (System b P from to) w l = (l, tt)
    calls_within k (Retuning r from to) w l = (l, tt)
    calls_within k (Harmony needed named) w l = (l, tt)
    calls_within k Pattern w l = (l, tt)
    calls_within k (Logic c zero from to) w l = (l, tt)
    calls_within k (Logic c (suc j) from to) w l =
        let z = (w.start (omega arith)).within in
        (omega arith, tt)

    pub struck_within : Within t (struck t a x).calls
    unfolding struck
    struck_within = go (named t a x) refl
      where
        go : (o : Option ℕ) → named t a x ≡ o → Within t (called t a o).calls
        go None f = tt
        go (Some k) f = let l = named_within f in calls_within k (row_at t k) (row_valid t v k l) l
