-- The tables of a text whose items are ready and whose values are known, declaration by declaration. Assumes nothing.
use mathlib.Core.Path.{◌≡◌, sym, ◌∙◌, ap, subst}
use mathlib.Core.List.{List}
use Prim.Native.Nat.{ℕ, ◌+◌, ◌≤◌, ◌<◌}
use native.Mathlib.Omega.{arith}
use lib.IntN.{ℤ}
use lib.ListN.{length}
use Rattle.grammar.specs.declared.Item.{Item}
use Rattle.tables.specs.declared.Counts.{Counts}
use Rattle.tables.specs.Layout.{Tables}
use Rattle.tables.specs.Values.{CountsFit}
use Rattle.program.specs.Program.{Declaration, Program, declaration_of, program_of}
use Rattle.program.specs.Meaning.{declaration_at, value_of}
use Rattle.valuation.specs.Inner.{Ready}
use Rattle.valuation.proofs.Ready.{ready_number, ready_few, ready_fits}
use Rattle.filling.specs.Tables.{filled_from, laid_out, tables_of}
use Rattle.filling.specs.Inner.{Valued, blank, value_in, FitValue, Writable, Lists, lists_of, Added}
use Rattle.filling.proofs.Fitting.{value_fit, fit_parts, filled_same}
use Rattle.filling.proofs.Totals.{Within, filled_within}
use Rattle.filling.proofs.Filling.{together, four_counts, Filling, filling_none, filling_all, filling_few, filling_next, room_rows, room_tones, room_changes, room_orders}

-- nothing is written yet
pub written_none : (value : ℕ → ℤ) (p : Program) {t : Tables} → t ≡ blank → Filling value p 0 (record { rows = 0; tones = 0; changes = 0; orders = 0 }) t.rows (lists_of t)
written_none value p e =
    subst (λ (t : Tables). Filling value p 0 (record { rows = 0; tones = 0; changes = 0; orders = 0 }) t.rows (lists_of t)) (sym e) (filling_none value p)

module _ {is : List Item} {starts : List ℕ} {values : List ℤ} (r : Ready is starts) (v : Valued (program_of is) values) where
  within : Within (filled_from (value_in values) 0 0 0 0 (program_of is))
  within = filled_within (value_in values) r.allowed

  module _ {d : ℕ} {used : Counts} {rows : List ℤ} {lists : Lists} (h : Filling (value_in values) (program_of is) d used rows lists) where
    pub written_few : CountsFit used
    written_few = filling_few h within

    pub written_all_step : length starts ≤ d → {counts : List ℕ} → counts ≡ four_counts used → together rows lists counts ≡ tables_of (program_of is)
    unfolding tables_of
    written_all_step k {counts} e =
        let p = program_of is in
        rw e
        (filling_all h (omega (arith, ready_number r))
        ∙ ap laid_out (filled_same p (value_in values) (value_of p) v.exact 0 0 0 0 p (omega arith) r.allowed.each))

    -- the next declaration, of which these are the items
    module _ (k : d < length starts) (body : List Item) (e : declaration_of body ≡ declaration_at (program_of is) d) where
      inside : d < length (program_of is)
      inside = rw (ready_number r) at k

      pub written_fits : Writable values used (declaration_of body)
      written_fits =
          subst (λ (c : Declaration). Writable values used c) (sym e)
          (record {
            rows = room_rows h within inside;
            value = subst (λ (i : ℕ). FitValue values i) (sym h.place) (value_fit v (ready_few r) inside);
            parts = fit_parts v (ready_few r) (declaration_at (program_of is) d) (ready_fits r d k);
            tones = room_tones h within inside;
            changes = room_changes h within inside;
            orders = room_orders h within inside;
          })

      pub written_next : {used' : Counts} {rows' : List ℤ} {lists' : Lists}
          → Added (value_in values) used (declaration_of body) rows lists used' rows' lists'
          → Filling (value_in values) (program_of is) (d + 1) used' rows' lists'
      written_next {used'} {rows'} {lists'} a =
          filling_next h within inside (subst (λ (c : Declaration). Added (value_in values) used c rows lists used' rows' lists') e a)

-- the same of a declaration that is told in another way
pub writable_as : {values : List ℤ} {used : Counts} {c d : Declaration} → c ≡ d → Writable values used c → Writable values used d
writable_as {values} {used} e w = subst (Writable values used) e w

pub added_as : {value : ℕ → ℤ} {used : Counts} {c d : Declaration} {rows : List ℤ} {before : Lists} {r : Counts} {rows' : List ℤ} {after : Lists} → c ≡ d
    → Added value used c rows before r rows' after → Added value used d rows before r rows' after
added_as {value} {used} {rows} {before} {r} {rows'} {after} e w = subst (λ (x : Declaration). Added value used x rows before r rows' after) e w
