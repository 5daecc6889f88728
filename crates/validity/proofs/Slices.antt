-- The whole test over the parts of the two slices is that of the tables. Assumes nothing.
use mathlib.Core.Path.{◌≡◌, refl, sym, ap, ◌∙◌}
use mathlib.Core.Bool.{Bool, true, false, ◌&&◌}
use mathlib.Core.List.{List, [], ◌∷◌}
use Prim.Native.Nat.{ℕ, ◌+◌, ◌*◌}
use lib.Dec.{eqb}
use lib.IntN.{ℤ, pos}
use lib.ListN.{get_or, drop}
use Rattle.tuning.specs.Desk.{is_tone}
use Rattle.tables.specs.declared.Counts.{Counts}
use Rattle.tables.specs.Layout.{Tables, used, full_size, column, triggers_in, calls_in, row_width, order_width, system_form, logic_form, sounds_code, set_code}
use Rattle.tables.proofs.Columns.{trigger_at, call_at, triggers_drop, calls_drop}
use Rattle.validity.specs.Valid.{counts_right, kinds, ends, all_zero, all_nought, is_sum, valid_tables}
use Rattle.validity.specs.Inner.{is_trigger_code, is_form, fast_rows, fast_orders, fast_list}
use Rattle.validity.proofs.Same.{swapped}
use Rattle.validity.proofs.Sizes.{valid_contents, crowded}

-- ---- an order, as the code reads it

pub order_told : (rows : List ℤ) (count : ℕ) (orders : List ℕ) (i : ℕ) {a b : Bool}
    → a ≡ is_trigger_code rows count (pos (get_or orders (order_width * i) 0)) → b ≡ is_form rows count system_form logic_form (get_or orders (order_width * i + 1) 0)
    → a && b ≡ is_trigger_code rows count (pos (get_or (triggers_in orders) i 0)) && is_form rows count system_form logic_form (get_or (calls_in orders) i 0)
order_told rows count orders i {a} {b} e f =
    let trigger : a ≡ is_trigger_code rows count (pos (get_or (triggers_in orders) i 0)) = e ∙ ap (λ (k : ℕ). is_trigger_code rows count (pos k)) (trigger_at orders i) in
    let call : b ≡ is_form rows count system_form logic_form (get_or (calls_in orders) i 0) = f ∙ ap (is_form rows count system_form logic_form) (call_at orders i) in
    rw (trigger, call)

-- ---- orders that are zero

nought_columns : (l : List ℕ) → all_nought (triggers_in l) && all_nought (calls_in l) ≡ all_nought l
unfolding column all_nought
nought_columns [] = refl
nought_columns (x ∷ l) = swapped (eqb x 0) (all_nought (calls_in l)) (all_nought (triggers_in l)) ∙ ap (λ (b : Bool). eqb x 0 && b) (nought_columns l)

pub nought_orders : (n : ℕ) (l : List ℕ) → all_nought (drop (order_width * n) l) ≡ all_nought (drop n (triggers_in l)) && all_nought (drop n (calls_in l))
nought_orders n l = sym (rw (triggers_drop n l, calls_drop n l) (nought_columns (drop (order_width * n) l)))

-- ---- the tests of the parts, one after the other

apart : (a b c : Bool) → a && (b && c) ≡ a && b && c
apart true b c = refl
apart false b c = refl

module _ (t : Tables) {u : Counts} (e : u ≡ used t) (full : full_size t ≡ true) where
  pub few : counts_right u ≡ false → false ≡ valid_tables t
  few h = crowded t u e h

  pub valid_parts : counts_right u ≡ true → (orders : List ℕ) → triggers_in orders ≡ t.triggers → calls_in orders ≡ t.calls → {a b c d f g : Bool}
      → a ≡ fast_rows t.rows u (kinds 0 0 0 0 0 0) (ends 0 0 0) 0 u.rows → b ≡ all_zero (drop (row_width * u.rows) t.rows)
      → c ≡ fast_list sounds_code is_tone u.tones t.sounding t.tones → d ≡ fast_list set_code is_sum u.changes t.kinds t.changes
      → f ≡ fast_orders t.rows u.rows t.triggers t.calls 0 u.orders → g ≡ all_nought (drop (order_width * u.orders) orders)
      → a && b && c && d && f && g ≡ valid_tables t
  valid_parts h orders triggers calls {a} {b} {c} {d} {f} ea eb ec ed ef eg =
      let eg' = eg ∙ nought_orders u.orders orders ∙ ap (λ (l : List ℕ). all_nought (drop u.orders l) && all_nought (drop u.orders (calls_in orders))) triggers
      ∙ ap (λ (l : List ℕ). all_nought (drop u.orders t.triggers) && all_nought (drop u.orders l)) calls in
      ap (λ (x : Bool). a && b && c && d && f && x) eg'
      ∙ apart (a && b && c && d && f) (all_nought (drop u.orders t.triggers)) (all_nought (drop u.orders t.calls))
      ∙ rw (ea, eb, ec, ed, ef) (valid_contents t u full e h)
