-- The orders of the active logic, as a part of all. Assumes nothing.
use mathlib.Core.Path.{◌≡◌, refl, sym, ap, ap₂, ◌∙◌, subst}
use mathlib.Core.Bool.{Bool, true}
use mathlib.Core.List.{List, [], ◌∷◌}
use Rattle.std.specs.Prelude.{Option, Some, None, All}
use Rattle.std.proofs.lemmas.List.{get_or_default, drop-take}
use Prim.Native.Nat.{ℕ, zero, suc, ◌+◌, ◌-◌, ◌*◌, ◌≤◌, ◌<◌}
use native.Mathlib.Omega.{arith}
use lib.ListN.{length, take, drop, length-take, length-drop}
use lib.Seq.{slice, length-slice, get_or-drop, get_or-take, take-nil}
use Rattle.tables.specs.declared.Row.TheVariants.{Logic}
use Rattle.tables.specs.Layout.{Tables, row_count, row_at, order_width, column, triggers_in, calls_in}
use Rattle.tables.proofs.Columns.{columns_length, triggers_drop, calls_drop}
use Rattle.validity.specs.Valid.{valid_tables}
use Rattle.validity.proofs.Laws.{valid_of, ValidRow}
use Rattle.protocol.specs.declared.triggers.Called.TheVariants as name
use Rattle.protocol.specs.Triggers.{Sought, answers_to, first_order, order_by, order_of, else_order}
use Rattle.protocol.specs.Answers.{active_right}
use Rattle.protocol.specs.Inner.{logic_for, called_in, called_by, Paired, Audible, OrdersOf}
use Rattle.protocol.proofs.Searches.{logic_found}
use Rattle.protocol.proofs.Struck.{logic_called}
use Rattle.protocol.proofs.Audible.{audible_order}
use Rattle.protocol.proofs.Pressable.{active_row}

pub none_active : (t : Tables) {a : Option ℕ} → ((p : ℕ → Bool) → None ≡ order_of t p a) → OrdersOf t a []
unfolding first_order column
none_active t h = record { paired = tt; audible = λ k d l. absurd (omega arith); first = h }

-- so many orders from the front
triggers_take : (n : ℕ) (l : List ℕ) → triggers_in (take (order_width * n) l) ≡ take n (triggers_in l)
unfolding column
triggers_take zero l = refl
triggers_take (suc n) [] = let e : order_width * suc n ≡ suc (suc (order_width * n)) = omega arith in rw e
triggers_take (suc n) (c ∷ []) = let e : order_width * suc n ≡ suc (suc (order_width * n)) = omega arith in rw (e, take-nil n)
triggers_take (suc n) (c ∷ k ∷ l) = let e : order_width * suc n ≡ suc (suc (order_width * n)) = omega arith in rw e (ap (λ (r : List ℕ). c ∷ r) (triggers_take n l))

calls_take : (n : ℕ) (l : List ℕ) → calls_in (take (order_width * n) l) ≡ take n (calls_in l)
unfolding column
calls_take zero l = refl
calls_take (suc n) [] = let e : order_width * suc n ≡ suc (suc (order_width * n)) = omega arith in rw e
calls_take (suc n) (c ∷ []) = let e : order_width * suc n ≡ suc (suc (order_width * n)) = omega arith in rw e
calls_take (suc n) (c ∷ k ∷ l) = let e : order_width * suc n ≡ suc (suc (order_width * n)) = omega arith in rw e (ap (λ (r : List ℕ). k ∷ r) (calls_take n l))

even_paired : (l : List ℕ) (n : ℕ) → length l ≡ order_width * n → Paired l
even_paired [] n e = tt
even_paired (c ∷ []) n e = omega arith
even_paired (c ∷ k ∷ l) zero e = absurd (omega arith)
even_paired (c ∷ k ∷ l) (suc n) e = even_paired l n (omega arith)

module _ (t : Tables) (v : valid_tables t ≡ true) (orders : List ℕ) (cs : triggers_in orders ≡ t.triggers) (ks : calls_in orders ≡ t.calls)
    (i : ℕ) (h : active_right t (Some i) ≡ true) {c s from to : ℕ} (e : row_at t i ≡ Logic c s from to) where
  logical : ValidRow t (Logic c s from to)
  logical = subst (ValidRow t) e (active_row t v i h)

  pub orders_order : from ≤ to
  orders_order = logical.order

  to_room : (to ≤ length t.triggers) × (to ≤ length t.calls)
  to_room = let w = valid_of t v in (omega (arith, logical.within, w.room.orders, w.sizes.triggers), omega (arith, logical.within, w.room.orders, w.sizes.calls))

  pub orders_end : order_width * to ≤ length orders
  orders_end = omega (arith, columns_length orders, ap length cs, ap length ks, to_room.0, to_room.1)

  abbrev own : List ℕ
  own = take (order_width * to - order_width * from) (drop (order_width * from) orders)

  part_slice : (l : List ℕ) → take (to - from) (drop from l) ≡ slice from to l
  part_slice l = let z : from + (to - from) ≡ to = omega (arith, orders_order) in sym (drop-take from (to - from) l) ∙ ap (λ (n : ℕ). drop from (take n l)) z

  many : order_width * to - order_width * from ≡ order_width * (to - from)
  many = omega arith

  own_triggers : triggers_in own ≡ slice from to t.triggers
  own_triggers =
      ap (λ (n : ℕ). triggers_in (take n (drop (order_width * from) orders))) many
      ∙ triggers_take (to - from) (drop (order_width * from) orders)
      ∙ ap (take (to - from)) (sym (triggers_drop from orders) ∙ ap (drop from) cs)
      ∙ part_slice t.triggers

  own_calls : calls_in own ≡ slice from to t.calls
  own_calls =
      ap (λ (n : ℕ). calls_in (take n (drop (order_width * from) orders))) many
      ∙ calls_take (to - from) (drop (order_width * from) orders)
      ∙ ap (take (to - from)) (sym (calls_drop from orders) ∙ ap (drop from) ks)
      ∙ part_slice t.calls

  audible_own : All (Audible t.rows) (slice from to t.triggers)
  audible_own k d l =
      let n : from + k < to = omega (arith, l, length-slice from to t.triggers to_room.0) in
      subst (Audible t.rows)
      (sym (get_or-drop from (take to t.triggers) k d ∙ get_or-take to t.triggers (from + k) d n ∙ get_or_default t.triggers (from + k) d 0 (omega (arith, n, to_room.0))))
      (audible_order t v (from + k) (omega (arith, n, logical.within)))

  pub orders_own : {a : Option ℕ} → a ≡ Some i → OrdersOf t a own
  orders_own f =
      record {
        paired = even_paired own (to - from) (omega (arith, length-take (order_width * to - order_width * from) (drop (order_width * from) orders), length-drop (order_width * from) orders, orders_end, orders_order));
        audible = subst (All (Audible t.rows)) (sym own_triggers) audible_own;
        first = λ p. ap₂ (first_order p) own_triggers own_calls ∙ ap (order_by t p) (sym e) ∙ ap (order_of t p) (sym f);
      }

-- a logic that answers to what is looked for, else an order of the active logic
module _ (t : Tables) (a : Option ℕ) (x : Sought) where
  pub called_logic : {i : ℕ} → logic_for t x ≡ Some i → Some (name.Logic i) ≡ called_by t a x
  called_logic {i} h =
      let p = answers_to t x in
      logic_called p t.rows i (logic_found t.rows p 0 (row_count t) h).1
      ∙ ap (λ (o : Option ℕ). called_in t.rows (else_order t a p o)) (sym h)

  pub called_order : {os : List ℕ} → logic_for t x ≡ None → OrdersOf t a os → called_in t.rows (first_order (answers_to t x) (triggers_in os) (calls_in os)) ≡ called_by t a x
  called_order h own =
      let p = answers_to t x in
      ap (called_in t.rows) (own.first p) ∙ ap (λ (o : Option ℕ). called_in t.rows (else_order t a p o)) (sym h)
