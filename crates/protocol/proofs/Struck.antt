-- What is found for what is looked for, as the code has it. Assumes nothing.
use mathlib.Core.Path.{◌≡◌, refl, sym, ap, ◌∙◌, subst}
use mathlib.Core.Bool.{Bool, true, false, cond, false≢true}
use mathlib.Core.List.{List, [], ◌∷◌}
use Rattle.std.specs.Prelude.{Option, Some, None, Result, Ok}
use Rattle.std.specs.Option.{ok_or}
use Prim.Native.Nat.{ℕ, zero, suc}
use borrow.Author.Tests.{eqb-true}
use types.Run.{OneOf, miss}
use denote.Enum.Declared.{tag_of}
use lib.IntN.{ℤ}
use Rattle.orders.specs.declared.Kind.{Kind}
use Rattle.orders.specs.declared.Kind.TheVariants as kind
use Rattle.integers.specs.Parts.{up}
use Rattle.tables.specs.declared.Numbers.{Numbers}
use Rattle.tables.specs.declared.Row.{Row as TableRow}
use Rattle.tables.specs.declared.Row.TheVariants.{Unused, Interval, Tone, System, Retuning, Logic, Harmony, Pattern}
use Rattle.tables.specs.Layout.{Tables, row_count, logic_form, read_at, row_of, row_at, as_logic}
use Rattle.tables.specs.contracts.Row as variants
use Rattle.tables.proofs.Rows.{form_row}
use Rattle.protocol.specs.declared.Desk.{Desk}
use Rattle.protocol.specs.declared.Stepped.{Stepped}
use Rattle.protocol.specs.declared.triggers.Press.{Press}
use Rattle.protocol.specs.declared.triggers.Called.{Called}
use Rattle.protocol.specs.declared.triggers.Called.TheVariants as name
use Rattle.protocol.specs.Triggers.{Sought, answers_to, passes, first_logic, order_by, order_of, else_order, Struck, start_calls, calls_as, called, struck}
use Rattle.protocol.specs.Steps.{with_active, desk_from, made_from, last_number, triggered}
use Rattle.protocol.specs.Inner.{kind_of, kind_at, by_kind, called_in, called_by, calls_of, start_call, press_as, called_after, calls_leave, struck_leaves, step_leaves, Within}
use Rattle.protocol.proofs.Forms.{is_logic_kind, logic_kind}

-- ---- an order, where no logic passes

-- the variants of a row that is no logic
abbrev pub no_logic : List ℕ
no_logic = 0 ∷ 1 ∷ 2 ∷ 3 ∷ 4 ∷ 6 ∷ 7 ∷ []

module _ (t : Tables) (p : ℕ → Bool) where
  pub no_orders : (r : TableRow) → OneOf no_logic (tag_of variants.the_type r) → None ≡ order_by t p r
  no_orders Unused h = refl
  no_orders (Interval d) h = refl
  no_orders (Tone f) h = refl
  no_orders (System a P from to) h = refl
  no_orders (Retuning r from to) h = refl
  no_orders (Logic c s from to) h = absurd (miss no_logic 5 tt h)
  no_orders (Harmony needed named) h = refl
  no_orders Pattern h = refl

  module _ (a : Option ℕ) {o : Option ℕ} (e : o ≡ None) where
    else_order_step : order_of t p a ≡ else_order t a p o
    else_order_step = ap (else_order t a p) (sym e)

    pub order_inactive : a ≡ None → None ≡ else_order t a p o
    order_inactive h = ap (order_of t p) (sym h) ∙ else_order_step

    pub order_active : {i : ℕ} {r : TableRow} → a ≡ Some i → r ≡ row_at t i → order_by t p r ≡ else_order t a p o
    order_active h f = ap (order_by t p) f ∙ ap (order_of t p) (sym h) ∙ else_order_step

-- ---- what is called, by its kind

kind_by_logic : (x : Option Kind) (k : ℕ) → by_kind x k ≡ cond (is_logic_kind x) (name.Logic k) (name.Other k)
kind_by_logic None k = refl
kind_by_logic (Some kind.System) k = refl
kind_by_logic (Some kind.Retuning) k = refl
kind_by_logic (Some kind.Logic) k = refl

pub logic_called : (p : ℕ → Bool) (rows : List ℤ) (k : ℕ) → passes p (as_logic (row_of (read_at rows k))) ≡ true → Some (name.Logic k) ≡ called_in rows (Some k)
logic_called p rows k h = ap (λ (x : Option Kind). Some (by_kind x k)) (sym (go (row_of (read_at rows k)) h))
  where
    go : (r : TableRow) → passes p (as_logic r) ≡ true → kind_of r ≡ Some kind.Logic
    go Unused h = absurd (false≢true h)
    go (Interval d) h = absurd (false≢true h)
    go (Tone f) h = absurd (false≢true h)
    go (System a P from to) h = absurd (false≢true h)
    go (Retuning r from to) h = absurd (false≢true h)
    go (Logic c s from to) h = refl
    go (Harmony needed named) h = absurd (false≢true h)
    go Pattern h = absurd (false≢true h)

calls_itself : (a : Option ℕ) (k : ℕ) (r : TableRow) → is_logic_kind (kind_of r) ≡ false
    → ◌≡◌ {A = Struck} (record { active = a; calls = k ∷ [] }) (calls_as a k (as_logic r))
calls_itself a k Unused h = refl
calls_itself a k (Interval d) h = refl
calls_itself a k (Tone f) h = refl
calls_itself a k (System b P from to) h = refl
calls_itself a k (Retuning r from to) h = refl
calls_itself a k (Logic c s from to) h = absurd (false≢true (sym h))
calls_itself a k (Harmony needed named) h = refl
calls_itself a k Pattern h = refl

-- ---- what comes of it

abbrev pub struck_by : Press → Struck
struck_by p = record { active = p.active; calls = calls_of p.called }

-- what is found, or the number where that is nothing
abbrev pub found_as : List ℤ → Option ℕ → ℕ → Result Called ℕ
found_as rows o unfound = ok_or (called_in rows o) unfound

start_calls_one : (k s : ℕ) → start_call k s ∷ [] ≡ start_calls k s
start_calls_one k zero = refl
start_calls_one k (suc j) = refl

pub struck_as_holds : (t : Tables) (a o : Option ℕ) (unfound : ℕ) → struck_by (press_as t.rows a (found_as t.rows o unfound)) ≡ called t a o
unfolding row_of
struck_as_holds t a None unfound = refl
struck_as_holds t a (Some k) unfound =
    ap (λ (f : Called). struck_by (press_as t.rows a (Ok f))) (kind_by_logic (kind_at t.rows k) k) ∙ go (is_logic_kind (kind_at t.rows k)) refl
  where
    n : Numbers
    n = read_at t.rows k

    go : (b : Bool) → is_logic_kind (kind_at t.rows k) ≡ b
        → struck_by (press_as t.rows a (Ok (cond b (name.Logic k) (name.Other k)))) ≡ calls_as a k (as_logic (row_at t k))
    go true h =
        ap (λ (ks : List ℕ). record { active = Some k; calls = ks }) (start_calls_one k (up n.second))
        ∙ ap (λ (r : TableRow). calls_as a k (as_logic r)) (form_row n logic_form (eqb-true n.form logic_form (sym (logic_kind n) ∙ h)))
    go false h = calls_itself a k (row_at t k) h

-- of calls in their order, the number the last one's
abbrev list_leaves : Tables → ℕ → Desk → List ℕ → ℕ → Stepped
list_leaves t house d ks unfound = record { desk = desk_from t house d ks; number = last_number unfound (made_from t house d ks) }

-- at most one call is made
one_leaves : (t : Tables) (house : ℕ) (d : Desk) (unfound : ℕ) (f : Option Called) → let p = press_as t.rows d.active (ok_or f unfound) in
    calls_leave t house (with_active p.active d) p.called ≡ list_leaves t house (with_active p.active d) (calls_of p.called) unfound
unfolding desk_from made_from
one_leaves t house d unfound None = refl
one_leaves t house d unfound (Some (name.Other k)) = refl
one_leaves t house d unfound (Some (name.Logic k)) = refl

module _ (t : Tables) (a : Option ℕ) (x : Sought) where
  -- the declaration that is found
  abbrev pub named : Option ℕ
  named = let p = answers_to t x in else_order t a p (first_logic t.rows p 0 (row_count t))

-- what a search finds for what is looked for, at a desk
module _ (t : Tables) (house : ℕ) (d : Desk) (x : Sought) (unfound : ℕ) {f : Option Called} (e : f ≡ called_by t d.active x) where
  found_struck : struck_by (press_as t.rows d.active (ok_or f unfound)) ≡ struck t d.active x
  unfolding struck
  found_struck = ap (λ (g : Option Called). struck_by (press_as t.rows d.active (ok_or g unfound))) e ∙ struck_as_holds t d.active (named t d.active x) unfound

  pub found_within : Within t (struck t d.active x).calls → Within t (called_after t d (ok_or f unfound))
  found_within w = subst (λ (z : Struck). Within t z.calls) (sym found_struck) w

  pub found_step : struck_leaves t house d (ok_or f unfound) ≡ step_leaves (triggered t house d x unfound)
  unfolding triggered
  found_step =
      one_leaves t house d unfound f
      ∙ ap (λ (z : Struck). list_leaves t house (with_active z.active d) z.calls unfound) found_struck
