-- The call of a declaration, by its row; what the tables hold of it; and a step by its call. Assumes nothing.
use mathlib.Core.Path.{◌≡◌, refl, ap, sym, ◌∙◌, subst}
use mathlib.Core.List.{List, [], ◌∷◌}
use Rattle.std.specs.Prelude.{Option, Some, None, Result, Ok, Err}
use Prim.Native.Nat.{ℕ}
use types.Run.{OneOf, miss}
use denote.Enum.Declared.{tag_of}
use Rattle.status.specs.Status.{done}
use Rattle.tuning.specs.Tuning.{Action}
use Rattle.tuning.specs.Desk.{cents}
use Rattle.tuning.specs.declared.State.{State}
use Rattle.tuning.specs.declared.Reply.{Reply}
use Rattle.tables.specs.declared.Row.{Row as TableRow}
use Rattle.tables.specs.declared.Row.TheVariants.{Unused, Interval, Tone, System, Retuning, Logic, Harmony, Pattern}
use Rattle.tables.specs.Layout.{Tables, row_at}
use Rattle.tables.specs.contracts.Row as variants
use Rattle.protocol.specs.declared.Desk.{Desk}
use Rattle.protocol.specs.declared.Stepped.{Stepped}
use Rattle.protocol.specs.Triggers.{action_by, action_at}
use Rattle.protocol.specs.Steps.{with_tuning, by_action, call_on}
use Rattle.protocol.specs.Inner.{tuned, tuned_by, found_tuned, calls_leave, CallableRow, Callable}

-- the variants of a row that call nothing
abbrev pub uncalled : List ℕ
uncalled = 0 ∷ 1 ∷ 2 ∷ 5 ∷ 6 ∷ 7 ∷ []

module _ (t : Tables) (s : State) where
  pub call_none : (r : TableRow) → OneOf uncalled (tag_of variants.the_type r)
      → ◌≡◌ {A = Reply} (record { state = s; number = done }) (tuned s (action_by t r))
  call_none Unused h = refl
  call_none (Interval d) h = refl
  call_none (Tone p) h = refl
  call_none (System a P from to) h = absurd (miss uncalled 3 tt h)
  call_none (Retuning r from to) h = absurd (miss uncalled 4 tt h)
  call_none (Logic c n from to) h = refl
  call_none (Harmony needed named) h = refl
  call_none Pattern h = refl

  pub call_row : (k : ℕ) {r : TableRow} → r ≡ row_at t k → tuned s (action_by t r) ≡ tuned_by t s k
  call_row k e = ap (λ (x : TableRow). tuned s (action_by t x)) e

-- the row that was read has what a call needs
pub row_callable : {t : Tables} {k : ℕ} → Callable t k → {r q : TableRow} → r ≡ row_at t k → r ≡ q → CallableRow t q
row_callable {t} h e f = subst (CallableRow t) (sym e ∙ f) h.row

-- a call changes the desk's tuning alone
pub found_leaves : (t : Tables) (house : ℕ) (d : Desk) (f : Result ℕ ℕ) {q : Reply} → q ≡ found_tuned t d.tuning f
    → ◌≡◌ {A = Stepped} (record { desk = with_tuning q.state d; number = q.number }) (calls_leave t house d f)
unfolding call_on
found_leaves t house d f e = ap leaves e ∙ go f
  where
    leaves : Reply → Stepped
    leaves r = record { desk = with_tuning r.state d; number = r.number }

    acted : (o : Option (Action cents)) → let r = by_action house d o in leaves (tuned d.tuning o) ≡ record { desk = r.desk; number = r.number }
    acted None = refl
    acted (Some c) = refl

    go : (f : Result ℕ ℕ) → leaves (found_tuned t d.tuning f) ≡ calls_leave t house d f
    go (Err number) = refl
    go (Ok k) = acted (action_at t k)
