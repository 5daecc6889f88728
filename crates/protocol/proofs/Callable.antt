-- What valid tables have for a call: all that the call reads, and an action that keeps valid states valid. Assumes nothing.
use mathlib.Core.Path.{◌≡◌, ◌∙◌, subst}
use mathlib.Core.Bool.{true}
use Rattle.std.specs.Prelude.{Option, Some, None, Result, Ok, Err}
use Prim.Native.Nat.{ℕ, ◌<◌}
use native.Mathlib.Omega.{arith}
use lib.ListN.{length, length-map}
use Rattle.tuning.specs.Tuning.{Action}
use Rattle.tuning.specs.Desk.{cents}
use Rattle.tuning.specs.State.{places, heard, coded, valid_state, meant}
use Rattle.tuning.specs.declared.State.{State}
use Rattle.tuning.specs.declared.Retuning.{Retuning as RetuningForm}
use Rattle.tuning.specs.declared.Retuning.TheVariants.{Anchor, Width, Period, Tones}
use Rattle.tuning.specs.declared.ToneChanges.{ToneChanges}
use Rattle.tuning.proofs.Held.{ValidTuning, held_coded, length_coded, valid_held}
use Rattle.tuning.proofs.Laws.{ValidAction, state_valid}
use Rattle.tables.specs.declared.Row.{Row as TableRow}
use Rattle.tables.specs.declared.Row.TheVariants.{Unused, Interval, Tone, System, Retuning, Logic, Harmony, Pattern}
use Rattle.tables.specs.Layout.{Tables, row_count, row_at, tones_from, changes_from, tone_of}
use Rattle.tables.specs.Values as values
use Rattle.tables.proofs.Lists.{part_length}
use Rattle.validity.specs.Valid.{valid_tables}
use Rattle.validity.specs.Inner.{ValidSystem}
use Rattle.validity.proofs.Laws.{ValidRow, row_valid, fields_fit}
use Rattle.protocol.specs.Triggers.{action_by, action_at}
use Rattle.protocol.specs.Inner.{calls_of, tuned, tuned_by, CallableRow, Callable, CallableFound, Within}

-- a valid state of sixty places
abbrev pub Whole : State → Type 0
Whole s = (valid_state s ≡ true) × (length s.tones ≡ places)

module _ (t : Tables) (v : valid_tables t ≡ true) where
  callable_row : (r : TableRow) → ValidRow t r → CallableRow t r
  callable_row Unused h = tt
  callable_row (Interval d) h = tt
  callable_row (Tone p) h = tt
  callable_row (System a P from to) h = record { part = h.part; state = h.state }
  callable_row (Retuning r from to) h = h
  callable_row (Logic c s from to) h = tt
  callable_row (Harmony needed named) h = tt
  callable_row Pattern h = tt

  callable : (k : ℕ) → k < row_count t → Callable t k
  callable k h = record { fields = fields_fit t v k h; row = callable_row (row_at t k) (row_valid t v k h) }

  pub callable_found : (f : Result ℕ ℕ) → Within t (calls_of f) → CallableFound t f
  callable_found (Err number) h = tt
  callable_found (Ok k) h = callable k h.0

  -- ---- the state after a call

  system_valid : (a : ℕ) (from to : ℕ) {P : _} → ValidSystem t a P from to → ValidTuning (values.system a (tones_from t from to) P)
  system_valid a from to {P} h =
      let y = values.system a (tones_from t from to) P in
      let n = length-map (tones_from t from to) heard ∙ part_length tone_of t.sounding t.tones from to h.part.kinds h.part.numbers in
      subst ValidTuning (held_coded y) (valid_held (coded y) h.state (length_coded y (omega (arith, n, h.part.most))))

  retuning_valid : (r : RetuningForm) (l : ToneChanges) → ValidAction (meant r l)
  retuning_valid (Anchor m) l = tt
  retuning_valid (Width m) l = tt
  retuning_valid (Period m) l = tt
  retuning_valid Tones l = tt

  abbrev SomeValid : Option (Action cents) → Type 0
  SomeValid None = Unit
  SomeValid (Some c) = ValidAction c

  action_valid : (r : TableRow) → ValidRow t r → SomeValid (action_by t r)
  action_valid Unused h = tt
  action_valid (Interval d) h = tt
  action_valid (Tone p) h = tt
  action_valid (System a P from to) h = system_valid a.0 from to h
  action_valid (Retuning r from to) h = retuning_valid r (values.listed (changes_from t from to))
  action_valid (Logic c s from to) h = tt
  action_valid (Harmony needed named) h = tt
  action_valid Pattern h = tt

  pub call_valid : (s : State) (k : ℕ) → k < row_count t → Whole s → Whole (tuned_by t s k).state
  call_valid s k h w = go (action_at t k) (action_valid (row_at t k) (row_valid t v k h))
    where
      go : (o : Option (Action cents)) → SomeValid o → Whole (tuned s o).state
      go None a = w
      go (Some c) a = state_valid s w.0 w.1 c a
