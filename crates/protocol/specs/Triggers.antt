-- What a trigger calls. Document 01, "Frames": "Letter: logics are tried in declared order; the first with this letter becomes active and its start
-- is called, and the search ends. Else the active logic's orders in declared order, the first with it being called; a called logic becomes active,
-- its start called." Document 02, 5/13: "A harmony matches when exactly its numbers are held, starred ones apart"; "triggers are tried in declared order,
-- logics first".
use Rattle.std.specs.Prelude.{Bool, true, false, ◌&&◌, List, [], ◌∷◌, ℕ, zero, suc, ◌-◌, eqb, leb, ℤ, Option, Some, None}
use Rattle.std.proofs.Math.Seq.{slice}
use Rattle.tuning.specs.Tuning.{Action, system}
use Rattle.tuning.specs.Desk.{cents}
use Rattle.tuning.specs.State.{meant}
use Rattle.tables.specs.declared.Row.{Row}
use Rattle.tables.specs.declared.Row.TheVariants.{Unused, Interval, Tone, System, Retuning, Logic, Harmony, Pattern}
use Rattle.tables.specs.Layout.{Tables, row_count, row_of, read_at, row_at, AsLogic, no_logic_holds, a_logic, as_logic, AsHarmony, no_harmony, a_harmony, as_harmony, harmony_base, tones_from, changes_from}
use Rattle.tables.specs.Values as values
use Rattle.tables.specs.Values.{listed}
use Rattle.harmonies.specs.Harmonies.{matches}
use Rattle.protocol.specs.declared.Chord.{Chord}

-- ---- what is looked for among triggers: a trigger itself, or any harmony that matches the chord of the held keys

pub data Sought : Type 0 where
  itself : ℕ → Sought
  matching : Chord → Sought

-- a row is a harmony that matches
abbrev pub matches_as : Chord → AsHarmony → Bool
matches_as x no_harmony = false
matches_as x (a_harmony needed named) = matches x.positions x.width (record { needed = needed; named = named })

-- a trigger is one that is looked for
abbrev pub answers_to : Tables → Sought → ℕ → Bool
answers_to t (itself c) code = eqb code c
answers_to t (matching x) code = leb harmony_base code && matches_as x (as_harmony (row_at t (code - harmony_base)))

-- ---- what a row calls

-- the call of a tone system or retuning; the other rows call nothing
abbrev pub action_by : Tables → Row → Option (Action cents)
action_by t Unused = None
action_by t (Interval d) = None
action_by t (Tone p) = None
action_by t (System a P from to) = Some (system (values.system a.0 (tones_from t from to) P.0))
action_by t (Retuning r from to) = Some (meant r (listed (changes_from t from to)))
action_by t (Logic c s from to) = None
action_by t (Harmony needed named) = None
action_by t Pattern = None

abbrev pub action_at : Tables → ℕ → Option (Action cents)
action_at t k = action_by t (row_at t k)

-- ---- logics and their orders, by a test of their triggers

-- a logic whose trigger passes the test
abbrev pub passes : (ℕ → Bool) → AsLogic → Bool
passes p no_logic_holds = false
passes p (a_logic c s from to) = p c

-- the first of n rows from row i on that is a logic whose trigger passes the test
unfoldable pub first_logic : List ℤ → (ℕ → Bool) → ℕ → ℕ → Option ℕ
first_logic rows p i zero = None
first_logic rows p i (suc n) = elim (passes p (as_logic (row_of (read_at rows i)))) [ true ↦ Some i | false ↦ first_logic rows p (suc i) n ]

-- the declaration that the first order whose trigger passes calls
unfoldable pub first_order : (ℕ → Bool) → List ℕ → List ℕ → Option ℕ
first_order p [] calls = None
first_order p (c ∷ cs) [] = None
first_order p (c ∷ cs) (k ∷ ks) = elim (p c) [ true ↦ Some k | false ↦ first_order p cs ks ]

abbrev pub order_in : Tables → (ℕ → Bool) → AsLogic → Option ℕ
order_in t p no_logic_holds = None
order_in t p (a_logic c s from to) = first_order p (slice from to t.triggers) (slice from to t.calls)

abbrev pub order_by : Tables → (ℕ → Bool) → Row → Option ℕ
order_by t p r = order_in t p (as_logic r)

abbrev pub order_of : Tables → (ℕ → Bool) → Option ℕ → Option ℕ
order_of t p None = None
order_of t p (Some i) = order_by t p (row_at t i)

-- a logic whose trigger passes, else an order of the active logic
abbrev pub else_order : Tables → Option ℕ → (ℕ → Bool) → Option ℕ → Option ℕ
else_order t a p None = order_of t p a
else_order t a p (Some i) = Some i

-- ---- what is found: the logic that is active then, and the declarations that are called, in order; none where nothing is found

pub record Struck : Type 0 where
  pub active : Option ℕ
  pub calls : List ℕ

-- "start is a tone system or retuning name or nothing": 0, or 1 more than the declaration's number. "0 with no start": the logic itself is called,
-- which does nothing and has the number 0
abbrev pub start_calls : ℕ → ℕ → List ℕ
start_calls k zero = k ∷ []
start_calls k (suc j) = j ∷ []

-- a called declaration: "a called logic becomes active, its start called"; a tone system or retuning leaves the active logic
abbrev pub calls_as : Option ℕ → ℕ → AsLogic → Struck
calls_as a k no_logic_holds = record { active = a; calls = k ∷ [] }
calls_as a k (a_logic c s from to) = record { active = Some k; calls = start_calls k s }

abbrev pub called : Tables → Option ℕ → Option ℕ → Struck
called t a None = record { active = a; calls = [] }
called t a (Some k) = calls_as a k (as_logic (row_at t k))

unfoldable pub struck : Tables → Option ℕ → Sought → Struck
struck t a x = let p = answers_to t x in called t a (else_order t a p (first_logic t.rows p 0 (row_count t)))
