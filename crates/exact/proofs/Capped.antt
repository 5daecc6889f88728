-- The tables hold a sum of terms that is past twice the range of tones as 1 past it. On a valid tuning the call of a declaration by the tables is the call with
-- the sums themselves.
use mathlib.Core.Path.{◌≡◌, refl, ap, ap₂}
use mathlib.Core.List.{List, [], ◌∷◌, map}
use Rattle.std.specs.Prelude.{Option, Some, None}
use Prim.Native.Nat.{ℕ}
use lib.IntN.{ℤ, ◌+ℤ◌, *ℤ_comm}
use Rattle.values.specs.Values.{Term, weight}
use Rattle.tuning.specs.Tuning.{Tuning, Action, system}
use Rattle.tuning.specs.Desk.{cents, called}
use Rattle.tuning.proofs.Held.{ValidTuning}
use Rattle.tuning.proofs.Capped.{Alike, capped_alike, PositionAlike, both_mute, both_move, both_set, PositionsAlike, no_position, position_and, fresh_alike, onward_alike, list_alike}
use Rattle.program.specs.Program as text
use Rattle.program.specs.Program.{Declaration, Position}
use Rattle.tuning.specs.Capped.{capped}
use Rattle.filling.specs.Tables.{sum_of, sum}
use Rattle.exact.specs.Actions.{total, system_position_of, position_of, action_of}
use Rattle.exact.proofs.Decoded.{capped_position, capped_of}

-- ---- the actions of declarations

-- the desk's sum of terms is the tables'
pub sum_total : (value : ℕ → ℤ) (ts : List Term) → sum_of value ts ≡ total cents value value ts
sum_total value [] = refl
sum_total value (t ∷ ts) = ap₂ (λ (x y : ℤ). x +ℤ y) (*ℤ_comm (value t.of) (weight t)) (sum_total value ts)

module _ (value : ℕ → ℤ) where
  sum_alike : (ts : List Term) → Alike (sum value ts) (total cents value value ts)
  sum_alike ts = rw (← (sum_total value ts)) (capped_alike (sum_of value ts))

  set_alike : (k : ℕ) (ts : List Term) → Alike (capped (value k +ℤ sum_of value ts)) (value k +ℤ total cents value value ts)
  set_alike k ts = rw (← (sum_total value ts)) (capped_alike (value k +ℤ sum_of value ts))

  position_alike : (x : Position) → PositionAlike (capped_position value x) (position_of cents value value x)
  position_alike text.mute = both_mute
  position_alike (text.kept ts) = both_move (sum_alike ts)
  position_alike (text.named k ts) = both_set (set_alike k ts)

  positions_alike : (l : List Position) → PositionsAlike (map (capped_position value) l) (map (position_of cents value value) l)
  positions_alike [] = no_position
  positions_alike (x ∷ l) = position_and (position_alike x) (positions_alike l)

-- no call on either side, or the same call
pub data SameCall (s : Tuning cents) : Option (Action cents) → Option (Action cents) → Type 0 where
  no_call_holds : SameCall s None None
  same_call : {c d : Action cents} → called s c ≡ called s d → SameCall s (Some c) (Some d)

-- a tone system's period is the sum of its terms
abbrev pub PeriodIs : (ℕ → ℤ) → ℕ → Declaration → Type 0
PeriodIs value i d = (a : ℕ) (l : List (Option ℕ)) (ts : List Term) → d ≡ text.system a l ts → value i ≡ total cents value value ts

pub capped_same : (value : ℕ → ℤ) (s : Tuning cents) → ValidTuning s → (i : ℕ) (d : Declaration) → PeriodIs value i d
    → SameCall s (capped_of value i d) (action_of cents value value d)
capped_same value s v i (text.ratio p q) e = no_call_holds
capped_same value s v i (text.root a b) e = no_call_holds
capped_same value s v i (text.sequence ts) e = no_call_holds
capped_same value s v i (text.frequency f) e = no_call_holds
capped_same value s v i (text.from k ts) e = no_call_holds
capped_same value s v i (text.system a l ts) e =
    same_call (ap (λ (P : ℤ). called s (system (record { anchor = a; tones = map (system_position_of cents value value) l; period = P }))) (e a l ts refl))
capped_same value s v i (text.anchor m) e = same_call refl
capped_same value s v i (text.width m) e = same_call refl
capped_same value s v i (text.fresh_period ts) e = same_call (fresh_alike s v (sum_alike value ts))
capped_same value s v i (text.onward_period ts) e = same_call (onward_alike s v (sum_alike value ts))
capped_same value s v i (text.tones l) e = same_call (list_alike s v (positions_alike value l))
capped_same value s v i (text.logic c st os) e = no_call_holds
capped_same value s v i text.pattern e = no_call_holds
capped_same value s v i (text.harmony ks) e = no_call_holds
