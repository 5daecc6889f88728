-- A call over the tables of an accepted text is the call of its declaration. Assumes nothing.
use mathlib.Core.Path.{◌≡◌, refl, ap}
use Rattle.std.specs.Prelude.{Option, None}
use Prim.Native.Nat.{ℕ, ◌≤◌}
use native.Mathlib.Decide.{dec_lt}
use native.Mathlib.Omega.{arith}
use lib.ListN.{length, get_or-eq_default}
use Rattle.tuning.specs.Tuning.{Action}
use Rattle.tuning.specs.Desk.{cents, Called}
use Rattle.tuning.specs.State.{held, coded}
use Rattle.tuning.proofs.Held.{valid_held}
use Rattle.program.specs.Program.{Placed, Program}
use Rattle.program.specs.Meaning.{nothing, value_of}
use Rattle.program.proofs.AcceptedText.{steps}
use Rattle.program.proofs.AllowedText.{accepted_allowed}
use Rattle.filling.specs.Tables.{tables_of}
use Rattle.mutabor.proofs.Decoded.{past_decoded}
use Rattle.protocol.specs.declared.Desk.{Desk}
use Rattle.protocol.specs.Triggers.{action_at}
use Rattle.protocol.specs.Steps.{with_tuning, by_action, call_on}
use Rattle.exact.specs.Actions.{action_of}
use Rattle.exact.specs.TextCalls.{desk_action, CallsOfText}
use Rattle.exact.proofs.Capped.{SameCall, no_call_holds, same_call}
use Rattle.exact.proofs.Matched.{row_calls}

same_reply : (house : ℕ) (d : Desk) {x y : Option (Action cents)} → SameCall (held d.tuning) x y → by_action house d x ≡ by_action house d y
same_reply house d no_call_holds = refl
same_reply house d (same_call e) = ap (λ (r : Called). record { desk = with_tuning (coded r.state) d; number = r.number }) e

-- past the last declaration nothing is called
past_calls : (p : Program) (house : ℕ) (d : Desk) (k : ℕ) → length p ≤ k → by_action house d (action_at (tables_of p) k) ≡ by_action house d (desk_action p k)
past_calls p house d k h =
    let none_in_text : desk_action p k ≡ None = ap (λ (d : Placed). action_of cents (value_of p) (value_of p) d.is) (get_or-eq_default p nothing h) in
    rw (past_decoded p k h, none_in_text)

pub calls_of_text : CallsOfText
unfolding CallsOfText call_on
calls_of_text text p e house d v n k =
    elim (dec_lt k (length p)) [
      | yes h ↦ same_reply house d (row_calls p (accepted_allowed text p e) (steps text p e).values k h (held d.tuning) (valid_held d.tuning v n))
      | no h ↦ past_calls p house d k (omega arith)
    ]
