-- What a row of the tables calls is what its declaration says. In a table a sum of a retuning is capped (`capped` of filling/specs/Tables.antt); here every
-- sum is as the text has it.
use Rattle.std.specs.Prelude.{◌≡◌, true, List, ℕ, length, Option}
use Rattle.tuning.specs.Tuning.{Action}
use Rattle.tuning.specs.Desk.{cents}
use Rattle.tuning.specs.State.{places, valid_state}
use Rattle.program.specs.Program.{Program}
use Rattle.program.specs.Meaning.{declaration_at, value_of}
use Rattle.program.specs.Text.{accepted, read_text}
use Rattle.filling.specs.Tables.{tables_of}
use Rattle.protocol.specs.declared.Desk.{Desk}
use Rattle.protocol.specs.Steps.{by_action, call_on}
use Rattle.exact.specs.Actions.{action_of}

-- what declaration k of a text calls, with the values of its declarations
abbrev pub desk_action : Program → ℕ → Option (Action cents)
desk_action p k = action_of cents (value_of p) (value_of p) (declaration_at p k)

-- so a call on a desk with any right state leaves the desk and has the number that the declaration gives, whatever declaration is called
unfoldable pub CallsOfText : Type 0
CallsOfText =
    (text : List ℕ) (p : Program) → read_text text ≡ accepted p → (house : ℕ) (d : Desk) → valid_state d.tuning ≡ true → length d.tuning.tones ≡ places
    → (k : ℕ) → call_on (tables_of p) house d k ≡ by_action house d (desk_action p k)
