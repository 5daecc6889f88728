-- A logic whose start is always refused, for a worked stream of document 02, 3/13.
use Rattle.std.specs.Prelude.{List, [], ◌∷◌, ℕ, Some}
use Rattle.ascii.specs.Ascii.{byte, bytes}
use Rattle.tuning.specs.declared.Operator.TheVariants.{Plus}
use Rattle.tuning.specs.declared.Amount.TheVariants.{Absolute, Relative}
use Rattle.program.specs.Program.{anchor, logic, by_letter, Program}
use Rattle.program.specs.CaseS.{placed}
use Rattle.program.specs.TwoLogics.{on}

abbrev pub text : List ℕ
text = bytes "RETUNING Far = 200 [ ] Up = @ + 1 [ ] LOGIC L KEY L = Far [ KEY U -> Up ]"

-- Far, Up and L, numbered from 0, each with the place of its name
abbrev pub program : Program
program =
    placed 9 (anchor (Absolute 200))
    ∷ placed 23 (anchor (Relative Plus 1))
    ∷ placed 44 (logic (by_letter (byte "L")) (Some 0) (on (byte "U") 1 ∷ []))
    ∷ []
