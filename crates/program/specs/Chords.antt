-- A text with a harmony as the trigger of a logic, for a worked stream of document 02, 5/13.
use Rattle.std.specs.Prelude.{true, false, List, [], ◌∷◌, ℕ, Some}
use Rattle.ascii.specs.Ascii.{bytes}
use Rattle.tuning.specs.declared.Operator.TheVariants.{Plus}
use Rattle.tuning.specs.declared.Amount.TheVariants.{Relative}
use Rattle.program.specs.Program.{anchor, logic, harmony, by_harmony, key_of, Program}
use Rattle.program.specs.CaseS.{placed}

abbrev pub text : List ℕ
text = bytes "HARMONY C = { 0, 4, *7 } RETUNING Up = @ + 7 [ ] LOGIC L C = Up [ ]"

-- C, Up and L, numbered from 0, each with the place of its name
abbrev pub program : Program
program =
    placed 8 (harmony (key_of 0 false ∷ key_of 4 false ∷ key_of 7 true ∷ []))
    ∷ placed 34 (anchor (Relative Plus 7))
    ∷ placed 55 (logic (by_harmony 0) (Some 1) [])
    ∷ []
