-- A harmony that an unplayable key makes up, for a worked stream of document 02, 6/13 and 5/13.
use Rattle.std.specs.Prelude.{false, List, [], ◌∷◌, ℕ, Some}
use Rattle.ascii.specs.Ascii.{byte, bytes}
use Rattle.tuning.specs.declared.Operator.TheVariants.{Plus}
use Rattle.tuning.specs.declared.Amount.TheVariants.{Relative}
use Rattle.program.specs.Program.{ratio, anchor, fresh_period, logic, harmony, by_letter, by_harmony, key_of, Program}
use Rattle.program.specs.CaseS.{placed}

abbrev pub text : List ℕ
text = bytes "INTERVAL O = 2 : 1 HARMONY C = { 0 } RETUNING Ten = [ ] 10 O Up = @ + 1 [ ] LOGIC T KEY T = Ten [ ] L C = Up [ ]"

-- O, C, Ten, Up, T and L, numbered from 0, each with the place of its name
abbrev pub program : Program
program =
    placed 9 (ratio 20000 10000)
    ∷ placed 27 (harmony (key_of 0 false ∷ []))
    ∷ placed 46 (fresh_period (record { minus = false; factor = 10; of = 0 } ∷ []))
    ∷ placed 61 (anchor (Relative Plus 1))
    ∷ placed 82 (logic (by_letter (byte "T")) (Some 2) [])
    ∷ placed 100 (logic (by_harmony 1) (Some 3) [])
    ∷ []
