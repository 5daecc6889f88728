-- A harmony that carries a scale with a silent first position up, for a worked stream of document 02, 2/13 and 5/13.
use Rattle.std.specs.Prelude.{false, List, [], ◌∷◌, ℕ, Some}
use Rattle.ascii.specs.Ascii.{byte, bytes}
use Rattle.tuning.specs.declared.Operator.TheVariants.{Plus}
use Rattle.tuning.specs.declared.Amount.TheVariants.{Relative}
use Rattle.program.specs.Program.{mute, tones, anchor, logic, harmony, by_letter, by_harmony, key_of, Program}
use Rattle.program.specs.CaseS.{placed}

abbrev pub text : List ℕ
text = bytes "HARMONY C = { 0 } RETUNING Mute = [ , ] Up = @ + 12 [ ] LOGIC M KEY M = Mute [ ] L C = Up [ ]"

-- C, Mute, Up, M and L, numbered from 0, each with the place of its name
abbrev pub program : Program
program =
    placed 8 (harmony (key_of 0 false ∷ []))
    ∷ placed 27 (tones (mute ∷ mute ∷ []))
    ∷ placed 40 (anchor (Relative Plus 12))
    ∷ placed 62 (logic (by_letter (byte "M")) (Some 1) [])
    ∷ placed 81 (logic (by_harmony 0) (Some 2) [])
    ∷ []
