-- A period of ten octaves, and a muted first position, for a worked stream of document 02, 6/13.
use Rattle.std.specs.Prelude.{false, List, [], ◌∷◌, ℕ, Some}
use Rattle.ascii.specs.Ascii.{byte, bytes}
use Rattle.program.specs.Program.{mute, ratio, fresh_period, tones, logic, by_letter, Program}
use Rattle.program.specs.CaseS.{placed}
use Rattle.program.specs.TwoLogics.{on}

abbrev pub text : List ℕ
text = bytes "INTERVAL O = 2 : 1 RETUNING Ten = [ ] 10 O M = [ ,] LOGIC L KEY L = Ten [ KEY A -> M ]"

-- O, Ten, M and L, numbered from 0, each with the place of its name
abbrev pub program : Program
program =
    placed 9 (ratio 20000 10000)
    ∷ placed 28 (fresh_period (record { minus = false; factor = 10; of = 0 } ∷ []))
    ∷ placed 43 (tones (mute ∷ mute ∷ []))
    ∷ placed 58 (logic (by_letter (byte "L")) (Some 1) (on (byte "A") 2 ∷ []))
    ∷ []
