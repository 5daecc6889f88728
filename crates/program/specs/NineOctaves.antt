-- A period of nine octaves, a muted first position, and a width that would double both, for a worked stream of document 02, 2/13.
use Rattle.std.specs.Prelude.{false, List, [], ◌∷◌, ℕ, Some}
use Rattle.ascii.specs.Ascii.{byte, bytes}
use Rattle.tuning.specs.declared.Operator.TheVariants.{Times}
use Rattle.tuning.specs.declared.Amount.TheVariants.{Relative}
use Rattle.program.specs.Program.{mute, ratio, fresh_period, tones, width, logic, by_letter, Program}
use Rattle.program.specs.CaseS.{placed}
use Rattle.program.specs.TwoLogics.{on}

abbrev pub text : List ℕ
text = bytes "INTERVAL T = 2 : 1 RETUNING P = [ ] 9 T M = [ , ] W = [ << @ * 2 >> ] LOGIC L KEY L = P [ KEY A -> M KEY B -> W ]"

-- T, P, M, W and L, numbered from 0, each with the place of its name
abbrev pub program : Program
program =
    placed 9 (ratio 20000 10000)
    ∷ placed 28 (fresh_period (record { minus = false; factor = 9; of = 0 } ∷ []))
    ∷ placed 40 (tones (mute ∷ mute ∷ []))
    ∷ placed 50 (width (Relative Times 2))
    ∷ placed 76 (logic (by_letter (byte "L")) (Some 1) (on (byte "A") 2 ∷ on (byte "B") 3 ∷ []))
    ∷ []
