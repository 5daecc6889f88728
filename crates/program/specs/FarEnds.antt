-- A period of nine octaves, and an anchor and a width whose other ends no instrument has, for a worked stream of document 02, 6/13.
use Rattle.std.specs.Prelude.{false, List, [], ◌∷◌, ℕ, Some}
use Rattle.ascii.specs.Ascii.{byte, bytes}
use Rattle.tuning.specs.declared.Operator.TheVariants.{Plus}
use Rattle.tuning.specs.declared.Amount.TheVariants.{Absolute, Relative}
use Rattle.program.specs.Program.{ratio, anchor, width, fresh_period, logic, by_letter, Program}
use Rattle.program.specs.CaseS.{placed}
use Rattle.program.specs.TwoLogics.{on}

abbrev pub text : List ℕ
text = bytes "INTERVAL O = 2 : 1 RETUNING Nine = [ ] 9 O W = [ << 13 >> ] A = @ + 13 [ ] LOGIC L KEY L = Nine [ KEY W -> W KEY A -> A ]"

-- O, Nine, W, A and L, numbered from 0, each with the place of its name
abbrev pub program : Program
program =
    placed 9 (ratio 20000 10000)
    ∷ placed 28 (fresh_period (record { minus = false; factor = 9; of = 0 } ∷ []))
    ∷ placed 43 (width (Absolute 13))
    ∷ placed 60 (anchor (Relative Plus 13))
    ∷ placed 81 (logic (by_letter (byte "L")) (Some 1) (on (byte "W") 2 ∷ on (byte "A") 3 ∷ []))
    ∷ []
