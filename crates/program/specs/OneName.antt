-- One name for a tone, a retuning and its placeholder, for a worked stream of document 02, 1/13.
use Rattle.std.specs.Prelude.{List, [], ◌∷◌, ℕ, Some}
use Rattle.ascii.specs.Ascii.{byte, bytes}
use Rattle.tuning.specs.declared.Operator.TheVariants.{Minus}
use Rattle.tuning.specs.declared.Amount.TheVariants.{Relative}
use Rattle.program.specs.Program.{frequency, pattern, anchor, logic, by_letter, Program}
use Rattle.program.specs.CaseS.{placed}

abbrev pub text : List ℕ
text = bytes "TONE x = 440 RETUNING x ( X ) = @ - x [ ] LOGIC L KEY L = x ( #A ) [ ]"

-- the tone, the retuning and L, numbered from 0; behind them what L's start calls
abbrev pub program : Program
program =
    placed 5 (frequency 4400000)
    ∷ placed 22 pattern
    ∷ placed 48 (logic (by_letter (byte "L")) (Some 3) [])
    ∷ placed 58 (anchor (Relative Minus 10))
    ∷ []
