-- The handbook's `Anker_neu ( x ) = x [ ]`, for a worked stream of document 02, 1/13: four buttons of two retunings.
use Rattle.std.specs.Prelude.{List, [], ◌∷◌, ℕ, Some}
use Rattle.ascii.specs.Ascii.{byte, bytes}
use Rattle.tuning.specs.declared.Operator.TheVariants.{Plus}
use Rattle.tuning.specs.declared.Amount.TheVariants.{Absolute, Relative}
use Rattle.program.specs.Program.{pattern, anchor, logic, by_letter, Program}
use Rattle.program.specs.CaseS.{placed}
use Rattle.program.specs.TwoLogics.{on}

abbrev pub text : List ℕ
text = bytes "RETUNING Anker_neu ( x ) = x [ ] Up ( n ) = @ + n [ ] LOGIC L KEY L = Anker_neu ( 62 ) [ KEY A -> Up ( 3 ) KEY B -> Up ( 9999 ) KEY C -> Anker_neu ( 60 ) ]"

-- Anker_neu, Up and L, numbered from 0, each with the place of its name; behind them what L's start, A, B and C call, each with the place of the called name
abbrev pub program : Program
program =
    placed 9 pattern
    ∷ placed 33 pattern
    ∷ placed 60 (logic (by_letter (byte "L")) (Some 3) (on (byte "A") 4 ∷ on (byte "B") 5 ∷ on (byte "C") 6 ∷ []))
    ∷ placed 70 (anchor (Absolute 62))
    ∷ placed 98 (anchor (Relative Plus 3))
    ∷ placed 116 (anchor (Relative Plus 9999))
    ∷ placed 137 (anchor (Absolute 60))
    ∷ []
