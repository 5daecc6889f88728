-- Widths with placeholders, for a worked stream of document 02, 1/13: a zero that is handed to `/`, at a start and at an order, to `*` and to n itself.
use Rattle.std.specs.Prelude.{List, [], ◌∷◌, ℕ, Some}
use Rattle.ascii.specs.Ascii.{byte, bytes}
use Rattle.tuning.specs.declared.Operator.TheVariants.{Times, Divide}
use Rattle.tuning.specs.declared.Amount.TheVariants.{Absolute, Relative}
use Rattle.program.specs.Program.{pattern, width, logic, by_letter, Program}
use Rattle.program.specs.CaseS.{placed}
use Rattle.program.specs.TwoLogics.{on}

abbrev pub text : List ℕ
text = bytes "RETUNING W ( a, b ) = [ << @ / b >> ] T ( a ) = [ << @ * a >> ] S ( a ) = [ << a >> ] LOGIC L KEY L = W ( 7, 0 ) [ KEY A -> W ( 0, 2 ) KEY B -> T ( 3 ) KEY C -> S ( 0 ) KEY D -> W ( 5, 0 ) ]"

-- W, T, S and L, numbered from 0; behind them what L's start, A, B, C and D call. The first number that W is given is of no use to it
abbrev pub program : Program
program =
    placed 9 pattern
    ∷ placed 38 pattern
    ∷ placed 64 pattern
    ∷ placed 92 (logic (by_letter (byte "L")) (Some 4) (on (byte "A") 5 ∷ on (byte "B") 6 ∷ on (byte "C") 7 ∷ on (byte "D") 8 ∷ []))
    ∷ placed 102 (width (Relative Divide 0))
    ∷ placed 124 (width (Relative Divide 2))
    ∷ placed 144 (width (Relative Times 3))
    ∷ placed 161 (width (Absolute 0))
    ∷ placed 178 (width (Relative Divide 0))
    ∷ []
