-- A pentatonic scale with a silent first position, for a worked stream of document 02, 2/13: carried up, doubled, and neither.
use Rattle.std.specs.Prelude.{List, [], ◌∷◌, ℕ, Some}
use Rattle.ascii.specs.Ascii.{byte, bytes}
use Rattle.tuning.specs.declared.Operator.TheVariants.{Plus, Minus, Times}
use Rattle.tuning.specs.declared.Amount.TheVariants.{Kept, Absolute, Relative}
use Rattle.program.specs.Program.{Position, mute, kept, ratio, tones, anchor, width, logic, by_letter, Program}
use Rattle.program.specs.CaseS.{placed}
use Rattle.program.specs.TwoLogics.{on}

abbrev pub text : List ℕ
text = bytes "INTERVAL O = 2 : 1 RETUNING Pent = [ , @, , @, , , @, , @, , @, ] U12 = @ + 12 [ ] U2 = @ + 2 [ ] U1 = @ + 1 [ ] D12 = @ - 12 [ ] W24 = [ << @ * 2 >> ] W = [ << @ >> ] W13 = [ << 13 >> ] K = @ [ ] LOGIC L KEY L = Pent [ KEY A -> U12 KEY B -> U1 KEY C -> D12 KEY D -> W24 KEY E -> W KEY F -> W13 KEY G -> K KEY H -> U2 ]"

-- `@` alone
abbrev pub same : Position
same = kept []

-- O, Pent, U12, U2, U1, D12, W24, W, W13, K and L, numbered from 0, each with the place of its name
abbrev pub program : Program
program =
    placed 9 (ratio 20000 10000)
    ∷ placed 28 (tones (mute ∷ same ∷ mute ∷ same ∷ mute ∷ mute ∷ same ∷ mute ∷ same ∷ mute ∷ same ∷ mute ∷ []))
    ∷ placed 66 (anchor (Relative Plus 12))
    ∷ placed 83 (anchor (Relative Plus 2))
    ∷ placed 98 (anchor (Relative Plus 1))
    ∷ placed 113 (anchor (Relative Minus 12))
    ∷ placed 130 (width (Relative Times 2))
    ∷ placed 152 (width Kept)
    ∷ placed 168 (width (Absolute 13))
    ∷ placed 187 (anchor Kept)
    ∷ placed 203 (logic (by_letter (byte "L")) (Some 1)
    (on (byte "A") 2 ∷ on (byte "B") 4 ∷ on (byte "C") 5 ∷ on (byte "D") 6 ∷ on (byte "E") 7 ∷ on (byte "F") 8 ∷ on (byte "G") 9 ∷ on (byte "H") 3 ∷ []))
    ∷ []
