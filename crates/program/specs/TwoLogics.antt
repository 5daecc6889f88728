-- A text with two logics, for a second worked stream: the same letter calls one retuning under the one logic and another under the other, an order calls
-- a logic, and a retuning is refused whenever it is called.
use Rattle.std.specs.Prelude.{false, List, [], ◌∷◌, ℕ, Some}
use Rattle.ascii.specs.Ascii.{byte, bytes}
use Rattle.values.specs.Values.{Term}
use Rattle.tuning.specs.declared.Operator.TheVariants.{Plus, Minus}
use Rattle.tuning.specs.declared.Amount.TheVariants.{Absolute, Relative}
use Rattle.program.specs.Program.{Order, ratio, frequency, from, system, anchor, width, logic, by_letter, Program}
use Rattle.program.specs.CaseS.{placed}

abbrev pub text : List ℕ
text = bytes "INTERVAL Octave = 2 : 1 Fifth = 3 : 2 TONE a = 440 e = a + Fifth TONESYSTEM Two = 69 [ a, e ] Octave One = 60 [ a ] Fifth RETUNING Up = @ + 1 [ ] Down = @ - 1 [ ] Wide = [ << 61 >> ] LOGIC L KEY M = Two [ KEY U -> Up KEY D -> Down KEY W -> Wide ] K KEY N = One [ KEY U -> Down KEY V -> L ]"

abbrev pub plus : ℕ → Term
plus k = record { minus = false; factor = 1; of = k }

abbrev pub on : ℕ → ℕ → Order
on letter k = record { trigger = by_letter letter; calls = k }

-- Octave, Fifth, a, e, Two, One, Up, Down, Wide, L and K, numbered from 0, each with the place of its name
abbrev pub program : Program
program =
    placed 9 (ratio 20000 10000)
    ∷ placed 24 (ratio 30000 20000)
    ∷ placed 43 (frequency 4400000)
    ∷ placed 51 (from 2 (plus 1 ∷ []))
    ∷ placed 76 (system 69 (Some 2 ∷ Some 3 ∷ []) (plus 0 ∷ []))
    ∷ placed 101 (system 60 (Some 2 ∷ []) (plus 1 ∷ []))
    ∷ placed 131 (anchor (Relative Plus 1))
    ∷ placed 146 (anchor (Relative Minus 1))
    ∷ placed 163 (width (Absolute 61))
    ∷ placed 189 (logic (by_letter (byte "M")) (Some 4) (on (byte "U") 6 ∷ on (byte "D") 7 ∷ on (byte "W") 8 ∷ []))
    ∷ placed 247 (logic (by_letter (byte "N")) (Some 5) (on (byte "U") 7 ∷ on (byte "V") 9 ∷ []))
    ∷ []
