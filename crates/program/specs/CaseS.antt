-- Case S of document 01: its text, and what it declares.
use Rattle.std.specs.Prelude.{false, List, [], ◌∷◌, ℕ, Some}
use Rattle.ascii.specs.Ascii.{byte, bytes}
use Rattle.tuning.specs.declared.Operator.TheVariants.{Plus}
use Rattle.tuning.specs.declared.Amount.TheVariants.{Relative}
use Rattle.program.specs.Program.{Declaration, ratio, frequency, from, system, anchor, logic, by_letter, Placed, Program}

abbrev pub text : List ℕ
text = bytes "INTERVAL Octave = 2 : 1 Fifth = 3 : 2 TONE a = 440 e = a + Fifth TONESYSTEM Two = 69 [ a, e ] Octave RETUNING Up = @ + 1 [ ] LOGIC L KEY M = Two [ KEY U -> Up ]"

abbrev pub placed : ℕ → Declaration → Placed
placed p d = record { place = p; is = d }

-- Octave, Fifth, a, e, Two, Up and L, numbered from 0, each with the place of its name
abbrev pub program : Program
program =
    placed 9 (ratio 20000 10000)
    ∷ placed 24 (ratio 30000 20000)
    ∷ placed 43 (frequency 4400000)
    ∷ placed 51 (from 2 (record { minus = false; factor = 1; of = 1 } ∷ []))
    ∷ placed 76 (system 69 (Some 2 ∷ Some 3 ∷ []) (record { minus = false; factor = 1; of = 0 } ∷ []))
    ∷ placed 110 (anchor (Relative Plus 1))
    ∷ placed 131 (logic (by_letter (byte "M")) (Some 4) (record { trigger = by_letter (byte "U"); calls = 5 } ∷ []))
    ∷ []
