-- A text with one tone, of 1153 hertz, which lies more than fifty hundredths of a thousandth of a cent from its measure: for document 02, 10/13.
use Rattle.std.specs.Prelude.{false, List, [], ◌∷◌, ℕ, Some}
use Rattle.ascii.specs.Ascii.{byte, bytes}
use Rattle.program.specs.Program.{ratio, frequency, system, logic, by_letter, Program}
use Rattle.program.specs.CaseS.{placed}

abbrev pub text : List ℕ
text = bytes "INTERVAL Octave = 2 : 1 TONE d = 1153 TONESYSTEM One = 69 [ d ] Octave LOGIC L KEY M = One [ ]"

-- Octave, d, One and L, numbered from 0, each with the place of its name
abbrev pub program : Program
program =
    placed 9 (ratio 20000 10000)
    ∷ placed 29 (frequency 11530000)
    ∷ placed 49 (system 69 (Some 1 ∷ []) (record { minus = false; factor = 1; of = 0 } ∷ []))
    ∷ placed 77 (logic (by_letter (byte "M")) (Some 2) [])
    ∷ []
