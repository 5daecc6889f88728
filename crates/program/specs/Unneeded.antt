-- Placeholders of a period and of a tones retuning, for a worked stream of document 02, 1/13: they are of no use there, but calls give their numbers.
use Rattle.std.specs.Prelude.{false, List, [], ◌∷◌, ℕ, Some}
use Rattle.ascii.specs.Ascii.{byte, bytes}
use Rattle.values.specs.Values.{Term}
use Rattle.program.specs.Program.{mute, kept, ratio, fresh_period, tones, logic, by_letter, Program}
use Rattle.program.specs.CaseS.{placed}
use Rattle.program.specs.TwoLogics.{on}

-- O, once
abbrev pub octave : Term
octave = record { minus = false; factor = 1; of = 0 }

abbrev pub text : List ℕ
text = bytes "INTERVAL O = 2 : 1 RETUNING P ( a ) = [ ] O + O T ( a, b, c, d ) = [ , @ + O ] LOGIC L KEY L = P ( 0 ) [ KEY A -> T ( 1, 2, 3, 4 ) ]"

-- O, P, T and L, numbered from 0: nothing is filled in
abbrev pub program : Program
program =
    placed 9 (ratio 20000 10000)
    ∷ placed 28 (fresh_period (octave ∷ octave ∷ []))
    ∷ placed 48 (tones (mute ∷ kept (octave ∷ []) ∷ []))
    ∷ placed 85 (logic (by_letter (byte "L")) (Some 1) (on (byte "A") 2 ∷ []))
    ∷ []
