-- Tones at the ends of what an instrument has, and one past each, for a worked stream of document 02, 6/13; m measures 1.
use Rattle.std.specs.Prelude.{true, false, List, [], ◌∷◌, ℕ, Some}
use Rattle.ascii.specs.Ascii.{byte, bytes}
use Rattle.values.specs.Values.{Term}
use Rattle.program.specs.Program.{kept, ratio, root, tones, logic, by_letter, Program}
use Rattle.program.specs.CaseS.{placed}

abbrev pub text : List ℕ
text = bytes "INTERVAL h = 12 ROOT 2 m = 429496 : 429495.8759 RETUNING Z = [ @ - 60 h, @ - 61 h - m, @ + 66 h - m, @ + 65 h ] LOGIC L KEY L = Z [ ]"

-- n h, - n h and - m
abbrev pub up : ℕ → Term
up n = record { minus = false; factor = n; of = 0 }

abbrev pub down : ℕ → Term
down n = record { minus = true; factor = n; of = 0 }

abbrev pub less : Term
less = record { minus = true; factor = 1; of = 1 }

-- h, m, Z and L, numbered from 0, each with the place of its name
abbrev pub program : Program
program =
    placed 9 (root 12 20000)
    ∷ placed 23 (ratio 429496_0000 429495_8759)
    ∷ placed 57 (tones (kept (down 60 ∷ []) ∷ kept (down 61 ∷ less ∷ []) ∷ kept (up 66 ∷ less ∷ []) ∷ kept (up 65 ∷ []) ∷ []))
    ∷ placed 118 (logic (by_letter (byte "L")) (Some 2) [])
    ∷ []
