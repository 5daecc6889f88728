-- Some harmonies in some chords.
use Rattle.std.specs.Prelude.{true, false, List, [], ◌∷◌, ℕ}
use Rattle.cents.specs.Sums.{Row, ◌gives◌}
use Rattle.sets.specs.Sets.{added}
use Rattle.harmonies.specs.declared.Harmony.{Harmony}
use Rattle.harmonies.specs.Harmonies.{matches, HarmonyKey, harmony_of}

-- a number, and one with a star before it
abbrev pub plain : ℕ → HarmonyKey
plain n = record { key = n; starred = false }

abbrev pub star : ℕ → HarmonyKey
star n = record { key = n; starred = true }

-- the chord of these positions
abbrev pub chord : List ℕ → ℕ
chord [] = 0
chord (r ∷ rs) = added (chord rs) r

-- `HARMONY C = { 0, 4, *7 }`, one with stars only, and { *12, 0 }
abbrev pub harmony_c : Harmony
harmony_c = harmony_of (plain 0 ∷ plain 4 ∷ star 7 ∷ [])

abbrev pub stars_only : Harmony
stars_only = harmony_of (star 0 ∷ star 4 ∷ [])

abbrev pub wide : Harmony
wide = harmony_of (star 12 ∷ plain 0 ∷ [])

unfoldable pub cases : List Row
cases =
    (matches (chord (0 ∷ 4 ∷ [])) 12 harmony_c gives true)
    ∷ (matches (chord (0 ∷ 4 ∷ 7 ∷ [])) 12 harmony_c gives true)
    ∷ (matches (chord (0 ∷ [])) 12 harmony_c gives false)
    ∷ (matches (chord (0 ∷ 4 ∷ 5 ∷ [])) 12 harmony_c gives false)
    ∷ (matches (chord []) 12 harmony_c gives false)
    ∷ (matches (chord (0 ∷ 4 ∷ [])) 7 harmony_c gives false)
    ∷ (matches (chord []) 12 stars_only gives true)
    ∷ (matches (chord (0 ∷ [])) 12 wide gives false)
    ∷ (matches (chord (0 ∷ [])) 13 wide gives true)
    ∷ []
