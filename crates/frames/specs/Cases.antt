-- Document 01, "Case S, whole": the frames of its lines.
use Prim.Native.String.{String}
use Rattle.std.specs.Prelude.{◌≡◌, List, [], ◌∷◌, map, replicate}
use Rattle.ascii.specs.Ascii.{byte, bytes}
use Rattle.frames.specs.Frames.{first_house, second_house, Frame, bad, letter, key, dump, move, letter_row, frame_of}
use Rattle.frames.specs.declared.Way.TheVariants.{Down, Up}

-- the column "In"
abbrev pub case_lines : List String
case_lines = "01014D" ∷ "010245" ∷ "010155" ∷ "020155" ∷ "020247" ∷ "010158" ∷ "0201" ∷ []

abbrev pub case_frames : List Frame
case_frames =
    letter first_house (byte "M")
    ∷ key first_house 0x45
    ∷ letter first_house (byte "U")
    ∷ letter second_house (byte "U")
    ∷ key second_house 0x47
    ∷ letter first_house (byte "X")
    ∷ bad
    ∷ []

-- each line is its frame
unfoldable pub CaseS : Type 0
CaseS = map (λ s. frame_of (bytes s)) case_lines ≡ case_frames

-- a dump, a key that goes down and one that goes up; and bad frames: an empty line, a digit too many, two digits too many, a small letter, a house, a
-- kind, a letter, a key, a dump's last byte and the two keys that move out of range
abbrev pub other_lines : List String
other_lines =
    "010300" ∷ "01053C" ∷ "02067F" ∷ "" ∷ "01014D0" ∷ "01014D00" ∷ "01014d" ∷ "03014D" ∷ "01044D" ∷ "01015B" ∷ "010280" ∷ "010301" ∷ "010580" ∷ "0206FF" ∷ []

unfoldable pub Others : Type 0
Others = map (λ s. frame_of (bytes s)) other_lines ≡ dump first_house ∷ move Down first_house 0x3C ∷ move Up second_house 0x7F ∷ replicate 11 bad

-- document 02, 3/13: rows of one letter and of 32; and bad ones: no count, count 0, 33 letters, a letter too few, one too many, a digit too many, bytes
-- just below and above the letters, a small digit, a house
abbrev pub row_lines : List String
row_lines =
    "01040155"
    ∷ "0204205555555555555555555555555555555555555555555555555555555555555555"
    ∷ "0104"
    ∷ "010400"
    ∷ "010421555555555555555555555555555555555555555555555555555555555555555555"
    ∷ "01040255"
    ∷ "0104025555AA"
    ∷ "010402555"
    ∷ "0104025540"
    ∷ "010402555B"
    ∷ "010402554d"
    ∷ "03040155"
    ∷ []

unfoldable pub Rows : Type 0
Rows = map (λ s. frame_of (bytes s)) row_lines ≡ letter_row first_house (bytes "U") ∷ letter_row second_house (replicate 32 (byte "U")) ∷ replicate 10 bad
