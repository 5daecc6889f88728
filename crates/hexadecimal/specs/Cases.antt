-- Document 01, "Case S, whole": answers as the digits of their bytes; and "muted is 80000000".
use Rattle.std.specs.Prelude.{ℕ, ◌≡◌, List, [], ◌∷◌, map, pos, negsuc}
use Prim.Native.String.{String}
use Rattle.ascii.specs.Ascii.{byte, bytes}
use Rattle.hexadecimal.specs.Numbers.{twos, four_of}
use Rattle.hexadecimal.specs.Lines.{line_of}

-- house, kind, letter or key, number; then anchor, width and period, or the pitch; -2^31 is muted
abbrev pub case_answers : List (List ℕ)
case_answers =
    (0x01 ∷ 0x01 ∷ byte "M" ∷ 0 ∷ 69 ∷ 2 ∷ four_of (twos (pos 1200000)))
    ∷ (0x01 ∷ 0x02 ∷ 0x45 ∷ 0 ∷ four_of (twos (pos 6900000)))
    ∷ (0x02 ∷ 0x02 ∷ 0x47 ∷ 0 ∷ four_of (twos (pos 8303910)))
    ∷ (0x01 ∷ 0x01 ∷ byte "X" ∷ 21 ∷ 71 ∷ 2 ∷ four_of (twos (pos 1200000)))
    ∷ (0xFF ∷ 22 ∷ [])
    ∷ four_of (twos (negsuc 0x7FFF_FFFF))
    ∷ four_of (twos (negsuc 0))
    ∷ []

abbrev pub case_lines : List String
case_lines =
    "01014D00450200124F80\n"
    ∷ "0102450000694920\n"
    ∷ "02024700007EB526\n"
    ∷ "01015815470200124F80\n"
    ∷ "FF16\n"
    ∷ "80000000\n"
    ∷ "FFFFFFFF\n"
    ∷ []

-- each answer is its line
unfoldable pub CaseS : Type 0
CaseS = map line_of case_answers ≡ map bytes case_lines
