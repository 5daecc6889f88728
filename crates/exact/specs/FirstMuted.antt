-- Worked streams of document 02, 2/13, "A scale whose first key is muted": what is answered, what is called, and what the book then has. The lines are those of
-- the second program (reference/).
use Rattle.std.specs.Prelude.{◌≡◌, List, [], ◌∷◌, map, ℕ, pos}
use Rattle.ascii.specs.Ascii.{bytes}
use Rattle.tuning.specs.Scale.{muted}
use Rattle.tuning.specs.Tuning.{Tuning, width, sound_of}
use Rattle.program.specs.Pentatonic as pentatonic
use Rattle.program.specs.NineOctaves as nine_octaves
use Rattle.program.specs.MutedChord as muted_chord
use Rattle.protocol.specs.Steps.{Made}
use Rattle.protocol.specs.Streams.{Lent}
use Rattle.exact.specs.Book.{entries, the_root, declared}
use Rattle.exact.specs.CaseS.{lent}
use Rattle.exact.specs.TwoLogics.{call, Worked}
use Rattle.exact.specs.Claim.{book_after}

-- L: Pent, of which positions 1, 3, 6, 8 and 10 sound. G: `@ [ ]`. E: width `@`. A: an octave up. Key 60, silent. Key 61. C: an octave down. B: `@ + 1`, refused,
-- though key 61 sounds. D: doubled. H: `@ + 2`, refused. F: width 13, refused
abbrev pub pentatonic_frames : List Lent
pentatonic_frames =
    map lent
    ("01014C" ∷ "010147" ∷ "010145" ∷ "010141" ∷ "01023C" ∷ "01023D" ∷ "010143" ∷ "010142" ∷ "010144" ∷ "010148" ∷ "010146" ∷ [])

abbrev pub pentatonic_lines : List (List ℕ)
pentatonic_lines =
    map bytes
    ("01014C003C0C00124F80\n"
    ∷ "010147003C0C00124F80\n"
    ∷ "010145003C0C00124F80\n"
    ∷ "01014100480C00124F80\n"
    ∷ "01023C1480000000\n"
    ∷ "01023D00005D1420\n"
    ∷ "010143003C0C00124F80\n"
    ∷ "0101420D3C0C00124F80\n"
    ∷ "010144003C1800249F00\n"
    ∷ "0101480D3C1800249F00\n"
    ∷ "0101460D3C1800249F00\n"
    ∷ [])

abbrev pub pentatonic_calls : List Made
pentatonic_calls = call 1 0 ∷ call 9 0 ∷ call 7 0 ∷ call 2 0 ∷ call 5 0 ∷ call 4 13 ∷ call 6 0 ∷ call 3 13 ∷ call 8 13 ∷ []

-- L: nine octaves. A: the first position muted. B: width 24, whose period of eighteen octaves is refused with 12
abbrev pub nine_octaves_frames : List Lent
nine_octaves_frames = map lent ("01014C" ∷ "010141" ∷ "010142" ∷ [])

abbrev pub nine_octaves_lines : List (List ℕ)
nine_octaves_lines = map bytes ("01014C003C0C00A4CB80\n" ∷ "010141003C0C00A4CB80\n" ∷ "0101420C3C0C00A4CB80\n" ∷ [])

abbrev pub nine_octaves_calls : List Made
nine_octaves_calls = call 1 0 ∷ call 2 0 ∷ call 3 12 ∷ []

-- M: the first position muted. Key 60 goes down, the harmony { 0 }: an octave up. Key 60 goes up: no harmony
abbrev pub muted_chord_frames : List Lent
muted_chord_frames = map lent ("01014D" ∷ "01053C" ∷ "01063C" ∷ [])

abbrev pub muted_chord_lines : List (List ℕ)
muted_chord_lines = map bytes ("01014D003C0C00124F80\n" ∷ "01053C00480C00124F80\n" ∷ "01063C00480C00124F80\n" ∷ [])

abbrev pub muted_chord_calls : List Made
muted_chord_calls = call 1 0 ∷ call 2 0 ∷ []

-- the exact book after each
unfoldable pub doubled_book : Tuning entries
doubled_book = book_after pentatonic.program pentatonic_frames

unfoldable pub nine_book : Tuning entries
nine_book = book_after nine_octaves.program nine_octaves_frames

unfoldable pub chord_book : Tuning entries
chord_book = book_after muted_chord.program muted_chord_frames

pub record Whole : Type 0 where
  pub pentatonic : Worked pentatonic.text pentatonic.program pentatonic_frames pentatonic_lines pentatonic_calls
  pub nine_octaves : Worked nine_octaves.text nine_octaves.program nine_octaves_frames nine_octaves_lines nine_octaves_calls
  pub muted_chord : Worked muted_chord.text muted_chord.program muted_chord_frames muted_chord_lines muted_chord_calls
  -- twice the start's period, which is the root 12 times
  pub doubled_width : width entries doubled_book ≡ 24
  pub doubled_period : doubled_book.period the_root ≡ pos 24
  pub still_silent : sound_of entries doubled_book 60 ≡ muted
  -- what was refused changed nothing: T nine times
  pub nine_period : nine_book.period (declared 0) ≡ pos 9
  pub nine_width : width entries nine_book ≡ 12
  -- carried up
  pub chord_anchor : chord_book.anchor ≡ 72
  pub chord_silent : sound_of entries chord_book 72 ≡ muted
