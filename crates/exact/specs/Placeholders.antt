-- Document 02, 1/13, "Retunings with placeholders": worked streams, what is answered, what is called, and what the book then has. "Demands 2 and 3 read the
-- retuning so filled in": each call is of the declaration that its numbers are written in. The lines are those of the second program (reference/).
use Rattle.std.specs.Prelude.{◌≡◌, List, [], ◌∷◌, map, ℕ}
use Rattle.ascii.specs.Ascii.{bytes}
use Rattle.tuning.specs.Tuning.{Tuning, width}
use Rattle.program.specs.NewAnchor as new_anchor
use Rattle.program.specs.Divisors as divisors
use Rattle.program.specs.Unneeded as unneeded
use Rattle.program.specs.OneName as one_name
use Rattle.protocol.specs.Steps.{Made}
use Rattle.protocol.specs.Streams.{Lent}
use Rattle.exact.specs.Book.{entries}
use Rattle.exact.specs.Claim.{book_after}
use Rattle.exact.specs.CaseS.{lent}
use Rattle.exact.specs.TwoLogics.{call, Worked}

-- "the handbook's form `Anker_neu ( x ) = x [ ]`". L: to key 62. A: three keys up. B: 9,999 keys up, which is no anchor: 10. C: to key 60
abbrev pub new_anchor_frames : List Lent
new_anchor_frames = map lent ("01014C" ∷ "010141" ∷ "010142" ∷ "010143" ∷ [])

abbrev pub new_anchor_lines : List (List ℕ)
new_anchor_lines = map bytes ("01014C003E0C00124F80\n" ∷ "01014100410C00124F80\n" ∷ "0101420A410C00124F80\n" ∷ "010143003C0C00124F80\n" ∷ [])

abbrev pub new_anchor_calls : List Made
new_anchor_calls = call 3 0 ∷ call 4 0 ∷ call 5 10 ∷ call 6 0 ∷ []

-- "at the call 25, before 10 to 14, for division by zero, state unchanged": L, whose start divides by 0, 25; it "becomes active" all the same, so that its orders
-- answer. A: half the width. B: three times that. C: no width at all, 11. D: divided by 0, 25
abbrev pub divisors_frames : List Lent
divisors_frames = map lent ("01014C" ∷ "010141" ∷ "010142" ∷ "010143" ∷ "010144" ∷ [])

abbrev pub divisors_lines : List (List ℕ)
divisors_lines =
    map bytes
    ("01014C193C0C00124F80\n"
    ∷ "010141003C06000927C0\n"
    ∷ "010142003C12001B7740\n"
    ∷ "0101430B3C12001B7740\n"
    ∷ "010144193C12001B7740\n"
    ∷ [])

abbrev pub divisors_calls : List Made
divisors_calls = call 4 25 ∷ call 5 0 ∷ call 6 0 ∷ call 7 11 ∷ call 8 25 ∷ []

-- a period and a tones retuning act as if they had no placeholders: L, two octaves. A: position 0 muted, position 1 an octave up. Keys 61 and 60
abbrev pub unneeded_frames : List Lent
unneeded_frames = map lent ("01014C" ∷ "010141" ∷ "01023D" ∷ "01023C" ∷ [])

abbrev pub unneeded_lines : List (List ℕ)
unneeded_lines = map bytes ("01014C003C0C00249F00\n" ∷ "010141003C0C00249F00\n" ∷ "01023D00006F63A0\n" ∷ "01023C1480000000\n" ∷ [])

abbrev pub unneeded_calls : List Made
unneeded_calls = call 1 0 ∷ call 2 0 ∷ []

-- ten keys down, by a placeholder that has its retuning's and a tone's name
abbrev pub one_name_frames : List Lent
one_name_frames = map lent ("01014C" ∷ [])

abbrev pub one_name_lines : List (List ℕ)
one_name_lines = map bytes ("01014C00320C00124F80\n" ∷ [])

abbrev pub one_name_calls : List Made
one_name_calls = call 3 0 ∷ []

-- the book went along with the anchors, and took no division by 0
abbrev pub anchored_book : Tuning entries
anchored_book = book_after new_anchor.program new_anchor_frames

abbrev pub widened_book : Tuning entries
widened_book = book_after divisors.program divisors_frames

pub record Whole : Type 0 where
  pub new_anchor : Worked new_anchor.text new_anchor.program new_anchor_frames new_anchor_lines new_anchor_calls
  pub divisors : Worked divisors.text divisors.program divisors_frames divisors_lines divisors_calls
  pub unneeded : Worked unneeded.text unneeded.program unneeded_frames unneeded_lines unneeded_calls
  pub one_name : Worked one_name.text one_name.program one_name_frames one_name_lines one_name_calls
  pub anchor : anchored_book.anchor ≡ 60
  pub width : width entries widened_book ≡ 18
