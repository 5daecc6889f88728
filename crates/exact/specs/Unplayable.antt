-- Document 02, 6/13, "A pitch that no instrument has": what the bytes of an answer say of the book, and worked streams: what is answered, what is called, and what
-- the book then has. The lines are those of the second program (reference/).
use Rattle.std.specs.Prelude.{◌≡◌, true, List, [], ◌∷◌, map, ℕ, ◌≤◌, ℤ, pos, Option, Some}
use Rattle.ascii.specs.Ascii.{bytes}
use Rattle.status.specs.Status.{key_silent}
use Rattle.tuning.specs.Scale.{Sound, muted, sounds}
use Rattle.tuning.specs.Tuning.{Tuning, width, sound_of}
use Rattle.tuning.specs.Desk.{is_playable}
use Rattle.frames.specs.Frames.{first_house, second_house, last_key}
use Rattle.answers.specs.Answer.{smallest_buffer}
use Rattle.answers.specs.Told.{KeyTold, told_by}
use Rattle.program.specs.Program.{Program}
use Rattle.program.specs.Text.{accepted, read_text}
use Rattle.program.specs.TenOctaves as ten_octaves
use Rattle.program.specs.BothLimits as both_limits
use Rattle.program.specs.FarEnds as far_ends
use Rattle.program.specs.UnplayableChord as unplayableChord
use Rattle.protocol.specs.Steps.{Made}
use Rattle.protocol.specs.Streams.{Lent}
use Rattle.exact.specs.Entry.{Nearness}
use Rattle.exact.specs.Book.{Declared, Powers, entries, the_root, declared}
use Rattle.exact.specs.Agreement.{KeyAgrees}
use Rattle.exact.specs.Actions.{declared_in}
use Rattle.exact.specs.Claim.{book_after, key_answer}
use Rattle.exact.specs.CaseS.{lent}
use Rattle.exact.specs.TwoLogics.{call, Worked}

-- "Demand 3's distance speaks of keys that do give a pitch": one that is read from the bytes is that near the book's. The silent keys are still the book's: those
-- answered with 20, and no others
pub record Says (near : Nearness) (ds : List (Option Declared)) (book : Sound Powers) (told : KeyTold) : Type 0 where
  pub pitch : (z : ℤ) → told.sound ≡ sounds z → (is_playable z ≡ true) × KeyAgrees near ds book (sounds z)
  pub silent : told.number ≡ key_silent → book ≡ muted
  pub no_other : book ≡ muted → told.number ≡ key_silent

-- of any accepted text, stream, house, key and buffer that serves
abbrev pub BytesSay : Nearness → Type 0
BytesSay near =
    (text : List ℕ) (p : Program) → read_text text ≡ accepted p → (stream : List Lent) (house key room : ℕ) → first_house ≤ house → house ≤ second_house → key ≤ last_key
    → smallest_buffer ≤ room → (told : KeyTold) → told_by (key_answer p stream house key room).line ≡ Some told
    → Says near (declared_in p) (sound_of entries (book_after p stream) key) told

-- ---- worked streams

-- L: ten octaves. Key 60. Key 72, a period higher. Key 71, the highest of the scale. Key 48, a period lower. A: the first position muted. Key 72, now silent: 20
abbrev pub ten_octaves_frames : List Lent
ten_octaves_frames = map lent ("01014C" ∷ "01023C" ∷ "010248" ∷ "010247" ∷ "010230" ∷ "010141" ∷ "010248" ∷ [])

abbrev pub ten_octaves_lines : List (List ℕ)
ten_octaves_lines =
    map bytes
    ("01014C003C0C00B71B00\n"
    ∷ "01023C00005B8D80\n"
    ∷ "0102480F80000000\n"
    ∷ "01024700006C5660\n"
    ∷ "0102300F80000000\n"
    ∷ "010141003C0C00B71B00\n"
    ∷ "0102481480000000\n"
    ∷ [])

abbrev pub ten_octaves_calls : List Made
ten_octaves_calls = call 1 0 ∷ call 2 0 ∷ []

-- L: key 60 at 0, key 61 at -1, key 62 at 12,799,999, key 63 at 12,800,000. Each of them; then all tones, which have no limit
abbrev pub both_limits_frames : List Lent
both_limits_frames = map lent ("01014C" ∷ "01023C" ∷ "01023D" ∷ "01023E" ∷ "01023F" ∷ "010300" ∷ [])

abbrev pub both_limits_lines : List (List ℕ)
both_limits_lines =
    map bytes
    ("01014C003C0C00124F80\n"
    ∷ "01023C0000000000\n"
    ∷ "01023D0F80000000\n"
    ∷ "01023E0000C34FFF\n"
    ∷ "01023F0F80000000\n"
    ∷ "010300003C0C00124F8000000000FFFFFFFF00C34FFF00C350000061A80000632EA00064B54000663BE00067C28000694920006ACFC0006C5660\n"
    ∷ [])

abbrev pub both_limits_calls : List Made
both_limits_calls = call 2 0 ∷ []

-- "Anchor and width retunings keep using the unlimited pitch." L: nine octaves, key 73 at 16,900,000. A: the anchor goes there, by its pitch. Key 73 is where it was.
-- Key 61, a period lower. Key 60, now below 0. W: width 13, whose period is the distance from key 73, at 16,900,000, to key 86, at 27,800,000
abbrev pub far_ends_frames : List Lent
far_ends_frames = map lent ("01014C" ∷ "010249" ∷ "010141" ∷ "010249" ∷ "01023D" ∷ "01023C" ∷ "010157" ∷ [])

abbrev pub far_ends_lines : List (List ℕ)
far_ends_lines =
    map bytes
    ("01014C003C0C00A4CB80\n"
    ∷ "0102490F80000000\n"
    ∷ "01014100490C00A4CB80\n"
    ∷ "0102490F80000000\n"
    ∷ "01023D00005D1420\n"
    ∷ "01023C0F80000000\n"
    ∷ "01015700490D00A65220\n"
    ∷ [])

abbrev pub far_ends_calls : List Made
far_ends_calls = call 1 0 ∷ call 3 0 ∷ call 2 0 ∷ []

-- T: ten octaves. Key 72 is unplayable. It goes down all the same, and makes up the harmony { 0 }: anchor 61
abbrev pub chord_frames : List Lent
chord_frames = map lent ("010154" ∷ "010248" ∷ "010548" ∷ [])

abbrev pub chord_lines : List (List ℕ)
chord_lines = map bytes ("010154003C0C00B71B00\n" ∷ "0102480F80000000\n" ∷ "010548003D0C00B71B00\n" ∷ [])

abbrev pub chord_calls : List Made
chord_calls = call 2 0 ∷ call 3 0 ∷ []

-- the exact book after the third: it knows no instrument
unfoldable pub far_book : Tuning entries
far_book = book_after far_ends.program far_ends_frames

pub record Whole : Type 0 where
  pub ten_octaves : Worked ten_octaves.text ten_octaves.program ten_octaves_frames ten_octaves_lines ten_octaves_calls
  pub both_limits : Worked both_limits.text both_limits.program both_limits_frames both_limits_lines both_limits_calls
  pub far_ends : Worked far_ends.text far_ends.program far_ends_frames far_ends_lines far_ends_calls
  pub chord : Worked unplayableChord.text unplayableChord.program chord_frames chord_lines chord_calls
  pub far_anchor : far_book.anchor ≡ 73
  pub far_width : width entries far_book ≡ 13
  -- the octave nine times, and the start's root once
  pub far_octaves : far_book.period (declared 0) ≡ pos 9
  pub far_root : far_book.period the_root ≡ pos 1
