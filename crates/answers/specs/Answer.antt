-- "An answer repeats the frame, then the number, then: letter: anchor, width, period; key: pitch; 03: anchor, width, period, each tone."
use Rattle.std.specs.Prelude.{List, [], ◌∷◌, ◌++◌, ℕ, ℤ, length}
use Rattle.status.specs.Status.{done, bad_frame}
use Rattle.tuning.specs.Scale.{Sound, muted, sounds}
use Rattle.tuning.specs.Tuning.{Tuning, width}
use Rattle.tuning.specs.Desk.{cents}
use Rattle.frames.specs.declared.Way.{Way}
use Rattle.frames.specs.Frames.{letter_kind, key_kind, dump_kind, dump_data, way_kind, letter_row_kind}
use Rattle.hexadecimal.specs.Numbers.{twos, four_of}

-- "muted is 80000000"
abbrev pub muted_bits : ℕ
muted_bits = 0x8000_0000

abbrev pub bits_of : Sound ℤ → ℕ
bits_of muted = muted_bits
bits_of (sounds z) = twos z

-- "Pitch and period are four bytes, high first, two's complement"
abbrev pub sound_bytes : Sound ℤ → List ℕ
sound_bytes t = four_of (bits_of t)

unfoldable pub tones_bytes : List (Sound ℤ) → List ℕ
tones_bytes [] = []
tones_bytes (t ∷ ts) = sound_bytes t ++ tones_bytes ts

-- the frame, then the number
abbrev pub head : ℕ → ℕ → ℕ → ℕ → List ℕ
head house kind value number = house ∷ kind ∷ value ∷ number ∷ []

-- anchor, width, period
abbrev pub state_bytes : Tuning cents → List ℕ
state_bytes s = s.anchor ∷ width cents s ∷ four_of (twos s.period)

-- the answer to what may change the state: house, kind and value of the frame, and the number; document 02, 5/13, of a key that goes down or up: "It answers
-- as a letter does"
abbrev pub change_bytes : ℕ → ℕ → ℕ → ℕ → Tuning cents → List ℕ
change_bytes house kind value number s = head house kind value number ++ state_bytes s

abbrev pub letter_bytes : ℕ → ℕ → ℕ → Tuning cents → List ℕ
letter_bytes house letter number s = change_bytes house letter_kind letter number s

abbrev pub move_bytes : Way → ℕ → ℕ → ℕ → Tuning cents → List ℕ
move_bytes way house key number s = change_bytes house (way_kind way) key number s

-- document 02, 3/13, of a row of letters: "the frame, then each press's number, then anchor, width and period"
abbrev pub letter_row_bytes : ℕ → List ℕ → List ℕ → Tuning cents → List ℕ
letter_row_bytes house letters numbers s = house ∷ letter_row_kind ∷ length letters ∷ letters ++ numbers ++ state_bytes s

abbrev pub key_bytes : ℕ → ℕ → ℕ → Sound ℤ → List ℕ
key_bytes house key number t = head house key_kind key number ++ sound_bytes t

abbrev pub dump_bytes : ℕ → Tuning cents → List ℕ
dump_bytes house s = head house dump_kind dump_data done ++ state_bytes s ++ tones_bytes s.tones

-- "a bad frame, answered `FF16`"
abbrev pub bad_bytes : List ℕ
bad_bytes = 0xFF ∷ bad_frame ∷ []

-- "A refused text gives one line, `EE`, number, place in four bytes"
abbrev pub refusal_bytes : ℕ → ℕ → List ℕ
refusal_bytes number place = 0xEE ∷ number ∷ four_of place

-- "answer buffer under 512 bytes"
abbrev pub smallest_buffer : ℕ
smallest_buffer = 512
