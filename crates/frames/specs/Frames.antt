-- Document 01, section "Frames": the frame that a line is; document 02, 3/13 and 5/13. A line comes without its line feed, "which the desk is not handed".
use Rattle.std.specs.Prelude.{ℕ, ◌+◌, ◌*◌, Bool, true, cond, ◌&&◌, List, [], ◌∷◌, leb, eqb, length}
use Rattle.std.specs.Option.{option_map_or}
use Rattle.ascii.specs.Ascii.{between}
pub use Rattle.limits.specs.Limits.{first_letter, last_letter}
use Rattle.cents.specs.declared.KeyNumber.{KeyNumber}
use Rattle.hexadecimal.specs.Digits.{bytes_of}
use Rattle.frames.specs.declared.Way.{Way}
use Rattle.frames.specs.declared.Way.TheVariants.{Down, Up}
use Rattle.frames.specs.declared.Decoded.{Decoded}
use Rattle.frames.specs.declared.Decoded.TheVariants.{Bad, Letter, Key, Dump, Move, LetterRow}

-- ---- "Byte 1: house, 01 or 02."

abbrev pub first_house : ℕ
first_house = 0x01

abbrev pub second_house : ℕ
second_house = 0x02

abbrev pub is_house : ℕ → Bool
is_house b = between first_house second_house b

-- ---- "Byte 2 and 3: 01 and a letter 41 to 5A; 02 and a key 00 to 7F; 03 and 00. Anything else is a bad frame"

abbrev pub letter_kind : ℕ
letter_kind = 0x01

abbrev pub key_kind : ℕ
key_kind = 0x02

abbrev pub dump_kind : ℕ
dump_kind = 0x03

abbrev pub last_key : ℕ
last_key = 0x7F

abbrev pub dump_data : ℕ
dump_data = 0x00

abbrev pub is_capital : ℕ → Bool
is_capital b = between first_letter last_letter b

abbrev pub is_key : ℕ → Bool
is_key b = leb b last_key

-- "Frames of kind 05 and 06 say that a key goes down or up in that house": 05 or 06 and a key 00 to 7F
abbrev pub down_kind : ℕ
down_kind = 0x05

abbrev pub up_kind : ℕ
up_kind = 0x06

abbrev pub way_kind : Way → ℕ
way_kind Down = down_kind
way_kind Up = up_kind

-- "A frame of kind 04 shall carry a count from 1 to 32 and that many letters."
abbrev pub letter_row_kind : ℕ
letter_row_kind = 0x04

abbrev pub fewest_presses : ℕ
fewest_presses = 1

abbrev pub most_presses : ℕ
most_presses = 32

abbrev pub is_count : ℕ → Bool
is_count n = between fewest_presses most_presses n

unfoldable pub are_capitals : List ℕ → Bool
are_capitals [] = true
are_capitals (b ∷ bs) = is_capital b && are_capitals bs

-- a frame: its house, and its letter, key or letters
pub data Frame : Type 0 where
  bad : Frame
  letter key : ℕ → ℕ → Frame
  dump : ℕ → Frame
  move : Way → ℕ → ℕ → Frame
  letter_row : ℕ → List ℕ → Frame

-- what stands after house and kind, a case for each kind
abbrev pub letter_frame : ℕ → List ℕ → Frame
letter_frame house (b ∷ []) = cond (is_capital b) (letter house b) bad
letter_frame house [] = bad
letter_frame house (b ∷ c ∷ more) = bad

abbrev pub key_frame : ℕ → List ℕ → Frame
key_frame house (b ∷ []) = cond (is_key b) (key house b) bad
key_frame house [] = bad
key_frame house (b ∷ c ∷ more) = bad

abbrev pub dump_frame : ℕ → List ℕ → Frame
dump_frame house (b ∷ []) = cond (eqb b dump_data) (dump house) bad
dump_frame house [] = bad
dump_frame house (b ∷ c ∷ more) = bad

abbrev pub move_frame : Way → ℕ → List ℕ → Frame
move_frame way house (b ∷ []) = cond (is_key b) (move way house b) bad
move_frame way house [] = bad
move_frame way house (b ∷ c ∷ more) = bad

abbrev pub letter_row_frame : ℕ → List ℕ → Frame
letter_row_frame house (count ∷ letters) = cond (is_count count && eqb (length letters) count && are_capitals letters) (letter_row house letters) bad
letter_row_frame house [] = bad

abbrev pub kind_frame : ℕ → ℕ → List ℕ → Frame
kind_frame house kind rest =
    cond (eqb kind letter_kind) (letter_frame house rest)
    (cond (eqb kind key_kind) (key_frame house rest)
    (cond (eqb kind dump_kind) (dump_frame house rest)
    (cond (eqb kind down_kind) (move_frame Down house rest)
    (cond (eqb kind up_kind) (move_frame Up house rest)
    (cond (eqb kind letter_row_kind) (letter_row_frame house rest)
    bad)))))

-- the frame of a line's bytes
unfoldable pub framed : List ℕ → Frame
framed (house ∷ kind ∷ rest) = cond (is_house house) (kind_frame house kind rest) bad
framed [] = bad
framed (house ∷ []) = bad

-- "One frame a line": the frame that a line of any length is; a line that writes no bytes is a bad frame too
unfoldable pub frame_of : List ℕ → Frame
frame_of line = option_map_or framed (bytes_of line) bad

-- ---- what holds of every frame that a line is: its house, its letter or its key lies in its range; of a row the count, and each letter
abbrev pub inside : Frame → Bool
inside bad = true
inside (letter house c) = is_house house && is_capital c
inside (key house k) = is_house house && is_key k
inside (dump house) = is_house house
inside (move way house k) = is_house house && is_key k
inside (letter_row house letters) = is_house house && is_count (length letters) && are_capitals letters

-- ---- the same as the code's enum, which has of a row how many letters it has

abbrev pub key_of : ℕ → KeyNumber
key_of b = record { 0 = b }

abbrev pub decoded_as : Frame → Decoded
decoded_as bad = Bad
decoded_as (letter house c) = Letter house c
decoded_as (key house k) = Key house (key_of k)
decoded_as (dump house) = Dump house
decoded_as (move way house k) = Move way house (key_of k)
decoded_as (letter_row house letters) = LetterRow house (length letters)

-- of a line no more than these bytes matter: the digits of the longest frame, house, kind, count and its letters, and one more that makes the line too
-- long for a frame
abbrev pub enough : ℕ
enough = 2 * (3 + most_presses) + 1
