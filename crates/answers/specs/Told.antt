-- What the line of an answer to a key's frame tells, for those who read lines: "An answer repeats the frame, then the number, then: .. key: pitch", "four bytes, high
-- first, two's complement", "muted is 80000000".
use Rattle.std.specs.Prelude.{cond, List, ℕ, ◌-◌, eqb, ℤ, length, take, drop, get_or, Option, option_map}
use Rattle.tuning.specs.Scale.{Sound, muted, sounds}
use Rattle.hexadecimal.specs.Digits.{bytes_of}
use Rattle.hexadecimal.specs.Numbers.{number_of, signed_of}
use Rattle.answers.specs.Answer.{muted_bits}

-- a line without its line feed
abbrev pub without_feed : List ℕ → List ℕ
without_feed line = take (length line - 1) line

-- the sound that a number of 32 bits is
abbrev pub sound_by : ℕ → Sound ℤ
sound_by n = cond (eqb n muted_bits) muted (sounds (signed_of n))

-- the number, and the sound that the pitch bytes are: a silent key and an unplayable one have the same, and their numbers part them
pub record KeyTold : Type 0 where
  pub number : ℕ
  pub sound : Sound ℤ

-- the frame is three bytes, the number the next, and the rest the pitch
abbrev pub number_place : ℕ
number_place = 3

abbrev pub head_bytes : ℕ
head_bytes = 4

unfoldable pub told_by : List ℕ → Option KeyTold
told_by line =
    option_map (λ (bs : List ℕ). record { number = get_or bs number_place 0; sound = sound_by (number_of 0 (drop head_bytes bs)) }) (bytes_of (without_feed line))
