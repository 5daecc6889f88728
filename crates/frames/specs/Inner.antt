-- What the contracts of private functions cite: no part of the rules.
use Rattle.std.specs.Prelude.{◌≡◌, ◌≤◌, cond, List, ◌∷◌, ℕ, length, take, drop, Option, None, Some}
use Rattle.std.specs.Option.{option_map_or}
use Rattle.hexadecimal.specs.Digits.{bytes_of}
use Rattle.frames.specs.declared.Head.{Head}
use Rattle.frames.specs.Frames.{are_capitals, Frame, bad, letter, key, dump, move, letter_row, letter_row_frame, framed, frame_of}

-- how many digits house, kind, and value or count have
abbrev pub head_digits : ℕ
head_digits = 6

-- a line begins with the digits of these bytes: its frame is theirs and that of the bytes behind them
pub record HeadOf (head : Head) (line : List ℕ) : Type 0 where
  pub long : head_digits ≤ length line
  pub frame : frame_of line ≡ option_map_or (λ (cs : List ℕ). framed (head.house ∷ head.kind ∷ head.value ∷ cs)) (bytes_of (drop head_digits line)) bad

-- the letters that digits write, where each byte that they write is one
abbrev pub capitals_in : Option (List ℕ) → Option (List ℕ)
capitals_in None = None
capitals_in (Some cs) = cond (are_capitals cs) (Some cs) None

abbrev pub capitals_only : List ℕ → Option (List ℕ)
capitals_only digits = capitals_in (bytes_of digits)

-- the frame of a house's row, by its count and the digits behind that
abbrev pub row_behind : ℕ → ℕ → List ℕ → Frame
row_behind house count digits = option_map_or (λ (cs : List ℕ). letter_row_frame house (count ∷ cs)) (bytes_of digits) bad

-- the letters of a row stand at the start of an array
abbrev pub HasLetters : List ℕ → Frame → Type 0
HasLetters l bad = Unit
HasLetters l (letter house c) = Unit
HasLetters l (key house k) = Unit
HasLetters l (dump house) = Unit
HasLetters l (move way house k) = Unit
HasLetters l (letter_row house cs) = take (length cs) l ≡ cs
