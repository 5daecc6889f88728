-- The declared numbers of a program that keeps "Numbers allowed".
use mathlib.Core.List.{List, [], ◌∷◌}
use Rattle.std.specs.Prelude.{Option, Some, None}
use Prim.Native.Nat.{ℕ, ◌<◌, ◌^◌}
use Rattle.exact.specs.Book.{Declared, frequency, ratio, root}

-- a ratio part, a radicand or a frequency
pub record Amount (n : ℕ) : Type 0 where
  pub least : 0 < n
  pub most : n < 2 ^ 32

abbrev pub InRange : Declared → Type 0
InRange (frequency f) = Amount f
InRange (ratio p q) = Amount p × Amount q
InRange (root A B) = (0 < A) × Amount B

pub data AllInRange : List (Option Declared) → Type 0 where
  no_more : AllInRange []
  number_and : {d : Declared} {l : List (Option Declared)} → InRange d → AllInRange l → AllInRange (Some d ∷ l)
  passing : {l : List (Option Declared)} → AllInRange l → AllInRange (None ∷ l)
