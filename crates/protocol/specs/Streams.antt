-- A stream of frames: "each frame starting from the state its forerunner left, from either house".
use Rattle.std.specs.Prelude.{List, [], ◌∷◌, ◌++◌, ℕ}
use Rattle.tables.specs.Layout.{Tables}
use Rattle.protocol.specs.declared.Desk.{Desk}
use Rattle.protocol.specs.Steps.{Made}
use Rattle.protocol.specs.Answers.{answer_of}

-- the bytes of a frame, and the length of the buffer that is lent for its answer
pub record Lent : Type 0 where
  pub frame : List ℕ
  pub room : ℕ

-- the desk after a stream
unfoldable pub desk_after : Tables → Desk → List Lent → Desk
desk_after t d [] = d
desk_after t d (l ∷ ls) = desk_after t (answer_of t d l.frame l.room).desk ls

-- the calls that were made on the way, in order, each with its number
unfoldable pub made_in : Tables → Desk → List Lent → List Made
made_in t d [] = []
made_in t d (l ∷ ls) = let o = answer_of t d l.frame l.room in o.made ++ made_in t o.desk ls

-- the lines of the answers, each with its number in it
unfoldable pub lines_of : Tables → Desk → List Lent → List (List ℕ)
lines_of t d [] = []
lines_of t d (l ∷ ls) = let o = answer_of t d l.frame l.room in o.line ∷ lines_of t o.desk ls

-- the numbers that the calls returned
unfoldable pub numbers_in : Tables → Desk → List Lent → List ℕ
numbers_in t d [] = []
numbers_in t d (l ∷ ls) = let o = answer_of t d l.frame l.room in o.number ∷ numbers_in t o.desk ls
