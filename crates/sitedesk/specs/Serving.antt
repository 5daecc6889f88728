-- What the program's functions state.
use Rattle.std.specs.Prelude.{◌≡◌, List, [], ℕ, ◌≤◌, length, Result, Ok, Err}
use Rattle.tables.specs.Layout.{Tables}
use Rattle.protocol.specs.declared.Desk.{Desk}
use Rattle.stream.specs.Feed.{feed, fed, streamed, SameStream}

-- a text that was loaded lies within the room
abbrev pub Within : {E : Type 0} → Result ℕ E → List ℕ → Type 0
Within (Err e) room = Unit
Within (Ok n) room = n ≤ length room

-- "a last line without one counts, unless it is empty": where so many bytes of a line are held, these bytes bring a stream to where its end brings it
abbrev pub Ending : ℕ → List ℕ → Type 0
Ending held bs = (t : Tables) (d : Desk) (line out : List ℕ) → length line ≡ held → fed t (feed d line out) bs ≡ streamed t (feed d line out) []

-- a stream that stood at desk d, with `line` of a line, and had the bytes bs before it, has come to desk e, with `rest` of a line, and has
-- the bytes cs before it: some bytes were written on the way, and with them it comes to what it would have come to, whatever bytes follow
pub record Came (t : Tables) (d : Desk) (line bs : List ℕ) (e : Desk) (rest cs : List ℕ) : Type 0 where
  pub written : List ℕ
  pub same : SameStream t (feed d line []) bs (feed e rest written) cs
