-- What the contracts of private functions cite: no part of the rules.
use Rattle.std.specs.Prelude.{◌≡◌, false, List, ℕ}
use Rattle.tables.specs.Layout.{Tables}
use Rattle.protocol.specs.declared.Desk.{Desk}
use Rattle.protocol.specs.Answers.{valid_desk}
use Rattle.stream.specs.Feed.{feed, SameStream}

-- with l of a line and the bytes bs a stream comes to the same as with k of it and the bytes cs, and nothing is answered between, where the tables or the
-- desk are damaged
abbrev pub SameSkipped : List ℕ → List ℕ → List ℕ → List ℕ → Type 0
SameSkipped l bs k cs = (t : Tables) (d : Desk) → valid_desk t d ≡ false → (out : List ℕ) → SameStream t (feed d l out) bs (feed d k out) cs
