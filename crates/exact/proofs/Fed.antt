-- For streams that are worked out: what is computed of one, and the exact book after it, by the calls that it makes. Assumes nothing.
use mathlib.Core.Path.{◌≡◌, ap}
use mathlib.Core.List.{List}
use Prim.Native.Nat.{ℕ}
use Rattle.tuning.specs.Tuning.{start}
use Rattle.program.specs.Program.{Program}
use Rattle.program.specs.Text.{accepted, read_text}
use Rattle.filling.specs.Tables.{tables_of}
use Rattle.protocol.specs.Steps.{Made}
use Rattle.protocol.specs.Answers.{start_desk}
use Rattle.protocol.specs.Streams.{Lent, made_in, lines_of}
use Rattle.exact.specs.Book.{entries, book_from}
use Rattle.exact.specs.Claim.{fed_by, book_after}
use Rattle.exact.specs.TwoLogics.{Worked}

-- the lines, and the calls
abbrev pub Answers : Program → List Lent → List (List ℕ) → List Made → Type 0
Answers p frames lines calls = (lines_of (tables_of p) start_desk frames ≡ lines) × (made_in (tables_of p) start_desk frames ≡ calls)

pub worked : {text : List ℕ} {p : Program} {frames : List Lent} {lines : List (List ℕ)} {calls : List Made} → read_text text ≡ accepted p
    → Answers p frames lines calls → Worked text p frames lines calls
worked read a = record { read = read; answered = a.0; made = a.1 }

-- the book, fed these calls
pub fed : (p : Program) (frames : List Lent) (calls : List Made) → made_in (tables_of p) start_desk frames ≡ calls → book_after p frames ≡ book_from (start entries) (fed_by p calls)
unfolding book_after
fed p frames calls e = ap (λ (ms : List Made). book_from (start entries) (fed_by p ms)) e
