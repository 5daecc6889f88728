-- What a text gives before its first frame: the desk at its start, or one line. Document 01, "Frames": "A refused text gives one line, `EE`, number, place
-- in four bytes, and no more."
use Rattle.std.specs.Prelude.{◌≡◌, cond, List, [], ℕ, ltb, eqb, length, Result, Ok, Err}
use Rattle.status.specs.Status.{done, buffer_too_small}
use Rattle.tables.specs.Layout.{Tables}
use Rattle.hexadecimal.specs.Lines.{line_of, begun_with}
use Rattle.answers.specs.Answer.{refusal_bytes, smallest_buffer}
use Rattle.mutabor.specs.Reading.{Left, reading}
use Rattle.protocol.specs.Answers.{start_desk}
use Rattle.protocol.specs.declared.Desk.{Desk}
use Rattle.opening.specs.declared.Refused.{Refused}

-- the text's number, the line that is written, and the lent tables after it
pub record Opening : Type 0 where
  pub number : ℕ
  pub line : List ℕ
  pub tables : Tables

abbrev pub refusal_line : ℕ → ℕ → List ℕ
refusal_line number place = cond (eqb number done) [] (line_of (refusal_bytes number place))

abbrev pub opened_by : Left → Opening
opened_by l = record { number = l.number; line = refusal_line l.number l.place; tables = l.tables }

-- "answer buffer under 512 bytes": nothing is read, and nothing changes
unfoldable pub opening : List ℕ → Tables → ℕ → Opening
opening text t room = cond (ltb room smallest_buffer) (record { number = buffer_too_small; line = []; tables = t }) (opened_by (reading text t))

-- what the call hands out: the desk at its start, on a refusal beside its number and the length of its line
abbrev pub opened : Opening → Result Desk Refused
opened o = cond (eqb o.number done) (Ok start_desk) (Err (record { number = o.number; desk = start_desk; length = length o.line }))

-- the whole result of a call, with the lent tables and the buffer after it
pub record Opens (o : Opening) (r : Result Desk Refused) (lent : Tables) (before after : List ℕ) : Type 0 where
  pub result : r ≡ opened o
  pub tables : lent ≡ o.tables
  pub buffer : after ≡ begun_with o.line before
