-- No accepted text and no stream damages the desk. Document 01, "Numbers returned": 23 is "a table's or state's number out of range, or a reference
-- beyond its count", and changes nothing; a desk that always answered it would agree with the exact book too.
use Rattle.std.specs.Prelude.{◌≡◌, ◌≢◌, true, List}
use Rattle.status.specs.Status.{table_damaged}
use Rattle.program.specs.Program.{Program}
use Rattle.filling.specs.Tables.{tables_of}
use Rattle.protocol.specs.Answers.{start_desk, valid_desk, answer_of}
use Rattle.protocol.specs.Streams.{Lent, desk_after}

-- after a stream the next frame finds tables and a desk that are right
abbrev pub StreamSound : Program → List Lent → Type 0
StreamSound p stream = valid_desk (tables_of p) (desk_after (tables_of p) start_desk stream) ≡ true

-- so its answer has another number than 23, whatever the frame's bytes and the length of its buffer
abbrev pub NeverDamaged : Program → List Lent → Lent → Type 0
NeverDamaged p stream next =
    (answer_of (tables_of p) (desk_after (tables_of p) start_desk stream) next.frame next.room).number ≢ table_damaged
