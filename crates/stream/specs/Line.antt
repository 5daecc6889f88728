-- What is held of a line that has not ended.
use Rattle.std.specs.Prelude.{List, ℕ, take}
use Rattle.stream.specs.declared.line.Line.{Line}

abbrev pub held_in : Line → List ℕ
held_in l = take l.len l.bytes
