-- The stream has come to the next byte of the chunk.
use Rattle.std.proofs.Common.{◌≡◌, ◌≤◌, length}
use Rattle.answers.specs.Answer.{smallest_buffer}
use Rattle.protocol.specs.OnBoard.{tables_on}
use Rattle.stream.specs.Line.{held_in}
use Rattle.sitedesk.specs.Serving.{Came}
use Rattle.sitedesk.proofs.server.Server.serve_chunk.Given as goal

abbrev pub invariant-loop-rest : goal.invariant-loop-rest
invariant-loop-rest g l = record {
  tables : tables_on l.self.board ≡ tables_on l.fn.self.board;
  room : smallest_buffer ≤ length l.out;
  came : Came (tables_on l.fn.self.board) l.fn.self.desk (held_in l.fn.self.line) l.chunk l.self.desk (held_in l.self.line) l.rest;
}

abbrev pub decreases-loop-rest : goal.decreases-loop-rest
decreases-loop-rest g l = length l.rest
