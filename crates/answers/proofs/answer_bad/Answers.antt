-- Two bytes, and the end of the line.
use native.Mathlib.Omega.{arith}
use borrow.Author.Rules.{rules}
use Rattle.answers.specs.Answer.{bad_bytes}
use Rattle.answers.proofs.Lines.{ended}
use Rattle.answers.proofs.answer_bad.Goals as goal

pub returns : goal.returns
returns c = let e = ended bad_bytes c.new-line.ensures.begins c.put.ensures c.end.ensures (omega arith) in search rules
