-- The head and the state, and the end of the line.
use native.Mathlib.Omega.{arith}
use borrow.Author.Rules.{rules}
use Rattle.hexadecimal.specs.Numbers.{four_of}
use Rattle.tuning.specs.State.{held}
use Rattle.answers.specs.Answer.{change_bytes}
use Rattle.answers.proofs.Lines.{adds_then, ended}
use Rattle.answers.proofs.answer_change.Goals as goal

pub end-requires : goal.end-requires
unfolding four_of
end-requires c = omega (arith, c.new-line.ensures.begins.bytes, c.put_head.ensures.bytes, c.put_state.ensures.bytes)

pub returns : goal.returns
unfolding four_of
returns c =
    let frame = c.args.frame in
    let all = adds_then c.put_head.ensures c.put_state.ensures in
    let e = ended (change_bytes frame.house frame.kind frame.value c.args.number (held c.args.s)) c.new-line.ensures.begins all c.end.ensures (omega arith) in
    search rules
