-- The mark, the number and the place, and the end of the line.
use native.Mathlib.Omega.{arith}
use borrow.Author.Rules.{rules}
use Rattle.hexadecimal.specs.Numbers.{four_of}
use Rattle.answers.specs.Answer.{refusal_bytes}
use Rattle.answers.proofs.Lines.{adds_then, ended}
use Rattle.answers.proofs.answer_refusal.Goals as goal

pub end-requires : goal.end-requires
unfolding four_of
end-requires c = omega (arith, c.new-line.ensures.begins.bytes, c.put.ensures.bytes, c.put_four.ensures.bytes)

pub returns : goal.returns
unfolding four_of
returns c =
    let all = adds_then c.put.ensures c.put_four.ensures in
    let e = ended (refusal_bytes c.args.number c.args.place) c.new-line.ensures.begins all c.end.ensures (omega arith) in search rules
