-- The head and the four bytes of the sound, and the end of the line.
use native.Mathlib.Omega.{arith}
use borrow.Author.Rules.{rules}
use Rattle.hexadecimal.specs.Numbers.{four_of}
use Rattle.tuning.specs.State.{heard}
use Rattle.answers.specs.Answer.{key_bytes}
use Rattle.answers.proofs.Lines.{adds_then, ended}
use Rattle.answers.proofs.answer_key.Goals as goal

pub end-requires : goal.end-requires
unfolding four_of
end-requires c = omega (arith, c.new-line.ensures.begins.bytes, c.put_head.ensures.bytes, c.put_four.ensures.bytes)

pub returns : goal.returns
unfolding four_of
returns c =
    let four = rw c.sound_bits.ensures at c.put_four.ensures in
    let all = adds_then c.put_head.ensures four in
    let e = ended (key_bytes c.args.house c.args.key.0 c.args.number (heard c.args.tone)) c.new-line.ensures.begins all c.end.ensures (omega arith) in
    search rules
