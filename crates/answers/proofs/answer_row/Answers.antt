-- The frame, the numbers and the state behind each other, and the end of the line.
use mathlib.Core.List.{◌++◌}
use native.Mathlib.Omega.{arith}
use borrow.Author.Rules.{rules}
use Rattle.hexadecimal.specs.Numbers.{four_of}
use lib.ListN.{length-append}
use Rattle.tuning.specs.State.{held}
use Rattle.answers.specs.Answer.{state_bytes, letter_row_bytes}
use Rattle.answers.proofs.Lines.{adds_then, ended}
use Rattle.answers.proofs.answer_row.Goals as goal

pub end-requires : goal.end-requires
unfolding four_of
end-requires c =
    omega (
      arith,
      c.requires.letters_len_bound,
      c.new-line.ensures.begins.bytes,
      c.put.ensures.bytes,
      c.put-2.ensures.bytes,
      c.put-3.ensures.bytes,
      c.put_state.ensures.bytes,
    )

pub returns : goal.returns
unfolding four_of
returns c =
    let letters = c.args.letters.now in
    let numbers = c.args.numbers.now in
    let s = held c.args.s in
    let all = adds_then (adds_then (adds_then c.put.ensures c.put-2.ensures) c.put-3.ensures) c.put_state.ensures in
    let e = ended (letter_row_bytes c.args.house letters numbers s) c.new-line.ensures.begins all c.end.ensures (omega (arith, length-append (letters ++ numbers) (state_bytes s), length-append letters numbers, c.requires.smallest_buffer_in_bounds.0, c.requires.letters_len_bound)) in
    search rules
