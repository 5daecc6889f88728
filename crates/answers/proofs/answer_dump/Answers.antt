-- The head, the state and the tones, and the end of the line: at most 250 bytes.
use Prim.Native.Nat.{◌*◌, ◌≤◌}
use mathlib.Core.Path.{◌≡◌}
use native.Mathlib.Omega.{arith}
use borrow.Author.Rules.{rules}
use Rattle.hexadecimal.specs.Numbers.{four_of}
use lib.ListN.{length}
use Rattle.tuning.specs.State.{places, held}
use Rattle.tuning.proofs.Lists.{length_mapped}
use Rattle.tuning.proofs.Held.{held_width}
use Rattle.answers.specs.Answer.{dump_bytes}
use Rattle.answers.proofs.Lines.{length_tones, fits_places, adds_then, ended}
use Rattle.answers.proofs.answer_dump.Goals.{Start}
use Rattle.answers.proofs.answer_dump.Goals as goal

-- the tones have at most 240 bytes
small : (c : goal.Start) → 4 * length (held c.args.s).tones ≤ 240
small c =
    let long : length c.args.s.tones ≡ places = search length_mapped in
    omega (arith, held_width c.args.s c.requires.1 long, fits_places c.args.s c.requires.1)

pub put_tones-requires : goal.put_tones-requires
unfolding four_of
put_tones-requires c = (omega (arith, c.new-line.ensures.begins.bytes, c.put_head.ensures.bytes, c.put_state.ensures.bytes), c.requires.1)

pub end-requires : goal.end-requires
unfolding four_of
end-requires c =
    omega (
      arith,
      c.new-line.ensures.begins.bytes,
      c.put_head.ensures.bytes,
      c.put_state.ensures.bytes,
      c.put_tones.ensures.bytes,
      length_tones (held c.args.s).tones,
      small (goal.at.end-requires c).Start,
    )

pub returns : goal.returns
unfolding four_of
returns c =
    let s = held c.args.s in
    let all = adds_then (adds_then c.put_head.ensures c.put_state.ensures) c.put_tones.ensures in
    let e = ended (dump_bytes c.args.house s) c.new-line.ensures.begins all c.end.ensures (omega (arith, length_tones s.tones, small (goal.at.returns c).Start, c.requires.0)) in
    search rules
