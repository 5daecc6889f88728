-- `protocol::presses::answer_presses` meets its contract: a row, or a frame of three bytes. Assumes nothing.
use Prim.Native.Nat.{ℕ, ◌≤◌}
use mathlib.Core.Path.{◌≡◌, sym, ap, ◌∙◌, subst}
use mathlib.Core.List.{List}
use native.Mathlib.Omega.{arith}
use lib.ListN.{length}
use Rattle.tuning.specs.State.{held}
use Rattle.frames.specs.Frames.{most_presses}
use Rattle.frames.specs.declared.Decoded.{Decoded}
use Rattle.hexadecimal.specs.Lines.{line_of, begun_with}
use Rattle.answers.specs.Answer.{change_bytes}
use Rattle.frames.specs.declared.Head.{Head}
use Rattle.protocol.specs.Inner.{press_count, pressed_bytes}
use Rattle.protocol.proofs.InTurn.{count_most, press_bytes_holds}
use Rattle.protocol.proofs.Others.{row_else}
use Rattle.protocol.proofs.presses.answer_presses.Goals.{Start}
use Rattle.protocol.proofs.presses.answer_presses.Goals as goal

-- the bytes that are told, and those that are to be told of a frame
abbrev Told : goal.Start → List ℕ → ℕ → List ℕ → Type 0
Told a bytes r after = (r ≡ length (line_of bytes)) × (after ≡ begun_with (line_of bytes) a.args.buffer.now)

abbrev bytesFor : goal.Start → Decoded → List ℕ
bytesFor a f = pressed_bytes f a.args.letters.now a.args.numbers.now a.args.number (held a.args.s)

pub answer_row-requires : goal.answer_row-requires
answer_row-requires c =
    let most : press_count c.args.frame ≤ most_presses = count_most c.args.frame c.requires.smallest_buffer_in_bounds.2 in
    record { smallest_buffer_in_bounds = (c.requires.smallest_buffer_in_bounds.0, c.requires.smallest_buffer_in_bounds.1); letters_len_bound = (omega (arith, c.requires.letters_len.0, most), omega (arith, c.requires.letters_len.1, most)) }

pub returns-in-LetterRow : goal.returns-in-LetterRow
returns-in-LetterRow c =
    let e = c.in-LetterRow.is in
    subst (λ (f : Decoded). Told (goal.at.returns-in-LetterRow c).Start (bytesFor (goal.at.returns-in-LetterRow c).Start f) c.answer_row.result c.answer_row.new.buf) (sym e) c.answer_row.ensures

pub returns : goal.returns
returns c =
    let e = c.head_of.ensures in
    let r = c.answer_change in
    let s = held c.args.s in
    let number = c.args.number in
    let same =
    ap (λ (x : Head). change_bytes x.house x.kind x.value number s) e
    ∙ press_bytes_holds c.args.frame c.args.letters.now c.args.numbers.now number s (row_else _ c.in_default.not-LetterRow) in
    subst (λ (bytes : List ℕ). Told (goal.at.returns c).Start bytes r.result r.new.buf) same r.ensures
