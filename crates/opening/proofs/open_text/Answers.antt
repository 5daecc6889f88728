-- `opening::open_text` meets its contract, by the buffer's size and the text's number. Assumes nothing.
use mathlib.Core.Path.{◌≡◌, refl, sym, ap, ◌∙◌}
use mathlib.Core.List.{List}
use Prim.Native.Nat.{ℕ}
use lib.ListN.{length}
use Rattle.hexadecimal.specs.Lines.{line_of, begun_with}
use Rattle.answers.specs.Answer.{refusal_bytes}
use Rattle.tables.specs.Layout.{Tables, tables_in}
use Rattle.mutabor.specs.Reading.{Left, reading}
use Rattle.protocol.specs.Answers.{valid_desk}
use Rattle.opening.proofs.Ready.{ready, opens, opens_small, opens_read, accepted_line, accepted_desk, refused_line, refused_desk}
use Rattle.std.specs.Prelude.{Ok, Err}
use Rattle.status.specs.Status.{done, buffer_too_small}
use Rattle.status.proofs.ReasonNumbers.{never_done}
use Rattle.opening.proofs.open_text.Goals.{Start}
use Rattle.opening.proofs.open_text.Goals as goal

-- what is lent, and what the text leaves
abbrev lent : goal.Start → Tables
lent a = tables_in a.args.numbers.now a.args.codes.now

abbrev left : goal.Start → Left
left a = reading a.args.text.now (lent a)

pub returns-then-buffer-lt-SMALLEST_BUFFER : goal.returns-then-buffer-lt-SMALLEST_BUFFER
returns-then-buffer-lt-SMALLEST_BUFFER c =
    let a = (goal.at.returns-then-buffer-lt-SMALLEST_BUFFER c).Start in
    record {
      opens = opens (opens_small a.args.text.now (lent a) _ c.if-buffer-lt-SMALLEST_BUFFER.true) (record { result = λ x. Err (record { number = buffer_too_small; desk = c.start-desk.ensures x; length = 0 }); tables = refl; buffer = refl });
      right = tt;
    }

pub returns-in_default : goal.returns-in_default
returns-in_default c =
    let a = (goal.at.returns-in_default c).Start in
    let g = c.in_default.ensures in
    let n : (left a).number ≡ 0 = g.told.0 in
    let e = accepted_line (left a) n in
    record {
      opens = opens (opens_read a.args.text.now (lent a) _ c.if-buffer-lt-SMALLEST_BUFFER.false) (record {
        result = ap Ok c.start-desk.ensures ∙ accepted_desk (left a) n;
        tables = g.tables;
        buffer = sym (ap (λ (x : List ℕ). begun_with x a.args.buffer.now) e);
      });
      right = (λ x. valid_desk (g.tables x) (c.start-desk.ensures x)) ∙ ready a.args.text.now (lent a) n;
    }

pub returns : goal.returns
returns c =
    let a = (goal.at.returns c).Start in
    let g = c.in-Err.ensures in
    let r = c.answer_refusal-length.ensures in
    let n : (left a).number ≡ done → ⊥ = λ n. never_done c.in-Err.refusal.reason (sym g.told.0 ∙ n) in
    let number = c.number-number.ensures ∙ sym g.told.0 in
    let place = sym g.told.1 in
    let e = (λ x. line_of (refusal_bytes (number x) (place x))) ∙ sym (refused_line (left a) n) in
    record {
      opens = opens (opens_read a.args.text.now (lent a) _ c.if-buffer-lt-SMALLEST_BUFFER.false) (record {
        result = (λ x. Err (record { number = number x; desk = c.start-desk.ensures x; length = (r.0 ∙ ap length e) x })) ∙ refused_desk (left a) n;
        tables = g.tables;
        buffer = r.1 ∙ ap (λ (x : List ℕ). begun_with x a.args.buffer.now) e;
      });
      right = tt;
    }
