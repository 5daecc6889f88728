-- The name is the part of the text; it is the word of its row, or plain.
use Prim.Native.Nat.{ℕ}
use mathlib.Core.Path.{◌≡◌, ◌∙◌, ap}
use mathlib.Core.List.{List}
use Rattle.symbols.specs.Bytes.{is_capital, small}
use Rattle.symbols.specs.Names.{spelled}
use Rattle.symbols.specs.Words.{words, word_of}
use Rattle.symbols.proofs.Reserved.{Row, spellings, kinds, row_word, spelling_at, meaning_at, row_spelled, row_meant, word_same, word_differs, word_past}
use Rattle.symbols.proofs.words.word_at.Goals as goal

pub returns-in-Some : goal.returns-in-Some
unfolding spellings kinds words spelled small is_capital
returns-in-Some c =
    let entry = c.in-Some.field-0.now in
    let h = c.in-Some.ensures.lookup.3.0 in
    let read = c.in-Some.ensures.lookup.3.1 entry in
    let spelling : entry.0.now ≡ row_word c.row_of.result = ap (λ (r : Row). r.0.now) read ∙ rw spelling_at (row_spelled h entry.0.now) in
    ap (λ (r : Row). r.1) read
    ∙ rw meaning_at (row_meant h entry.1)
    ∙ word_same h spelling _ c.eq_ignore_ascii_case.ensures.test c.if-eq_ignore_ascii_case.true
    ∙ ap (λ (l : List ℕ). word_of (spelled l)) c.part-name.ensures

pub returns-in_default : goal.returns-in_default
unfolding spellings words spelled small is_capital
returns-in_default c =
    let entry = c.in-Some.field-0.now in
    let h = c.in-Some.ensures.lookup.3.0 in
    let spelling : entry.0.now ≡ row_word c.row_of.result =
    ap (λ (r : Row). r.0.now) (c.in-Some.ensures.lookup.3.1 entry) ∙ rw spelling_at (row_spelled h entry.0.now) in
    word_differs h spelling _ c.eq_ignore_ascii_case.ensures.test c.row_of.ensures c.if-eq_ignore_ascii_case.false
    ∙ ap (λ (l : List ℕ). word_of (spelled l)) c.part-name.ensures

pub returns-in_default-2 : goal.returns-in_default-2
returns-in_default-2 c =
    word_past _ c.row_of.ensures (rw c.in_default.is at c.get.ensures.lookup.3) ∙ ap (λ (l : List ℕ). word_of (spelled l)) c.part-name.ensures
