-- Document 02, 1/13: "So called it must act as the same retuning with those numbers written in, proved once over all its kinds .. Demands 2 and 3 read the
-- retuning so filled in" (`written_calls` of proofs/WrittenCalls.antt): what a call of an accepted text does, on the desk and in the book.
use Rattle.std.specs.Prelude.{◌≡◌, true, List, ℕ, suc, ◌<◌, length, drop}
use Rattle.grammar.specs.declared.Kind.TheVariants.{Retuning}
use Rattle.placeholders.specs.declared.Seen.TheVariants.{Calls}
use Rattle.placeholders.specs.Placeholders.{seen, handed}
use Rattle.placeholders.specs.Filling.{filled_in}
use Rattle.tuning.specs.Desk.{cents}
use Rattle.tuning.specs.State.{places, valid_state}
use Rattle.program.specs.Program.{Declaration, Program}
use Rattle.program.specs.Meaning.{declaration_at, value_of}
use Rattle.program.specs.Allowed.{kind_of}
use Rattle.program.specs.Text.{accepted, read_text}
use Rattle.program.specs.WrittenIn.{written_retuning, meant_items, one_of}
use Rattle.filling.specs.Tables.{tables_of}
use Rattle.protocol.specs.declared.Desk.{Desk}
use Rattle.protocol.specs.Steps.{by_action, call_on}
use Rattle.exact.specs.Book.{entries}
use Rattle.exact.specs.Actions.{action_of, entry_of, book_action}

-- retuning k with the numbers written in that the call at item j of the text hands over
abbrev pub written_at : List ℕ → ℕ → ℕ → Declaration
written_at text j k = written_retuning text (meant_items text) k (handed (drop (suc j) (meant_items text)))

-- the call at item j, whose name stands at q and means retuning k
pub record WrittenCall (text : List ℕ) (p : Program) (j q k : ℕ) : Type 0 where
  -- what it names among the items that are filled in: this is called
  pub called : ℕ
  pub names : seen (one_of (filled_in text (meant_items text)) j) ≡ Calls q called
  -- on a desk with any right state
  pub desk : (house : ℕ) (d : Desk) → valid_state d.tuning ≡ true → length d.tuning.tones ≡ places
      → call_on (tables_of p) house d called ≡ by_action house d (action_of cents (value_of p) (value_of p) (written_at text j k))
  -- and what the book is fed where the call is taken
  pub book : book_action p called ≡ action_of entries (entry_of p) (entry_of p) (written_at text j k)

unfoldable pub WrittenCalls : Type 0
WrittenCalls =
    (text : List ℕ) (p : Program) → read_text text ≡ accepted p → (j q k : ℕ) → j < length (meant_items text) → seen (one_of (meant_items text) j) ≡ Calls q k
    → kind_of (declaration_at p k) ≡ Retuning → WrittenCall text p j q k
