-- Document 02, 1/13: "So called it must act as the same retuning with those numbers written in, proved once over all its kinds" (`calls_written` of
-- proofs/WrittenIn.antt): whatever kind of retuning a call names, the declaration that it calls is the retuning's own items with the numbers in them.
use Rattle.std.specs.Prelude.{◌≡◌, List, map, ℕ, suc, ◌<◌, length, get_or, drop}
use Rattle.grammar.specs.declared.Kind.TheVariants.{Retuning}
use Rattle.grammar.specs.declared.Item.{Item}
use Rattle.grammar.specs.declared.Item.TheVariants as item
use Rattle.grammar.specs.Reading.{read_items}
use Rattle.names.specs.Names.{meanings}
use Rattle.placeholders.specs.declared.Seen.TheVariants.{Other, Declares, Names, Wants, Calls, Hands}
use Rattle.placeholders.specs.Placeholders.{seen, after, handed, takes}
use Rattle.placeholders.specs.Filling.{written_for, filled_in}
use Rattle.program.specs.Program.{Declaration, declaration_of, parts_of, Program}
use Rattle.program.specs.Meaning.{declaration_at}
use Rattle.program.specs.Allowed.{kind_of}
use Rattle.program.specs.Text.{accepted, read_text}

-- an item with the numbers ns written in: a number for a placeholder's name; `body` are the items after the retuning's name
abbrev pub written_in : List ℕ → List Item → List ℕ → Item → Item
written_in text body ns i =
    elim (seen i) [ Wants f p ↦ item.Amount f (written_for text body ns p) | Other ↦ i | Declares ↦ i | Names p ↦ i | Calls q k ↦ i | Hands n ↦ i ]

-- "the same retuning with those numbers written in": of declaration k, by its own items
abbrev pub written_retuning : List ℕ → List Item → ℕ → List ℕ → Declaration
written_retuning text is k ns = declaration_of (map (written_in text (after is k) ns) (parts_of (after is k)))

-- the items of a text, its names resolved, and one of some items
abbrev pub meant_items : List ℕ → List Item
meant_items text = (meanings text (read_items text).items).items

abbrev pub one_of : List Item → ℕ → Item
one_of is j = get_or is j item.MutedPosition

-- the call at item j of the text, from a start or an order, whose name stands at q and means declaration k
pub record CallWritten (text : List ℕ) (p : Program) (j q k : ℕ) : Type 0 where
  -- "giving as many whole numbers"
  pub many : length (handed (drop (suc j) (meant_items text))) ≡ takes (meant_items text) k
  -- the declaration that it calls, which is what it names among the items that are filled in
  pub called : ℕ
  pub names : seen (one_of (filled_in text (meant_items text)) j) ≡ Calls q called
  pub acts : declaration_at p called ≡ written_retuning text (meant_items text) k (handed (drop (suc j) (meant_items text)))

unfoldable pub CallsWritten : Type 0
CallsWritten =
    (text : List ℕ) (p : Program) → read_text text ≡ accepted p → (j q k : ℕ) → j < length (meant_items text) → seen (one_of (meant_items text) j) ≡ Calls q k
    → kind_of (declaration_at p k) ≡ Retuning → CallWritten text p j q k
