-- A longer text is refused; otherwise the tables that are lent are those of the rules, which antt computes entry by entry.
-- Assumes nothing.
use mathlib.Core.Path.{refl}
use Rattle.grammar.specs.Syntax.{rules}
use Rattle.grammar.specs.Terminals.{picked}
use Rattle.grammar.specs.Moves.{next_table, action_table}
use Rattle.grammar.proofs.Turns.{too_long}
use Rattle.grammar.proofs.reading.read_items.Goals as goal

pub returns-then-text-gt-MOST_BYTES : goal.returns-then-text-gt-MOST_BYTES
returns-then-text-gt-MOST_BYTES c = let a = too_long _ _ c.if-text-gt-MOST_BYTES.true in record { answered = a.0; items = a.1 }

pub read_symbols-requires : goal.read_symbols-requires
unfolding next_table action_table picked rules
read_symbols-requires c =
    record { text_len_bound = c.if-text-gt-MOST_BYTES.false; moves = record { nodes = refl; actions = refl }; len = c.requires }
