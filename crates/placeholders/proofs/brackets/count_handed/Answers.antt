-- The chain counts the items up to the first that gives no number.
-- Assumes nothing.
use mathlib.Core.Path.{◌∙◌}
use Rattle.std.proofs.Common.{rules, tests}
use Rattle.std.proofs.lemmas.Iterator.{YieldsList-from_slice}
use Rattle.std.proofs.lemmas.Iterator.Consumers.{count_from_yields_List}
use Rattle.std.proofs.lemmas.Iterator.Search.{YieldsList-from_take_while}
use Rattle.std.proofs.lemmas.List.Folds.{length-prefix_len}
use Rattle.placeholders.specs.Placeholders.{seen}
use Rattle.placeholders.proofs.Items.{is_number, count_handed}
use Rattle.placeholders.proofs.brackets.count_handed.Goals as goal

pub returns : goal.returns
returns c =
    count_from_yields_List c.take_while.result _ c.count.ensures.ran (YieldsList-from_take_while _ (λ i. is_number (seen i)) (YieldsList-from_slice c.args.items.now (cc)) c.take_while.ensures.closure c.take_while.ensures.done (λ x b q k. search (rules, tests)))
    ∙ length-prefix_len (λ i. is_number (seen i)) c.args.items.now
    ∙ count_handed c.args.items.now
