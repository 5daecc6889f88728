-- The chain counts the names that the items begin with.
-- Assumes nothing.
use Prim.Native.Nat.{◌-◌}
use mathlib.Core.Path.{◌≡◌, ◌∙◌, ap}
use native.Mathlib.Nat.{le_refl}
use lib.ListN.{length, drop, length-drop}
use lib.Seq.{take_all}
use Rattle.std.specs.List.{prefix_len}
use Rattle.std.proofs.Common.{rules, tests}
use Rattle.std.proofs.lemmas.Iterator.{YieldsList-from_slice}
use Rattle.std.proofs.lemmas.Iterator.Consumers.{count_from_yields_List}
use Rattle.std.proofs.lemmas.Iterator.Search.{YieldsList-from_take_while}
use Rattle.std.proofs.lemmas.List.Folds.{length-prefix_len}
use Rattle.valuation.proofs.Names.{is_name, names_dropped}
use Rattle.valuation.proofs.skip_names.Goals as goal

pub returns : goal.returns
returns c =
    let items = c.args.items.now in
    let n : c.count-names.result ≡ prefix_len is_name items =
    count_from_yields_List c.take_while.result _ c.count-names.ensures.ran (YieldsList-from_take_while _ is_name (YieldsList-from_slice items (cc)) c.take_while.ensures.closure c.take_while.ensures.done (λ x b q k. search (rules, tests)))
    ∙ length-prefix_len is_name items in
    take_all (length items - c.count-names.result) (drop c.count-names.result items) (rw length-drop (le_refl (length items - c.count-names.result)))
    ∙ ap (λ k. drop k items) n ∙ names_dropped items
