-- The tones in use are tested one by one.
use mathlib.Core.Path.{sym, ◌∙◌}
use lib.ListN.{take}
use Rattle.std.proofs.Common.{rules, tests}
use Rattle.std.proofs.lemmas.Iterator.{YieldsList-from_slice}
use Rattle.std.proofs.lemmas.Iterator.Search.{all_from_yields_List}
use Rattle.tuning.proofs.Valid.{in_range, in_range_holds}
use Rattle.tuning.proofs.State.has_allowed_tones.Goals as goal

pub returns : goal.returns
returns c =
    let l = take c.args.self.now.width c.args.self.now.tones in
    all_from_yields_List in_range _ _ _ c.all.ensures.ran (YieldsList-from_slice l cc) (λ x b q k. search (rules, tests)) ∙ sym (in_range_holds l)
