-- `tuning::State::change_tones` meets its contract, each return by the law of its outcome. Assumes nothing.
use mathlib.Core.Path.{◌≡◌, sym, ap, ◌∙◌}
use mathlib.Core.Bool.{not}
use mathlib.Core.List.{map}
use lib.ListN.{length}
use Rattle.tuning.specs.Tuning.{tones_to}
use Rattle.tuning.specs.Desk.{called}
use Rattle.tuning.specs.State.{held, tones_meant}
use Rattle.tuning.specs.Capped.{capped_to}
use Rattle.tuning.proofs.Lists.{length_mapped}
use Rattle.tuning.proofs.Held.{valid_held}
use Rattle.tuning.proofs.Capped.{capped_tones}
use Rattle.tuning.proofs.Outcomes.{tones_tested, tones_beyond, tones_taken, reply_refused, reply_taken}
use Rattle.tuning.proofs.State.change_tones.Goals.{Start}
use Rattle.tuning.proofs.State.change_tones.Goals as goal

-- the state has sixty places
long : (c : goal.Start) → length c.args.self.tones ≡ 60
long c = search length_mapped

-- the list as it is capped is called the same
same : (c : goal.Start) → called (held c.args.self) (tones_to (tones_meant c.args.list)) ≡ called (held c.args.self) (tones_to (map capped_to (tones_meant c.args.list)))
same c = sym (capped_tones (held c.args.self) (valid_held c.args.self c.requires (long c)) (tones_meant c.args.list))

pub returns-then-not-has_allowed_tones : goal.returns-then-not-has_allowed_tones
returns-then-not-has_allowed_tones c =
    let a = (goal.at.returns-then-not-has_allowed_tones c).Start in
    c.refused.ensures ∙ reply_refused a.args.self _ a.requires (long a) 14 (same a ∙ tones_beyond _ _ (tones_tested _ c.with_tones-next.ensures c.has_allowed_tones.ensures ∙ ap not c.if-not-has_allowed_tones.true))

pub returns : goal.returns
returns c =
    c.taken.ensures ∙ reply_taken c.args.self _ _ (same (goal.at.returns c).Start ∙ tones_taken _ _ (tones_tested _ c.with_tones-next.ensures c.has_allowed_tones.ensures ∙ ap not c.if-not-has_allowed_tones.false)) _ c.with_tones-next.ensures
