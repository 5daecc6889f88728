-- `tuning::State::take_system` meets its contract: a tone system is always taken, and is its own code. Assumes nothing.
use mathlib.Core.Path.{◌≡◌, sym, ◌∙◌}
use lib.ListN.{length}
use Rattle.tuning.proofs.Lists.{length_mapped}
use Rattle.tuning.proofs.Held.{coded_held}
use Rattle.tuning.proofs.Outcomes.{system_taken, reply_taken}
use Rattle.tuning.proofs.State.take_system.Goals.{Start}
use Rattle.tuning.proofs.State.take_system.Goals as goal

-- the tone system has sixty places
long : (c : goal.Start) → length c.args.system.tones ≡ 60
long c = search length_mapped

pub returns : goal.returns
returns c = c.taken.ensures ∙ reply_taken c.args.self _ _ (system_taken _ _) c.args.system (sym (coded_held c.args.system c.requires (long (goal.at.returns c).Start)))
