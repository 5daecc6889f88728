-- By the two cases of a tone, and the test of a pitch.
use mathlib.Core.Path.{sym, ◌∙◌}
use Rattle.protocol.proofs.key_number.Goals as goal

pub returns-then-not-is_playable : goal.returns-then-not-is_playable
returns-then-not-is_playable c = rw (c.in-At.is, sym c.is_playable.ensures ∙ c.if-not-is_playable.true)

pub returns : goal.returns
returns c = rw (c.in-At.is, sym c.is_playable.ensures ∙ c.if-not-is_playable.false)
