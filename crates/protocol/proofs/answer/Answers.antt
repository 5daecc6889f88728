-- `protocol::answer` meets its contract, one test after the other. Assumes nothing.
use mathlib.Core.Path.{sym, ◌∙◌}
use Rattle.protocol.proofs.Ways.{gives, refusal, desk_ready, too_small, damaged, taken}
use Rattle.protocol.proofs.answer.Goals as goal

pub returns-then-buffer-lt-SMALLEST_BUFFER : goal.returns-then-buffer-lt-SMALLEST_BUFFER
returns-then-buffer-lt-SMALLEST_BUFFER c = gives (too_small _ _ _ _ c.if-buffer-lt-SMALLEST_BUFFER.true) (refusal _ c.refuse.ensures)

pub returns-then-not-is_valid : goal.returns-then-not-is_valid
returns-then-not-is_valid c = gives (damaged _ _ _ _ c.if-buffer-lt-SMALLEST_BUFFER.false c.is_valid.ensures c.if-not-is_valid.true) (refusal _ c.refuse-then-not-is_valid.ensures)

pub take_frame-requires : goal.take_frame-requires
take_frame-requires c = desk_ready _ _ _ (sym c.is_valid.ensures ∙ c.if-not-is_valid.false) c.if-buffer-lt-SMALLEST_BUFFER.false

pub returns : goal.returns
returns c = gives (taken _ _ _ _ c.if-buffer-lt-SMALLEST_BUFFER.false c.is_valid.ensures c.if-not-is_valid.false) c.take_frame.ensures
