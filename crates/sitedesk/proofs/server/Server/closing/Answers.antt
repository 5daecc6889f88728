-- The end of a stream where no line is held, and where one is.
use Rattle.std.proofs.Common.{sym, ◌∙◌}
use mathlib.Core.Bool.{false≢true}
use Rattle.stream.specs.Line.{held_in}
use Rattle.sitedesk.proofs.Ways.{no_line, line_closed}
use Rattle.sitedesk.proofs.server.Server.closing.Goals as goal

pub returns-then-is_empty : goal.returns-then-is_empty
returns-then-is_empty c = no_line (held_in c.args.self.now.line) (c.is_empty.ensures.0 c.if-is_empty.true)

pub returns-else-is_empty : goal.returns-else-is_empty
returns-else-is_empty c = line_closed (held_in c.args.self.now.line) (λ h. absurd (false≢true (sym c.if-is_empty.false ∙ c.is_empty.ensures.1 h)))
