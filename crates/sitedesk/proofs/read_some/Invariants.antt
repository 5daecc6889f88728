-- A read that was broken off has taken no byte.
use Rattle.std.specs.Io.KnownBytes.{Keeps}
use Rattle.sitedesk.proofs.read_some.Given as goal

abbrev pub invariant-loop : goal.invariant-loop
invariant-loop g l = Keeps (g.R.Read.remaining l.initial.file) (g.R.Read.remaining l.file)
