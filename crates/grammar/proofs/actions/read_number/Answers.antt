-- A number that is judged is at most its range's highest.
use Rattle.grammar.specs.Reading.{allowed}
use Rattle.grammar.proofs.Judged.{judged_most}
use Rattle.grammar.proofs.actions.read_number.Goals as goal

pub use_number-requires : goal.use_number-requires
use_number-requires c = (c.requires, judged_most (allowed c.args.purpose) _ c.judge.ensures c.in-Some.is)
