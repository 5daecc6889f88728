-- The harmony, as a row.
use mathlib.Core.Path.{ap}
use Rattle.harmonies.specs.declared.Harmony.{Harmony}
use Rattle.tables.specs.declared.Row.TheVariants as row
use Rattle.filling.proofs.rows.make_harmony.Goals as goal

pub returns : goal.returns
returns c = ap (λ (y : Harmony). row.Harmony y.needed y.named) c.read_harmony-harmony.ensures
