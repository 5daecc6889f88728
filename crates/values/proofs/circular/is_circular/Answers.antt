-- What a search says that starts with no marks.
use mathlib.Core.Path.{refl}
use native.Mathlib.Omega.{arith}
use Rattle.values.specs.Rows.{rows}
use Rattle.values.proofs.Marks.{decided, no_marks}
use Rattle.values.proofs.circular.is_circular.Goals as goal

pub search-requires : goal.search-requires
search-requires c =
    (c.requires.0, refl, c.requires.1, omega arith, no_marks rows c.args.row)

pub returns : goal.returns
returns c = decided _ _ _ _ _ _ _ (no_marks rows) c.search.ensures
