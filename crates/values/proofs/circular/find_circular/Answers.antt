-- The first that passes the test of the search; what is known passes none.
use Prim.Native.Nat.{◌<◌}
use mathlib.Core.Path.{◌≡◌}
use mathlib.Core.Bool.{true, false}
use Rattle.std.proofs.Common.{arith, rules, tests}
use lib.ListN.{length}
use Rattle.std.proofs.lemmas.Iterator.{first_from_Range}
use Rattle.values.specs.Values.{circular}
use Rattle.values.specs.Rows.{own_in}
use Rattle.values.proofs.First.{first_found}
use Rattle.values.proofs.circular.find_circular.Goals as goal

pub returns : goal.returns
returns c =
    let p = circular (own_in c.args.rows.now) (length c.args.rows.now) in
    first_found p (length c.args.rows.now) c.find.result
    (first_from_Range _ _ _ c.find.result (λ i. p i ≡ true) (λ i. i < length c.args.rows.now → p i ≡ false) c.find.ensures.ran
    (λ x q h. search (rules, tests))
    (λ x q h. (search rules, λ l. let k = c.requires.2 x l in grind (arith, tests))))
