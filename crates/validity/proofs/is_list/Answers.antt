-- `validity::is_list` meets its contract. The three tests are those of the list. Assumes nothing.
use lib.ListN.{drop}
use Rattle.std.proofs.lemmas.List.{take_rest}
use Rattle.validity.proofs.Runs.{zero_each, nought_each}
use Rattle.validity.proofs.is_list.Goals as goal

pub returns : goal.returns
returns c =
    let a = c.args in
    rw (
      c.are_in_bounds.ensures,
      rw take_rest at c.is_run_of.ensures,
      rw take_rest at c.is_run_of-2.ensures,
      nought_each (drop a.used a.kinds.now),
      zero_each (drop a.used a.numbers.now),
    )
