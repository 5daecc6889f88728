-- `tables::Tables::changes_from` meets its contract: what is cut from the sections is what stands from one place to the other. Assumes nothing.
use Rattle.tables.proofs.Lists.{cut}
use Rattle.tables.proofs.Tables.changes_from.Goals as goal

pub returns : goal.returns
returns c =
    let a = c.args in
    rw (
      cut a.from a.to c.kinds.result.now c.requires.order,
      cut a.from a.to c.changes.result.now c.requires.order,
      c.kinds.ensures,
      c.changes.ensures,
    )
    at c.changes_of.ensures
