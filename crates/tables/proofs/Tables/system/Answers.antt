-- `tables::Tables::system` meets its contract: what is cut from the sections is what stands from one place to the other. Assumes nothing.
use Rattle.tables.proofs.Lists.{cut}
use Rattle.tables.proofs.Tables.system.Goals as goal

pub returns : goal.returns
returns c =
    let a = c.args in
    rw (
      cut a.from a.to c.sounding.result.now c.requires.order,
      cut a.from a.to c.tones.result.now c.requires.order,
      c.sounding.ensures,
      c.tones.ensures,
    )
    at c.system_of.ensures
