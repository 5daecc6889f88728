-- The row comes in front of the one that was the last of its bucket (`chained_more`).
use native.Mathlib.Omega.{arith}
use Rattle.names.proofs.Chains.{chained_more}
use Rattle.names.proofs.chain_row.Goals as goal

pub overflow_cast-bucket : goal.overflow_cast-bucket
overflow_cast-bucket c = omega (arith, c.type_inv.declared c.args.n)

pub returns : goal.returns
returns c = chained_more _ c.requires.n_in_bounds c.requires.n_lt_most_declarations c.requires.chained
