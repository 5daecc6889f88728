-- What the first pass finds, or else what the second does.
use mathlib.Core.Path.{sym}
use native.Mathlib.Omega.{arith}
use lib.Seq.{length-take-le}
use Rattle.std.proofs.lemmas.Result.{err_from_is_err_and}
use Rattle.names.proofs.Chains.{chained_none}
use Rattle.names.proofs.BothPasses.{both_stop, first_few, first_found, both_missing, both_done}
use Rattle.names.proofs.resolve_names.Goals as goal

pub declare_all-requires-clause-chained : goal.declare_all-requires-clause-chained
declare_all-requires-clause-chained c = chained_none

pub returns-in_err-n : goal.returns-in_err-n
returns-in_err-n c =
    let p = err_from_is_err_and c.from_residual.result c.from_residual.ensures.1 in
    rw (p.1, p.2) (both_stop _ _ _ _ c.in_err-n.ensures.first_pass)

pub slice_bounds-known-end : goal.slice_bounds-known-end
slice_bounds-known-end c =
    omega (arith, first_few _ _ c.in_ok-n.ensures.first_pass c.requires.declarable, c.requires.room.names, c.declare_all.auto.declared)

pub slice_bounds-known-end-2 : goal.slice_bounds-known-end-2
slice_bounds-known-end-2 c =
    sym (length-take-le _ _ (omega (arith, first_few _ _ c.in_ok-n.ensures.first_pass c.requires.declarable, c.requires.room.names, c.declare_all.auto.declared)))

pub invariant_of-known : goal.invariant_of-known
invariant_of-known c = record { of_text = first_found _ _ c.in_ok-n.ensures.first_pass; chained = c.in_ok-n.ensures.chained_2 }

pub returns-in-Err : goal.returns-in-Err
returns-in-Err c = both_missing _ _ _ _ c.in_ok-n.ensures.first_pass c.in-Err.ensures

pub returns-in-Ok : goal.returns-in-Ok
returns-in-Ok c = both_done _ _ _ _ c.in_ok-n.ensures.first_pass c.in-Ok.ensures
