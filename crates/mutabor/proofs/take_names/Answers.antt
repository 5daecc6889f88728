-- The placeholders are settled; the text is refused at one of them or at a call, or its declarations are taken.
use Rattle.std.proofs.lemmas.Result.{err_from_is_err_and}
use Rattle.mutabor.proofs.Settled.{roomy, not_settled, ready_now, settled_on}
use Rattle.mutabor.proofs.take_names.Goals as goal

pub settle-requires : goal.settle-requires
settle-requires c =
    let w = c.requires.resolved in
    record { counted = c.requires.counted; size = c.requires.size; begun = w.begun; roomy = roomy w }

pub returns-in_err-settled : goal.returns-in_err-settled
returns-in_err-settled c =
    let p = err_from_is_err_and c.from_residual.result c.from_residual.ensures.1 in
    rw (p.1, p.2) (not_settled c.requires.resolved c.in_err-settled.ensures c.requires.codes_value)

pub take_declarations-requires : goal.take_declarations-requires
take_declarations-requires c = record { ready = ready_now c.requires.resolved c.in_ok-settled.ensures; codes_value = c.requires.codes_value }

pub returns : goal.returns
returns c = settled_on c.requires.resolved c.in_ok-settled.ensures c.take_declarations.ensures
