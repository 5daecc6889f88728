-- The invariant: the slice holds the items so far, and what is left to read gives the rest; or the text is complete.
-- The measure is what is left of the text.
-- Assumes nothing.
use mathlib.Core.Path.{refl, ◌∙◌, sym, ap}
use native.Mathlib.Omega.{arith}
use Rattle.grammar.specs.Terminals.{terminal_number}
use Rattle.grammar.proofs.Turns.{walks_first, enough_room, fits, walk_unruled, walk_refused, walks_on, walks_with}
use Rattle.grammar.proofs.reading.read_symbols.Goals as goal

pub loop-node-init : goal.loop-node-init
loop-node-init c = walks_first _ _ c.requires.text_len_bound c.requires.len c.begin-s.ensures

pub span_of-x-requires : goal.span_of-x-requires
span_of-x-requires c = fits c.loop-node.invariant c.loop-node-test.true c.find_symbol-symbol.ensures

pub shape_of-items-in_default : goal.shape_of-items-in_default
shape_of-items-in_default c = c.loop-node.invariant.same_size

pub move_at-requires : goal.move_at-requires
move_at-requires c = c.requires.moves

pub returns-in_default : goal.returns-in_default
returns-in_default c =
    let a = walk_unruled c.loop-node.invariant c.loop-node-test.true c.find_symbol-symbol.ensures (ap terminal_number c.terminal_of-terminal.ensures) c.span_of-x.ensures (sym c.in_default.is ∙ c.move_at.ensures) c.reason_of.ensures in
    record { answered = a.0; items = a.1 }

pub act-requires : goal.act-requires
act-requires c = (enough_room c.loop-node.invariant c.loop-node-test.true).0

pub shape_of-items-in-Err : goal.shape_of-items-in-Err
shape_of-items-in-Err c = c.loop-node.invariant.same_size

pub returns-in-Err : goal.returns-in-Err
returns-in-Err c =
    let a = walk_refused c.loop-node.invariant c.loop-node-test.true c.find_symbol-symbol.ensures (ap terminal_number c.terminal_of-terminal.ensures) c.span_of-x.ensures (sym c.in-Some.is ∙ c.move_at.ensures) c.act.ensures c.in-Err.is in
    record { answered = a.0; items = a.1 }

pub loop-node-smaller : goal.loop-node-smaller
loop-node-smaller c =
    (walks_on c.loop-node.invariant c.loop-node-test.true c.find_symbol-symbol.ensures (ap terminal_number c.terminal_of-terminal.ensures) c.span_of-x.ensures (sym c.in-Some.is ∙ c.move_at.ensures) c.act.ensures c.in-Ok.is c.in_default-item.is).0

pub loop-node-preserved : goal.loop-node-preserved
loop-node-preserved c =
    (walks_on c.loop-node.invariant c.loop-node-test.true c.find_symbol-symbol.ensures (ap terminal_number c.terminal_of-terminal.ensures) c.span_of-x.ensures (sym c.in-Some.is ∙ c.move_at.ensures) c.act.ensures c.in-Ok.is c.in_default-item.is).1

pub overflow_add-count : goal.overflow_add-count
overflow_add-count c = omega (arith, (enough_room c.loop-node.invariant c.loop-node-test.true).1)

pub loop-node-smaller-in-Some-item : goal.loop-node-smaller-in-Some-item
loop-node-smaller-in-Some-item c =
    (walks_with c.loop-node.invariant c.loop-node-test.true c.find_symbol-symbol.ensures (ap terminal_number c.terminal_of-terminal.ensures) c.span_of-x.ensures (sym c.in-Some.is ∙ c.move_at.ensures) c.act.ensures c.in-Ok.is c.in-Some-item.is refl).0

pub loop-node-preserved-in-Some-item : goal.loop-node-preserved-in-Some-item
loop-node-preserved-in-Some-item c =
    (walks_with c.loop-node.invariant c.loop-node-test.true c.find_symbol-symbol.ensures (ap terminal_number c.terminal_of-terminal.ensures) c.span_of-x.ensures (sym c.in-Some.is ∙ c.move_at.ensures) c.act.ensures c.in-Ok.is c.in-Some-item.is refl).1

pub shape_of-items : goal.shape_of-items
shape_of-items c = c.loop-node.invariant.same_size

pub returns : goal.returns
returns c = let a = c.loop-node.invariant.ended c.loop-node-test.false in record { answered = a.0; items = a.1 }
