-- The tables are what the diagrams' rules compute, entry by entry; past their rows there is no move.
-- Assumes nothing.
use mathlib.Core.Path.{◌∙◌, ap}
use Prim.Native.Nat.{◌+◌, ◌*◌, ◌<◌}
use native.Mathlib.Omega.{arith}
use Rattle.grammar.specs.Moves.{action_at, move_of, terminal_count}
use Rattle.grammar.proofs.Diagrams.{past_nodes, terminal_below, next_size, acts_size, next_at, act_at, no_move_step, moved}
use Rattle.grammar.proofs.moves.move_at.Goals as goal

pub returns-then-node-ge-NODES : goal.returns-then-node-ge-NODES
returns-then-node-ge-NODES c = past_nodes _ _ c.if-node-ge-NODES.true

pub bounds-next-place : goal.bounds-next-place
bounds-next-place c = omega (arith, next_size c.requires, c.number.ensures, terminal_below c.args.terminal)

pub returns-then-then-eq0 : goal.returns-then-then-eq0
returns-then-then-eq0 c =
    let k = c.args.node in
    let t = c.number.result in
    let i = k * terminal_count + t in
    let below : t < terminal_count = rw c.number.ensures (terminal_below c.args.terminal) in
    no_move_step k t i (omega arith) (omega arith) (next_at c.requires i (omega arith)) c.if-then-eq0.true ∙ ap (move_of k) c.number.ensures

pub bounds-acts-place : goal.bounds-acts-place
bounds-acts-place c = omega (arith, acts_size c.requires, c.number.ensures, terminal_below c.args.terminal)

pub returns : goal.returns
returns c =
    let k = c.args.node in
    let t = c.number.result in
    let i = k * terminal_count + t in
    let below : t < terminal_count = rw c.number.ensures (terminal_below c.args.terminal) in
    moved k t i (omega arith) (omega arith) (next_at c.requires i (omega arith)) c.if-then-eq0.false
    (c.action_at.ensures ∙ ap action_at (act_at c.requires i (omega arith)))
    ∙ ap (move_of k) c.number.ensures
