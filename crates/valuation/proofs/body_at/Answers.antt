-- Where the next declaration begins, or else the items end.
-- Assumes nothing.
use Prim.Native.Nat.{◌+◌, ◌-◌}
use mathlib.Core.Path.{◌≡◌, sym, ◌∙◌, ap}
use native.Mathlib.Numerals.{add-one}
use native.Mathlib.Omega.{arith}
use lib.ListN.{get_or, take, drop}
use lib.Seq.{slice}
use Rattle.std.proofs.lemmas.List.{drop-take}
use Rattle.program.specs.Program.{declaration_of}
use Rattle.valuation.specs.Inner.{body_from, body_to}
use Rattle.valuation.proofs.Ready.{ready_from, ready_to, ready_ordered, ready_within, ready_body}
use Rattle.valuation.proofs.body_at.Goals as goal

pub slice_bounds-result-count : goal.slice_bounds-result-count
slice_bounds-result-count c =
    let r = c.requires.ready in
    let h = c.requires.d_in_bounds in
    omega (arith, ready_from r _ h, ready_to r _ h, ready_ordered r _ h, rw add-one at c.end_of-to.ensures)

pub slice_bounds-result-start : goal.slice_bounds-result-start
slice_bounds-result-start c =
    let r = c.requires.ready in
    let h = c.requires.d_in_bounds in
    omega (arith, ready_from r _ h, ready_to r _ h, ready_ordered r _ h, ready_within r _ h, rw add-one at c.end_of-to.ensures)

pub slice_bounds-result-end : goal.slice_bounds-result-end
slice_bounds-result-end c =
    let r = c.requires.ready in
    let h = c.requires.d_in_bounds in
    omega (arith, ready_from r _ h, ready_to r _ h, ready_ordered r _ h, ready_within r _ h, rw add-one at c.end_of-to.ensures)

pub returns : goal.returns
returns c =
    let r = c.requires.ready in
    let h = c.requires.d_in_bounds in
    let is = c.args.items.now in
    let from = body_from is c.args.d in
    let to = body_to is c.args.d in
    let o : from + (to - from) ≡ to = omega (arith, ready_ordered r _ h) in
    let e : get_or c.args.starts.now c.args.d 0 + 1 ≡ from = ready_from r _ h in
    let f : c.end_of-to.result ≡ to = rw add-one at c.end_of-to.ensures ∙ ready_to r _ h in
    let s : take (to - from) (drop from is) ≡ slice from to is = sym (drop-take from (to - from) is) ∙ ap (λ k. drop from (take k is)) o in
    rw (e, f) (ap declaration_of s ∙ ready_body r _ h)
