-- The rows hold what the program declares, at every number, so what is resolved from them is the program's.
-- Assumes nothing.
use Prim.Native.Nat.{ℕ, ◌≤◌}
use mathlib.Core.List.{List}
use mathlib.Core.Path.{◌≡◌, ◌∙◌, ap}
use native.Mathlib.Omega.{arith}
use borrow.Author.Rules.{rules}
use lib.ListN.{length, take, replicate, length-replicate}
use Rattle.std.proofs.lemmas.List.{take-replicate}
use Rattle.grammar.specs.declared.Item.{Item}
use Rattle.limits.specs.Limits.{most_rows}
use Rattle.valuation.specs.Inner.{Ready}
use Rattle.valuation.proofs.Ready.{ready_few, ready_number}
use Rattle.valuation.proofs.Tables.{resolved_of}
use Rattle.valuation.proofs.value_declarations.Goals as goal

length_front : {A : Type 0} (n k : ℕ) (x : A) → n ≤ k → length (take n (replicate k x)) ≡ n
length_front n k x h = ap length (take-replicate n k x h) ∙ length-replicate n x

few : {is : List Item} {starts : List ℕ} → Ready is starts → length starts ≤ most_rows
few r = omega (arith, ready_number r, ready_few r)

pub slice_bounds-rows-end : goal.slice_bounds-rows-end
slice_bounds-rows-end c = few c.requires.ready

pub slice_bounds-rows-end-2 : goal.slice_bounds-rows-end-2
slice_bounds-rows-end-2 c = let h = few c.requires.ready in search (rules, h)

pub gather_all-requires-clause-rows_len : goal.gather_all-requires-clause-rows_len
gather_all-requires-clause-rows_len c = length_front (length c.args.starts.now) most_rows _ (few c.requires.ready)

pub returns : goal.returns
returns c =
    let e = length_front (length c.args.starts.now) most_rows _ (few c.requires.ready) in
    resolved_of (length c.args.starts.now) (length c.gather_all.new.rows) c.gather_all.ensures (c.gather_all.auto.rows ∙ e) c.resolve.ensures
