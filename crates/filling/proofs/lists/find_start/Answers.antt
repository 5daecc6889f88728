-- The invariant: what the present item and those after it start with is what all start with.
use borrow.Enum.Refused.{opened}
use mathlib.Core.Path.{◌≡◌, refl, sym, ◌∙◌, ap}
use Rattle.std.specs.Prelude.{Some}
use native.Mathlib.Numerals.{add-one}
use native.Mathlib.Omega.{arith}
use lib.ListN.{drop}
use Prim.Native.Nat.{◌+◌}
use Rattle.program.specs.Program.{start_of, start_then}
use Rattle.names.specs.Parts.{part}
use Rattle.filling.specs.Inner.{called_by}
use Rattle.filling.proofs.Inside.{inside, no_start}
use Rattle.filling.proofs.Items.{start_end, start_next}
use Rattle.filling.proofs.lists.find_start.Goals as goal

-- the start that is found
found : (c : goal.In-Start) → start_of c.args.items.now ≡ Some c.in-Start.called
found c = sym c.loop-item.invariant ∙ start_next _ _ c.loop-item-test.true _ ∙ ap (λ x. start_then (part x) (start_of (drop (c.loop-item.item-index + 1) c.args.items.now))) c.in-Start.is

pub loop-item-init : goal.loop-item-init
loop-item-init c = refl

pub overflow_add-result : goal.overflow_add-result
overflow_add-result c = omega (arith, c.requires, ap called_by (found c))

pub returns-in-Start : goal.returns-in-Start
returns-in-Start c = rw (found c, add-one)

pub loop-item-preserved : goal.loop-item-preserved
loop-item-preserved c =
    let same = no_start (inside _) (opened c.in_default.in_default-own.keys2) _ in
    sym (start_next _ _ c.loop-item-test.true _ ∙ same) ∙ c.loop-item.invariant

pub returns : goal.returns
returns c = ap called_by (sym (start_end _ _ c.loop-item-test.false) ∙ c.loop-item.invariant)
