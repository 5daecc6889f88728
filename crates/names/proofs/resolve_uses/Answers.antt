-- The invariant: what has become of the items in front of the present one (`Replacing`). The measure is the items that are left.
use mathlib.Core.Path.{sym, ◌∙◌, ap}
use native.Mathlib.Omega.{arith}
use lib.ListN.{set, length-map}
use Rattle.grammar.specs.Items.{with_place}
use Rattle.names.specs.Parts.{part}
use Rattle.names.specs.Inner.{used_name, unpacked}
use Rattle.names.proofs.Searching.{called_found}
use Rattle.names.proofs.SecondPass.{replacing_none, replacing_all, item_here, replacing_on, replacing_stop, replacing_more}
use Rattle.names.proofs.resolve_uses.Goals as goal

pub loop-i-init : goal.loop-i-init
loop-i-init c =
    replacing_none _ _ _

pub loop-i-preserved-in_default : goal.loop-i-preserved-in_default
loop-i-preserved-in_default c =
    let e = c.used_name.ensures ∙ ap (λ x. used_name (part x)) (item_here _ _ _ c.loop-i.invariant c.loop-i-test.true _) in
    replacing_on _ _ _ c.loop-i.invariant c.loop-i-test.true _ e c.in_default.is

pub returns-in_default-find_meaning : goal.returns-in_default-find_meaning
returns-in_default-find_meaning c =
    let e = c.used_name.ensures ∙ ap (λ x. used_name (part x)) (item_here _ _ _ c.loop-i.invariant c.loop-i-test.true _) in
    replacing_stop _ _ _ c.loop-i.invariant c.loop-i-test.true _ e c.in-Some.is c.find_meaning.ensures c.in_default-find_meaning.is

pub overflow_cast-number : goal.overflow_cast-number
overflow_cast-number c =
    let w = (called_found _ _ _ _ (sym c.find_meaning.ensures ∙ c.in-Some-find_meaning.is)).below in
    omega (arith, length-map c.args.known.kept.now unpacked, c.args.known.chained.few)

pub loop-i-preserved : goal.loop-i-preserved
loop-i-preserved c =
    let e = c.used_name.ensures ∙ ap (λ x. used_name (part x)) (item_here _ _ _ c.loop-i.invariant c.loop-i-test.true _) in
    replacing_more _ _ _ c.loop-i.invariant c.loop-i-test.true _ e c.in-Some.is c.find_meaning.ensures c.in-Some-find_meaning.is (ap (set c.loop-i.items c.loop-i.i) (c.with_place.ensures ∙ ap (λ x. with_place x c.in-Some-find_meaning.number) (item_here _ _ _ c.loop-i.invariant c.loop-i-test.true _)))

pub returns : goal.returns
returns c =
    replacing_all _ _ _ c.loop-i.invariant c.loop-i-test.false
