-- The invariant: the first fault from the present item on is that of all, `from` being where the names of the declaration under way begin. The measure is the
-- items that are left.
use mathlib.Core.Path.{refl, sym, ◌∙◌}
use native.Mathlib.Omega.{arith}
use Rattle.grammar.specs.declared.Item.TheVariants.{MutedPosition}
use Rattle.placeholders.specs.Inner.{names_in}
use Rattle.placeholders.proofs.Wrong.{part, names_begun, names_grown, fault_none, fault_here_step, fault_later}
use Rattle.placeholders.proofs.faults.find_fault.Goals.{in-Declares, in_default-see}
use Rattle.placeholders.proofs.faults.find_fault.Goals as goal

pub loop-i-init : goal.loop-i-init
unfolding names_in
loop-i-init c = (omega arith, refl)

pub returns-in-Some : goal.returns-in-Some
returns-in-Some c =
    sym (fault_here_step _ _ _ _ _ c.loop-i-test.true MutedPosition (sym c.fault_at.ensures ∙ c.in-Some.is)) ∙ c.loop-i.invariant.1

pub loop-i-preserved : goal.loop-i-preserved
loop-i-preserved c =
    let a = c.args in
    let inv = c.loop-i.invariant in
    let t = c.see.ensures in
    let later = fault_later _ _ _ _ _ c.loop-i-test.true _ t (sym c.fault_at.ensures ∙ c.in_default.is) in
    elim c.match-see.branch [
      | in-Declares w ↦
          (omega (arith, w.from-is), rw w.from-is (rw (← names_begun a.items.now c.loop-i.i c.loop-i-test.true _ t w.in-Declares.is (names_in (part c.loop-i.from c.loop-i.i a.items.now))) (sym later ∙ inv.1)))
      | in_default-see w ↦
          (omega (arith, inv.0, w.from-is), rw w.from-is (rw (← names_grown a.items.now c.loop-i.i c.loop-i-test.true _ t _ inv.0 w.in_default-see.not-Declares) (sym later ∙ inv.1)))
    ]

pub returns : goal.returns
returns c = sym (fault_none _ _ _ _ _ c.loop-i-test.false) ∙ c.loop-i.invariant.1
