-- A wrong name leaves all as it was; otherwise the result is that of `fill_calls`.
use mathlib.Core.Path.{sym, ◌∙◌, ap}
use mathlib.Core.List.{◌++◌}
use lib.ListN.{take, drop, take-append-drop}
use lib.Seq.{length-take-le}
use Rattle.placeholders.proofs.Settles.{settles_wrong, settles_filled}
use Rattle.placeholders.proofs.settle.Goals as goal

pub returns-in-Some : goal.returns-in-Some
returns-in-Some c =
    let a = c.args in
    let n = length-take-le a.count a.items.now c.requires.counted in
    settles_wrong _ _ c.requires.begun c.find_fault.ensures c.in-Some.is
    (sym (take-append-drop a.count a.items.now) ∙ ap (λ k. take a.count a.items.now ++ drop k a.items.now) (sym n))

pub returns : goal.returns
returns c =
    settles_filled _ _ c.requires.begun c.find_fault.ensures c.in_default.is c.fill_calls.ensures
