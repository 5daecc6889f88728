-- One line after the other.
use mathlib.Core.Path.{refl, sym, ◌∙◌}
use mathlib.Core.List.{◌++◌}
use Prim.Native.Nat.{◌+◌}
use native.Mathlib.Omega.{arith}
use lib.ListN.{take, length-drop}
use Rattle.std.proofs.lemmas.List.{take_rest}
use Rattle.frames.specs.Frames.{enough}
use Rattle.stream.specs.Line.{held_in}
use Rattle.stream.proofs.Steps.{on_skip, same_held, same_ended}
use Rattle.stream.proofs.skip_lines.Goals as goal

pub loop-end-init : goal.loop-end-init
loop-end-init c = (omega arith, λ t d v out more. refl)

pub loop-end-preserved : goal.loop-end-preserved
loop-end-preserved c =
    let rest = c.loop-end.rest.now in
    let l = held_in c.loop-end.line in
    rw (take_rest rest (c.in-Some.end + 1), c.clear.ensures) (
      omega (arith, length-drop (c.in-Some.end + 1) rest, c.loop-end.invariant.0),
      λ t d v out more.
          same_ended t d l out rest (sym c.find_end.ensures.first ∙ c.in-Some.is) refl (sym (on_skip t d v (take enough (l ++ take c.in-Some.end rest)) out)) more
          ∙ c.loop-end.invariant.1 t d v out more,
    )

pub returns : goal.returns
returns c = λ t d v out more.
    same_held t d (held_in c.loop-end.line) out c.loop-end.rest.now (sym c.find_end.ensures.first ∙ c.in_default.is) c.hold.ensures more ∙ c.loop-end.invariant.1 t d v out more
