-- The loop's invariant: the letters before i are read.
use mathlib.Core.Path.{refl, sym, ◌∙◌}
use native.Mathlib.Omega.{arith}
use Rattle.frames.proofs.Reading.{reading_starts, reading_on}
use Rattle.frames.proofs.read_letters.Goals as goal

pub loop-i-init : goal.loop-i-init
loop-i-init c = reading_starts _ _ refl

pub loop-i-preserved : goal.loop-i-preserved
loop-i-preserved c =
    let taken = c.loop-i-test.true in
    reading_on _ c.loop-i.invariant (omega (arith, c.requires.1)) (omega (arith, c.requires.0))
    (sym c.byte_value.ensures ∙ c.in_ok-letter.was)
    (sym c.is_ascii_uppercase.ensures.value ∙ c.if-not-is_ascii_uppercase.false)
