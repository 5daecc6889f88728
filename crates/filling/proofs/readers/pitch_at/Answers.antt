-- A value in the range of tones fits an `i32`.
use mir.Facts.{to_z-of_z}
use mir.Syntax.{w32, w64}
use mir.Val.{SFits}
use Rattle.integers.proofs.Signed.{signed}
use Rattle.filling.specs.Inner.{value_in}
use Rattle.filling.proofs.readers.pitch_at.Goals.{Start}
use Rattle.filling.proofs.readers.pitch_at.Goals as goal

module _ (c : goal.Start) where
  wide : SFits w64 (value_in c.args.values.now c.args.k)
  wide = omega (signed, c.requires.small)

  narrow : SFits w32 (value_in c.args.values.now c.args.k)
  narrow = omega (signed, c.requires.small)

pub overflow_cast-result : goal.overflow_cast-result
overflow_cast-result c = let f = wide (goal.at.overflow_cast-result c).Start in simp to_z-of_z (narrow (goal.at.overflow_cast-result c).Start)

pub returns : goal.returns
returns c = let f = wide (goal.at.returns c).Start in let g = narrow (goal.at.returns c).Start in simp to_z-of_z
