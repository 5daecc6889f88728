-- What fits behind the bytes that are held.
use mathlib.Core.Path.{◌≡◌}
use borrow.Author.Rules.{rules}
use lib.ListN.{length}
use Rattle.frames.specs.Frames.{enough}
use Rattle.stream.proofs.Held.{held_behind}
use Rattle.stream.proofs.line.Line.hold.Goals.{Start}
use Rattle.stream.proofs.line.Line.hold.Goals as goal

sized : (a : goal.Start) → length a.args.self.now.bytes ≡ enough
sized a = search rules

pub returns : goal.returns
returns c =
    let l = c.args.self.now in
    let n = sized (goal.at.returns c).Start in
    let e = c.copy_from_slice.ensures.after in
    held_behind l.bytes c.args.bytes.now l.len l.within n c.min-end.ensures e
