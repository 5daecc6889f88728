-- What `cap` ensures of the sum.
use mathlib.Core.Path.{◌∙◌, ap}
use borrow.Author.Rules.{rules}
use mir.Facts.{to_z-of_z}
use mir.Syntax.{w32, w64}
use mir.Val.{SFits}
use Rattle.tuning.specs.Capped.{capped}
use Rattle.filling.proofs.sums.Sum.to_interval.Goals as goal

pub returns : goal.returns
returns c =
    let f : SFits w32 c.cap.result = search rules in
    let g : SFits w64 c.args.self.0 = search rules in
    to_z-of_z f ∙ c.cap.ensures ∙ ap capped (to_z-of_z g)
