-- Anchor, width and period behind each other.
use Prim.Native.Nat.{ℕ}
use mathlib.Core.Path.{◌≡◌, sym, subst}
use mathlib.Core.List.{◌∷◌}
use borrow.Author.Rules.{rules}
use mir.Facts.{to_z-of_z}
use mir.Syntax.{w32}
use mir.Val.{SFits}
use lib.ListN.{length}
use Rattle.tuning.specs.State.{places}
use Rattle.tuning.proofs.Lists.{length_mapped}
use Rattle.tuning.proofs.Held.{held_width}
use Rattle.hexadecimal.specs.Numbers.{twos, four_of}
use Rattle.answers.specs.Inner.{Adds}
use Rattle.answers.proofs.Lines.{adds_then}
use Rattle.answers.proofs.Line.put_state.Goals as goal

pub returns : goal.returns
returns c =
    let s = c.args.s in
    let fits : SFits w32 s.period.0 = search rules in
    let bits = simp to_z-of_z at c.bits_of.ensures in
    let four = rw bits at c.put_four.ensures in
    let long : length s.tones ≡ places = search length_mapped in
    subst (λ (w : ℕ). Adds c.args.self.now c.put_four.new.self (s.anchor.0 ∷ w ∷ four_of (twos s.period.0))) (sym (held_width s c.requires.1 long))
    (adds_then c.put.ensures four)
