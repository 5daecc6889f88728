-- `protocol::presses::press_at` meets its contract, by the frame's kind. Assumes nothing.
use mathlib.Core.Path.{◌≡◌, refl, sym, ap}
use Rattle.frames.specs.declared.Decoded.{Decoded}
use Rattle.protocol.specs.Inner.{press_at}
use Rattle.protocol.proofs.Ways.{of_no_row}
use Rattle.protocol.proofs.Others.{row_else}
use Rattle.protocol.proofs.presses.press_at.Goals as goal

pub returns-in_default : goal.returns-in_default
returns-in_default c = (
  of_no_row (λ (f : Decoded). f ≡ press_at f c.args.letters c.args.i) refl (λ house x. refl) (λ house k. refl) (λ house. refl) (λ way house k. refl) c.args.frame
      (row_else _ c.in_default.not-LetterRow),
  c.requires.1,
)

pub returns : goal.returns
returns c = (ap (λ (f : Decoded). press_at f c.args.letters c.args.i) (sym c.in-LetterRow.is), tt)
