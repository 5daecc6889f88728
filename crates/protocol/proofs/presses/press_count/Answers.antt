-- `protocol::presses::press_count` meets its contract, by the frame's kind. Assumes nothing.
use mathlib.Core.Path.{◌≡◌, refl}
use Rattle.frames.specs.declared.Decoded.{Decoded}
use Rattle.protocol.specs.Inner.{press_count}
use Rattle.protocol.proofs.Ways.{of_no_row}
use Rattle.protocol.proofs.Others.{row_else}
use Rattle.protocol.proofs.presses.press_count.Goals as goal

pub returns : goal.returns
returns c =
    of_no_row (λ (f : Decoded). 1 ≡ press_count f) refl (λ house x. refl) (λ house k. refl) (λ house. refl) (λ way house k. refl) c.args.frame (row_else _ c.in_default.not-LetterRow)
