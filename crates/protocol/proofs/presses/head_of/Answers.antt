-- `protocol::presses::head_of` meets its contract, by the frame's kind. Assumes nothing.
use mathlib.Core.Path.{◌≡◌, refl, sym, ap, ◌∙◌}
use Prim.Native.Nat.{ℕ}
use Rattle.frames.specs.declared.Decoded.{Decoded}
use Rattle.protocol.specs.Inner.{head, head_of}
use Rattle.protocol.proofs.Ways.{of_other}
use Rattle.protocol.proofs.Others.{letter_else, move_else}
use Rattle.protocol.proofs.presses.head_of.Goals as goal

pub returns-in-Letter : goal.returns-in-Letter
returns-in-Letter c = ap head_of (sym c.in-Letter.is)

pub returns-in-Move : goal.returns-in-Move
returns-in-Move c =
    ap (λ (k : ℕ). head c.in-Move.house k c.in-Move.key.0) c.kind_of.ensures ∙ ap head_of (sym c.in-Move.is)

pub returns : goal.returns
returns c =
    of_other (λ (f : Decoded). head 0 0 0 ≡ head_of f) refl (λ house k. refl) (λ house. refl) (λ house count. refl) c.args.frame (letter_else _ c.in_default.not-Letter) (move_else _ c.in_default-frame.not-Move)
