-- Bytes that are held behind others: what fits is stored where they end.
use mathlib.Core.Path.{◌≡◌, sym, ap, ◌∙◌}
use mathlib.Core.List.{List, ◌++◌}
use Prim.Native.Nat.{ℕ, ◌+◌, ◌-◌, ◌≤◌, min}
use native.Mathlib.Omega.{arith}
use native.Mathlib.Decide.{dec_le}
use borrow.Rule.Slice.PartMut.{put_mid}
use lib.ListN.{length, take, length-take}
use lib.Seq.{length-take-le, take-append-add, take_all}
use Rattle.std.proofs.lemmas.Slice.{take-put_mid}
use Rattle.frames.specs.Frames.{enough}

pub held_behind : (held bytes : List ℕ) (len : ℕ) {end : ℕ} {part : List ℕ} → len ≤ enough → length held ≡ enough → end ≡ min enough (len + length bytes)
    → part ≡ take (end - len) bytes → take end (put_mid len (end - len) held part) ≡ take enough (take len held ++ bytes)
held_behind held bytes len {end} {part} h n e p =
    let l : length (take len held) ≡ len = length-take-le len held (omega (arith, h, n)) in
    let room : enough ≡ length (take len held) + (enough - len) = omega (arith, h, l) in
    let size : length part ≡ end - len = ap length p ∙ length-take (end - len) bytes ∙ omega (arith, e, h) in
    take-put_mid len (end - len) held part end (omega (arith, size, e, h)) (omega (arith, h, n))
    ∙ ap (λ (r : List ℕ). take len held ++ r) (p ∙ fits)
    ∙ sym (ap (λ (m : ℕ). take m (take len held ++ bytes)) room ∙ take-append-add (take len held) bytes (enough - len))
  where
    fits : take (end - len) bytes ≡ take (enough - len) bytes
    fits =
        elim (dec_le (len + length bytes) enough) [
          | yes k ↦ take_all (end - len) bytes (omega (arith, e)) ∙ sym (take_all (enough - len) bytes (omega arith))
          | no k ↦ ap (λ (m : ℕ). take m bytes) (omega (arith, e))
        ]
