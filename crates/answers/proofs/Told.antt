-- The line of an answer to a key's frame tells the number and the sound that were answered.
-- Assumes nothing.
use Prim.Native.Nat.{ℕ, ◌-◌, ◌^◌, ◌<◌}
use mathlib.Core.Path.{◌≡◌, refl, ap, ◌∙◌}
use mathlib.Core.List.{List, [], ◌∷◌}
use Rattle.std.specs.Prelude.{Some}
use native.Mathlib.Omega.{arith}
use borrow.Author.Tests.{ne_eqb}
use lib.IntN.{ℤ, pos, negsuc, nat_abs}
use lib.ListN.{length, take, length-append}
use lib.Seq.{take_at}
use Rattle.integers.proofs.Signed.{signed, abs}
use Rattle.tuning.specs.Scale.{Sound, muted, sounds}
use Rattle.hexadecimal.specs.Digits.{hexes}
use Rattle.hexadecimal.specs.Numbers.{twos}
use Rattle.hexadecimal.specs.Lines.{line_feed, line_of}
use Rattle.hexadecimal.proofs.Complement.{twos_small}
use Rattle.hexadecimal.proofs.RoundTrip.{bytes_back, four_back, four_bytes, twos_back}
use Rattle.answers.specs.Answer.{muted_bits, bits_of, key_bytes}
use Rattle.answers.specs.Told.{without_feed, sound_by, told_by}

-- a sound that 32 bits tell apart from a muted one
abbrev pub Told : Sound ℤ → Type 0
Told muted = Unit
Told (sounds z) = nat_abs z < 2 ^ 31

feed_gone : (bs : List ℕ) → without_feed (line_of bs) ≡ hexes bs
feed_gone bs =
    let n : length (line_of bs) - 1 ≡ length (hexes bs) = simp length-append (omega arith) in
    ap (λ (k : ℕ). take k (line_of bs)) n ∙ take_at (hexes bs) (line_feed ∷ []) (length (hexes bs)) refl

bits_small : (t : Sound ℤ) → Told t → bits_of t < 2 ^ 32
bits_small muted h = omega arith
bits_small (sounds z) h = twos_small z (omega (signed, abs z))

not_muted : (z : ℤ) → nat_abs z < 2 ^ 31 → twos z ≡ muted_bits → ⊥
unfolding twos
not_muted (pos n) l e = omega arith
not_muted (negsuc n) l e = omega arith

sound_back : (t : Sound ℤ) → Told t → sound_by (bits_of t) ≡ t
sound_back muted h = refl
sound_back (sounds z) h = rw (ne_eqb (twos z) muted_bits (not_muted z h)) (ap sounds (twos_back z (omega (signed, abs z))))

pub key_told : (house key number : ℕ) → house < 256 → key < 256 → number < 256 → (t : Sound ℤ) → Told t
    → told_by (line_of (key_bytes house key number t)) ≡ Some (record { number = number; sound = t })
unfolding told_by
key_told house key number a b c t h =
    let bs = key_bytes house key number t in
    rw (feed_gone bs, bytes_back bs (a, (omega arith, (b, (c, four_bytes (bits_of t))))))
    (ap (λ (x : Sound ℤ). Some (record { number = number; sound = x })) (ap sound_by (four_back (bits_of t) (bits_small t h)) ∙ sound_back t h))
