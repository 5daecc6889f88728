-- `harmonies::with_position` meets its contract, by the first of the keys. Assumes nothing.
use mathlib.Core.Path.{◌≡◌, ap, ◌∙◌}
use mathlib.Core.Bool.{cond}
use Prim.Native.Nat.{ℕ, zero, suc, ◌*◌, ◌^◌, ◌%◌, ◌<◌}
use native.Mathlib.Nat.{mod-eq_of_lt, mod-lt, one-mul, zero-mul}
use native.Mathlib.Omega.{arith}
use lib.Bits.{bit_or, or_zero_r}
use lib.Dec.{eqb}
use lib.Pow.{pow-lt}
use Rattle.sets.specs.Sets.{added}
use Rattle.sets.proofs.Members.{added_or}
use Rattle.harmonies.proofs.with_position.Goals as goal

by_first : (n r b : ℕ) → r < 64 → b < 2 → bit_or n (b * 2 ^ r % 2 ^ 64) ≡ cond (eqb b 1) (added n r) n
by_first n r zero h l = ap (bit_or n) (ap (λ (x : ℕ). x % 2 ^ 64) (zero-mul (2 ^ r))) ∙ or_zero_r n
by_first n r (suc zero) h l = ap (bit_or n) (ap (λ (x : ℕ). x % 2 ^ 64) (one-mul (2 ^ r)) ∙ mod-eq_of_lt (pow-lt {i = r} {j = 64} h)) ∙ added_or n r
by_first n r (suc (suc b)) h l = absurd (omega (arith, l))

pub returns : goal.returns
returns c = let a = c.args in by_first a.chord a.r (a.keys % 2) c.requires (mod-lt a.keys (omega arith))
