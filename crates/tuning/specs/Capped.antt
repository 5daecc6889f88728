-- A sum of terms may lie far past the range of tones. One past twice that range takes every tone and every period out of its range, so it may be held as
-- 1 past it: a call with the one is the call with the other (`capped_tones`, `capped_period_step` of proofs/Capped.antt).
use Rattle.std.specs.Prelude.{cond, ℕ, ◌+◌, ◌*◌, ℤ, pos, neg_ℤ}
use Rattle.std.specs.Int.Signed.{le_z}
use Rattle.limits.specs.Limits.{farthest_tone}
use Rattle.tuning.specs.Tuning.{PeriodTo, fresh, onward, PositionTo, mute, move, set_to}
use Rattle.tuning.specs.Desk.{cents}

abbrev pub farthest_sum : ℕ
farthest_sum = 2 * farthest_tone + 1

abbrev pub capped : ℤ → ℤ
capped z = cond (le_z z (neg_ℤ (pos farthest_sum))) (neg_ℤ (pos farthest_sum)) (cond (le_z (pos farthest_sum) z) (pos farthest_sum) z)

-- what is added to an old tone or period
abbrev pub capped_to : PositionTo cents → PositionTo cents
capped_to mute = mute
capped_to (move d) = move (capped d)
capped_to (set_to u) = set_to u

abbrev pub capped_period : PeriodTo cents → PeriodTo cents
capped_period (fresh d) = fresh d
capped_period (onward d) = onward (capped d)
