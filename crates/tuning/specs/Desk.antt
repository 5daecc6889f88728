-- The desk: tones and steps are whole thousandths of a cent, and each call has its number.
use Rattle.std.specs.Prelude.{Bool, true, false, cond, not, ◌&&◌, ◌||◌, List, [], ◌∷◌, ℕ, zero, suc, ◌+◌, ℤ, pos, neg_ℤ, ◌+ℤ◌, ◌*ℤ◌}
use Rattle.std.specs.Int.Signed.{le_z}
use Rattle.integers.specs.Parts.{up}
use Rattle.limits.specs.Limits.{most_anchor, most_positions, farthest_tone, longest_period, highest_pitch}
use Rattle.cents.specs.Passages.{shift, distance}
use Rattle.cents.specs.Measure.{pitch440}
use Rattle.status.specs.Status.{division_by_zero, anchor_out_of_range, width_out_of_range, period_out_of_range, end_silent, tone_out_of_range}
use Rattle.tuning.specs.declared.Operator.TheVariants.{Plus, Minus, Times, Divide}
use Rattle.tuning.specs.declared.Amount.{Amount}
use Rattle.tuning.specs.declared.Amount.TheVariants.{Absolute, Kept, Relative}
use Rattle.tuning.specs.Scale.{Scale, Sound, muted, sounds}
use Rattle.tuning.specs.Tuning.{Tuning, Action, anchor_to, width_to, period_to, tones_to, system, amounts, width, reach, done}

-- "Pitches and intervals are whole thousandths of a cent"; the twelfth root of 2 is 100 cents
abbrev pub cents : Scale
cents = record {
  Tone = ℤ;
  Step = ℤ;
  shift = shift;
  distance = distance;
  none = pos 0;
  add = λ d e. d +ℤ e;
  times = λ k d. k *ℤ d;
  start440 = pitch440;
  start_root = pos 100000;
}

-- ---- "Numbers allowed"

abbrev pub between : ℤ → ℤ → ℤ → Bool
between low high z = le_z low z && le_z z high

-- "anchor .. 0 to 127", "width not 1 to 60"
abbrev pub is_anchor : ℤ → Bool
is_anchor b = between (pos 0) (pos most_anchor) b

abbrev pub is_width : ℤ → Bool
is_width v = between (pos 1) (pos most_positions) v

-- "period: 0 to 12,000,000"
abbrev pub is_period : ℤ → Bool
is_period P = between (pos 0) (pos longest_period) P

-- "tones of a state: -100,000,000 to 100,000,000"
abbrev pub is_tone : ℤ → Bool
is_tone t = between (neg_ℤ (pos farthest_tone)) (pos farthest_tone) t

-- ---- document 02, 6/13: "A key answer shall give a pitch only from 0 to 12,799,999."

abbrev pub is_playable : ℤ → Bool
is_playable z = between (pos 0) (pos highest_pitch) z

-- what an instrument has of a sound: "Below or above it, the key counts as unplayable." Nothing in this file asks it: "Anchor and width retunings keep using the
-- unlimited pitch."
abbrev pub playable : Sound ℤ → Sound ℤ
playable muted = muted
playable (sounds z) = cond (is_playable z) (sounds z) muted

-- ---- the checks, each with the number that is given where it fails

pub record Check : Type 0 where
  pub number : ℕ
  pub fails : Bool

unfoldable pub first_failing : List Check → ℕ
first_failing [] = 0
first_failing (c ∷ cs) = elim c.fails [ true ↦ c.number | false ↦ first_failing cs ]

-- document 02, 1/13: "only a zero handed to `/` waits for the call"
abbrev pub divides_by_zero : Amount → Bool
divides_by_zero (Absolute n) = false
divides_by_zero Kept = false
divides_by_zero (Relative Plus n) = false
divides_by_zero (Relative Minus n) = false
divides_by_zero (Relative Times n) = false
divides_by_zero (Relative Divide zero) = true
divides_by_zero (Relative Divide (suc n)) = false

abbrev pub bad_divisor : Amount → Check
bad_divisor m = record { number = division_by_zero; fails = divides_by_zero m }

abbrev pub bad_anchor : ℤ → Check
bad_anchor b = record { number = anchor_out_of_range; fails = not (is_anchor b) }

abbrev pub bad_width : ℤ → Check
bad_width v = record { number = width_out_of_range; fails = not (is_width v) }

abbrev pub bad_period : ℤ → Check
bad_period P = record { number = period_out_of_range; fails = not (is_period P) }

abbrev pub is_muted : {A : Type 0} → Sound A → Bool
is_muted muted = true
is_muted (sounds t) = false

-- "t(0) muted, or key b (anchor) or a+v (width) silent", narrowed by document 02, 2/13, "to r other than 0 with either end silent": there is no distance. (That
-- these are the same is `Thirteen` of FirstMuted.antt.)
abbrev pub unreached : Tuning cents → ℕ → Check
unreached s x = record { number = end_silent; fails = is_muted (reach cents s x) }

-- "a resulting tone not in its range"
abbrev pub beyond : Sound ℤ → Bool
beyond muted = false
beyond (sounds t) = not (is_tone t)

unfoldable pub any_beyond : List (Sound ℤ) → Bool
any_beyond [] = false
any_beyond (t ∷ ts) = beyond t || any_beyond ts

abbrev pub bad_tone : Tuning cents → Check
bad_tone s = record { number = tone_out_of_range; fails = any_beyond s.tones }

-- "Checks: 10, 13, 14", "11, 13, 14, 12", "12", "14", each in this order (2/13: "the order stays"); a tone system is always taken. Document 02, 1/13: "at the
-- call 25, before 10 to 14, for division by zero, state unchanged, which as with 10 to 14 speaks of the four parts". An anchor retuning knows no `/`, so 25 is
-- a width's alone.
abbrev pub checks : Tuning cents → Action cents → List Check
checks s (anchor_to m) =
    let b = amounts m s.anchor in
    bad_anchor b ∷ unreached s (up b) ∷ bad_tone (done cents s (anchor_to m)) ∷ []
checks s (width_to m) =
    let v = amounts m (width cents s) in
    let new = done cents s (width_to m) in
    bad_divisor m ∷ bad_width v ∷ unreached s (s.anchor + up v) ∷ bad_tone new ∷ bad_period new.period ∷ []
checks s (period_to m) = bad_period (done cents s (period_to m)).period ∷ []
checks s (tones_to l) = bad_tone (done cents s (tones_to l)) ∷ []
checks s (system y) = []

-- ---- a call: its number, and the state that it leaves

-- "A retuning that is not taken leaves anchor, width, tones and period unchanged": the new where the number is 0, else the old
abbrev pub if_taken : {A : Type 0} → ℕ → A → A → A
if_taken zero new old = new
if_taken (suc n) new old = old

pub record Called : Type 0 where
  pub number : ℕ
  pub state : Tuning cents

unfoldable pub called : Tuning cents → Action cents → Called
called s c = let n = first_failing (checks s c) in record { number = n; state = if_taken n (done cents s c) s }
