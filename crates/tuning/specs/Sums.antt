-- "Small sums to try"
use Rattle.std.specs.Prelude.{List, [], ◌∷◌, ◌++◌, ℕ, zero, suc, ◌+◌, ◌*◌, ℤ, pos, neg_ℤ, ◌+ℤ◌, ◌*ℤ◌}
use Rattle.cents.specs.Measure.{hertz440, ratio, frequency}
use Rattle.cents.specs.Sums.{Row, ◌gives◌, measure_sums}
use Rattle.status.specs.Status.{anchor_out_of_range, width_out_of_range, period_out_of_range, tone_out_of_range}
use Rattle.status.specs.Status as Status
use Rattle.tuning.specs.declared.Operator.TheVariants.{Plus, Minus, Times, Divide}
use Rattle.tuning.specs.declared.Amount.TheVariants.{Absolute, Relative}
use Rattle.tuning.specs.Scale.{Sound, muted, sounds}
use Rattle.tuning.specs.Tuning.{Tuning, fresh, onward, mute, move, Action, anchor_to, width_to, period_to, tones_to, width, sound_of, start}
use Rattle.tuning.specs.Desk.{cents, called}

-- case S: INTERVAL Octave = 2 : 1 Fifth = 3 : 2 TONE a = 440 e = a + Fifth TONESYSTEM Two = 69 [ a, e ] Octave
abbrev pub interval_octave : ℤ
interval_octave = ratio 20000 10000

abbrev pub interval_fifth : ℤ
interval_fifth = ratio 30000 20000

abbrev pub tone_system_two : Tuning cents
tone_system_two = record { anchor = 69; tones = sounds (frequency hertz440) ∷ sounds (frequency hertz440 +ℤ interval_fifth) ∷ []; period = interval_octave }

-- a call's number, and the tuning after it
abbrev pub call_number : Tuning cents → Action cents → ℕ
call_number s c = (called s c).number

abbrev pub tuning_after : Tuning cents → Action cents → Tuning cents
tuning_after s c = (called s c).state

-- "At the start: anchor 60, width 12, t(i) = 6,000,000 + 100,000·i, P = 1,200,000"
abbrev pub start_at : ℕ → ℕ → List (Sound ℤ)
start_at i zero = []
start_at i (suc n) = sounds (pos (6_000_000 + 100_000 * i)) ∷ start_at (suc i) n

unfoldable pub start_sums : List Row
start_sums =
    ((start cents).anchor gives 60)
    ∷ (width cents (start cents) gives 12)
    ∷ ((start cents).tones gives start_at 0 12)
    ∷ ((start cents).period gives pos 1_200_000)
    ∷ []

-- "in `Two`, key 70 is 7,601,955 and key 68 is 6,401,955; from the start, width `@*5` gives 60 with period 6,000,000 and width 61 gives 11"
unfoldable pub tuning_sums : List Row
tuning_sums =
    (sound_of cents tone_system_two 70 gives sounds (pos 7601955))
    ∷ (sound_of cents tone_system_two 68 gives sounds (pos 6401955))
    ∷ (call_number (start cents) (width_to (Relative Times 5)) gives Status.done)
    ∷ (width cents (tuning_after (start cents) (width_to (Relative Times 5))) gives 60)
    ∷ ((tuning_after (start cents) (width_to (Relative Times 5))).period gives pos 6000000)
    ∷ (call_number (start cents) (width_to (Absolute 61)) gives width_out_of_range)
    ∷ []

-- "Proved from the definitions, as a single list under a single statement"
unfoldable pub small_sums : List Row
small_sums = measure_sums ++ tuning_sums

-- RETUNING Up = @ + 1 [ ], twice from `Two`
abbrev pub twice_up : Tuning cents
twice_up = tuning_after (tuning_after tone_system_two (anchor_to (Relative Plus 1))) (anchor_to (Relative Plus 1))

-- "Run and compared", here of the definitions: case S's last answers; "width 1 with `@/2` gives 11; period `@ - Octave` from the start is taken at 0
-- and the second time gives 12; ten octaves are taken, eleven give 12". And "Slips we have seen": what they would get wrong.
unfoldable pub compared_sums : List Row
compared_sums =
    (twice_up.anchor gives 71)
    ∷ (sound_of cents twice_up 71 gives sounds (pos 0x7eb526))
    ∷ (sound_of cents (tuning_after tone_system_two (anchor_to (Relative Plus 1))) 70 gives sounds (pos 7601955))
    ∷ (call_number (tuning_after (start cents) (width_to (Absolute 1))) (width_to (Relative Divide 2)) gives width_out_of_range)
    ∷ (call_number (start cents) (period_to (onward (neg_ℤ interval_octave))) gives Status.done)
    ∷ ((tuning_after (start cents) (period_to (onward (neg_ℤ interval_octave)))).period gives pos 0)
    ∷ (call_number (tuning_after (start cents) (period_to (onward (neg_ℤ interval_octave)))) (period_to (onward (neg_ℤ interval_octave))) gives period_out_of_range)
    ∷ (call_number (start cents) (period_to (fresh (pos 10 *ℤ interval_octave))) gives Status.done)
    ∷ (call_number (start cents) (period_to (fresh (pos 11 *ℤ interval_octave))) gives period_out_of_range)
    ∷ (call_number (start cents) (anchor_to (Relative Minus 61)) gives anchor_out_of_range)
    ∷ (sound_of cents (tuning_after (start cents) (tones_to (mute ∷ []))) 60 gives muted)
    ∷ (call_number (start cents) (tones_to (move (pos 100000000) ∷ [])) gives tone_out_of_range)
    ∷ []
