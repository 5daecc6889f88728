-- Calls worked out in numbers, by the two ends of their distance: document 02, 2/13.
use Rattle.std.specs.Prelude.{List, [], ◌∷◌, pos}
use Rattle.cents.specs.Sums.{Row, ◌gives◌}
use Rattle.status.specs.Status.{anchor_out_of_range, width_out_of_range, period_out_of_range, end_silent, tone_out_of_range}
use Rattle.status.specs.Status as Status
use Rattle.tuning.specs.declared.Operator.TheVariants.{Plus, Minus, Times, Divide}
use Rattle.tuning.specs.declared.Amount.TheVariants.{Absolute, Kept, Relative}
use Rattle.tuning.specs.Scale.{muted, sounds}
use Rattle.tuning.specs.Tuning.{Tuning, fresh, mute, move, anchor_to, width_to, period_to, tones_to, sound_of, start}
use Rattle.tuning.specs.Desk.{cents, called}
use Rattle.tuning.specs.Sums.{call_number, tuning_after}

-- the start with its first position muted, and with its second
abbrev pub first_muted : Tuning cents
first_muted = tuning_after (start cents) (tones_to (mute ∷ []))

abbrev pub second_muted : Tuning cents
second_muted = tuning_after (start cents) (tones_to (move (pos 0) ∷ mute ∷ []))

-- the first muted, the second at 99,100,000, and the longest period
abbrev pub farthest : Tuning cents
farthest = tuning_after (tuning_after (start cents) (tones_to (mute ∷ move (pos 93_000_000) ∷ []))) (period_to (fresh (pos 12_000_000)))

-- "Where the key at the other end falls on position 0, the distance shall be q times the period, muted or not": by no period, an octave up, two octaves down;
-- the same width, twice and five times it
unfoldable pub whole_periods : List Row
whole_periods =
    (called first_muted (anchor_to Kept) gives record { number = Status.done; state = first_muted })
    ∷ (call_number first_muted (anchor_to (Relative Plus 12)) gives Status.done)
    ∷ (sound_of cents (tuning_after first_muted (anchor_to (Relative Plus 12))) 72 gives muted)
    ∷ (sound_of cents (tuning_after first_muted (anchor_to (Relative Plus 12))) 73 gives sounds (pos 7_300_000))
    ∷ (sound_of cents (tuning_after first_muted (anchor_to (Relative Minus 24))) 37 gives sounds (pos 3_700_000))
    ∷ (called first_muted (width_to Kept) gives record { number = Status.done; state = first_muted })
    ∷ ((tuning_after first_muted (width_to (Relative Times 2))).period gives pos 2_400_000)
    ∷ ((tuning_after first_muted (width_to (Relative Times 5))).period gives pos 6_000_000)
    ∷ []

-- "13 narrows to r other than 0 with either end silent": position 0 muted, where key 61 and key 73 sound, and where width 24 is to be 12 again, key 72 being
-- at position 12; the other end silent, where position 0 sounds; neither
unfoldable pub ends_silent : List Row
ends_silent =
    (call_number first_muted (anchor_to (Relative Plus 1)) gives end_silent)
    ∷ (call_number first_muted (width_to (Absolute 13)) gives end_silent)
    ∷ (call_number (tuning_after first_muted (width_to (Relative Times 2))) (width_to (Relative Divide 2)) gives end_silent)
    ∷ (call_number second_muted (anchor_to (Relative Plus 1)) gives end_silent)
    ∷ (call_number second_muted (width_to (Absolute 13)) gives end_silent)
    ∷ (call_number second_muted (anchor_to (Relative Plus 2)) gives Status.done)
    ∷ []

-- "the order stays": 10 and 11 go before 13; a tone out of range goes before a period that is; and a period alone
unfoldable pub order_stays : List Row
order_stays =
    (call_number first_muted (anchor_to (Absolute 128)) gives anchor_out_of_range)
    ∷ (call_number first_muted (width_to (Absolute 61)) gives width_out_of_range)
    ∷ (call_number farthest (anchor_to (Relative Plus 12)) gives tone_out_of_range)
    ∷ (call_number farthest (width_to (Relative Times 2)) gives tone_out_of_range)
    ∷ (call_number (tuning_after first_muted (period_to (fresh (pos 12_000_000)))) (width_to (Relative Times 2)) gives period_out_of_range)
    ∷ []
