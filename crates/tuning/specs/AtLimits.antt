-- Sounds and calls worked out in numbers, at the ends of what an instrument has and past them: document 02, 6/13.
use Rattle.std.specs.Prelude.{List, [], ◌∷◌, pos, negsuc}
use Rattle.cents.specs.Sums.{Row, ◌gives◌}
use Rattle.status.specs.Status as Status
use Rattle.tuning.specs.declared.Operator.TheVariants.{Plus}
use Rattle.tuning.specs.declared.Amount.TheVariants.{Absolute, Relative}
use Rattle.tuning.specs.Scale.{muted, sounds}
use Rattle.tuning.specs.Tuning.{Tuning, fresh, anchor_to, width_to, period_to, sound_of, start}
use Rattle.tuning.specs.Desk.{cents, playable}
use Rattle.tuning.specs.Sums.{call_number, tuning_after}

-- the start with a period of nine octaves: key 73 at 16,900,000
abbrev pub nine_octaves : Tuning cents
nine_octaves = tuning_after (start cents) (period_to (fresh (pos 10_800_000)))

-- "only from 0 to 12,799,999": both ends, and one past each; the start's lowest key is at 0, its highest has a pitch too
unfoldable pub at_limits : List Row
at_limits =
    (playable (sounds (pos 0)) gives sounds (pos 0))
    ∷ (playable (sounds (negsuc 0)) gives muted)
    ∷ (playable (sounds (pos 12_799_999)) gives sounds (pos 12_799_999))
    ∷ (playable (sounds (pos 12_800_000)) gives muted)
    ∷ (playable muted gives muted)
    ∷ (playable (sound_of cents (start cents) 0) gives sounds (pos 0))
    ∷ (playable (sound_of cents (start cents) 127) gives sounds (pos 12_700_000))
    ∷ (playable (sound_of cents nine_octaves 73) gives muted)
    ∷ []

-- "Anchor and width retunings keep using the unlimited pitch": to key 73, and by it
unfoldable pub unlimited_pitch : List Row
unlimited_pitch =
    (sound_of cents nine_octaves 73 gives sounds (pos 16_900_000))
    ∷ (call_number nine_octaves (anchor_to (Relative Plus 13)) gives Status.done)
    ∷ (sound_of cents (tuning_after nine_octaves (anchor_to (Relative Plus 13))) 73 gives sounds (pos 16_900_000))
    ∷ (call_number nine_octaves (width_to (Absolute 13)) gives Status.done)
    ∷ ((tuning_after nine_octaves (width_to (Absolute 13))).period gives pos 10_900_000)
    ∷ []
