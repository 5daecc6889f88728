-- What the contracts of private functions cite besides.
use Rattle.std.specs.Prelude.{ℕ, ◌+◌, ◌*◌, ℤ, nat_abs, Option, Some, None}
use Rattle.limits.specs.Limits.{most_anchor, farthest_tone, longest_period}
use Rattle.integers.specs.Floor.{floor_div, floor_mod}
use Rattle.cents.specs.declared.Interval.{Interval}
use Rattle.tuning.specs.declared.Located.{Located}
use Rattle.tuning.specs.declared.Tone.{Tone}
use Rattle.tuning.specs.declared.Tone.TheVariants.{Muted, At}
use Rattle.tuning.specs.Scale.{Sound, muted, sounds}

-- where a key that many keys above the anchor stands
abbrev pub located_at : ℤ → ℕ → Located
located_at steps width = record { position = floor_mod steps width; periods = floor_div steps width }

-- how far from zero a tone is
abbrev pub size : Tone → ℕ
size Muted = 0
size (At p) = nat_abs p.0

-- the farthest that a key up to 127 above the anchor can sound, and the farthest that it can be from position 0
abbrev pub farthest_sound : ℕ
farthest_sound = most_anchor * longest_period + farthest_tone

abbrev pub farthest_reach : ℕ
farthest_reach = farthest_sound + farthest_tone

-- a distance as the code returns it: none where one of the two ends is silent
abbrev pub interval_of : Sound ℤ → Option Interval
interval_of muted = None
interval_of (sounds d) = Some (record { 0 = d })
