-- What each call does where it is taken, for tones and steps of any scale. The desk is this at thousandths of a cent, the exact book at entries.
use Rattle.std.specs.Prelude.{List, [], ◌∷◌, map, ℕ, zero, suc, ◌+◌, ◌*◌, ◌/◌, ℤ, pos, get_or, length}
use Rattle.std.proofs.Math.IntN.{sub_ℕ}
use Rattle.integers.specs.Parts.{up}
use Rattle.integers.specs.Floor.{floor_div, floor_mod}
use Rattle.cents.specs.Passages.{key_distance}
use Rattle.tuning.specs.declared.Operator.{Operator}
use Rattle.tuning.specs.declared.Operator.TheVariants.{Plus, Minus, Times, Divide}
use Rattle.tuning.specs.declared.Amount.{Amount}
use Rattle.tuning.specs.declared.Amount.TheVariants.{Absolute, Kept, Relative}
use Rattle.tuning.specs.Scale.{Scale, Sound, muted, sounds}

-- "A state is anchor a, width w, tones t(0) to t(w-1), each a pitch or muted, and period P." The width is the number of tones.
pub record Tuning (S : Scale) : Type 0 where
  pub anchor : ℕ
  pub tones : List (Sound S.Tone)
  pub period : S.Step

-- "Period: `[ ]` then a sequence, or `@` with any signed terms", the terms summed up
pub data PeriodTo (S : Scale) : Type 0 where
  fresh : S.Step → PeriodTo S
  onward : S.Step → PeriodTo S

-- "Tones: positions, each nothing, or `@` or a tone name, with signed terms", the terms summed up
pub data PositionTo (S : Scale) : Type 0 where
  mute : PositionTo S
  move : S.Step → PositionTo S
  set_to : S.Tone → PositionTo S

-- a call of a retuning of one of the four kinds, or of a tone system
pub data Action (S : Scale) : Type 0 where
  anchor_to : Amount → Action S
  width_to : Amount → Action S
  period_to : PeriodTo S → Action S
  tones_to : List (PositionTo S) → Action S
  system : Tuning S → Action S

-- what `@` with an operator and n comes to; "`/` takes the whole part"
abbrev pub operated : Operator → ℕ → ℕ → ℤ
operated Plus a n = pos (a + n)
operated Minus a n = sub_ℕ a n
operated Times a n = pos (a * n)
operated Divide a n = pos (a / n)

-- the anchor or width that a retuning asks for, from the one that it replaces
abbrev pub amounts : Amount → ℕ → ℤ
amounts (Absolute n) a = pos n
amounts Kept a = pos a
amounts (Relative o n) a = operated o a n

-- "Key x has x - a = q·w + r with r from 0 to w-1": its r
abbrev pub position_in : ℕ → ℕ → ℕ → ℕ
position_in anchor width x = floor_mod (key_distance x anchor) width

module _ (S : Scale) where
  abbrev pub width : Tuning S → ℕ
  width s = length s.tones

  abbrev pub raised : S.Step → Sound S.Tone → Sound S.Tone
  raised d muted = muted
  raised d (sounds t) = sounds (S.shift t d)

  abbrev pub tone_at : Tuning S → ℕ → Sound S.Tone
  tone_at s r = get_or s.tones r muted

  -- the position of a key: its r
  abbrev pub key_position : Tuning S → ℕ → ℕ
  key_position s x = position_in s.anchor (width s) x

  -- its q, and q·P, by which it lies above its position
  abbrev pub key_periods : Tuning S → ℕ → ℤ
  key_periods s x = floor_div (key_distance x s.anchor) (width s)

  abbrev pub key_rise : Tuning S → ℕ → S.Step
  key_rise s x = S.times (key_periods s x) s.period

  -- "Key x has x - a = q·w + r with r from 0 to w-1; its pitch is t(r) + q·P, silent if t(r) is muted."
  abbrev pub sound_of : Tuning S → ℕ → Sound S.Tone
  sound_of s x = raised (key_rise s x) (tone_at s (key_position s x))

  -- "pitch(b) - t(0)", silent where one of the two ends is
  abbrev pub apart : Sound S.Tone → Sound S.Tone → Sound S.Step
  apart muted y = muted
  apart (sounds t) muted = muted
  apart (sounds t) (sounds u) = sounds (S.distance u t)

  abbrev pub span_to : Tuning S → ℕ → Sound S.Step
  span_to s x = apart (tone_at s 0) (sound_of s x)

  -- the distance from position 0 to the key at the other end, by that key's position. Document 02, 2/13: "Where the key at the other end falls on position 0,
  -- the distance shall be q times the period, muted or not."
  abbrev pub reach_by : ℕ → Tuning S → ℕ → Sound S.Step
  reach_by zero s x = sounds (key_rise s x)
  reach_by (suc r) s x = span_to s x

  abbrev pub reach : Tuning S → ℕ → Sound S.Step
  reach s x = reach_by (key_position s x) s x

  -- "Anchor to b: every sounding tone shifts by pitch(b) - t(0)." 2/13: "Anchor moves then shift by that"
  abbrev pub anchored_by : Tuning S → ℕ → Sound S.Step → Tuning S
  anchored_by s b muted = s
  anchored_by s b (sounds d) = record { anchor = b; tones = map (raised d) s.tones; period = s.period }

  abbrev pub anchored : Tuning S → ℕ → Tuning S
  anchored s b = anchored_by s b (reach s b)

  -- the sounds of n keys from x on
  abbrev pub keys_from : Tuning S → ℕ → ℕ → List (Sound S.Tone)
  keys_from s x zero = []
  keys_from s x (suc n) = sound_of s x ∷ keys_from s (suc x) n

  -- "Width to v: new t(i) is the old pitch of key a+i; the new period is pitch(a+v) - t(0)." 2/13: "width changes take it as the new period"
  abbrev pub widened_by : Tuning S → ℕ → Sound S.Step → Tuning S
  widened_by s v muted = s
  widened_by s v (sounds d) = record { anchor = s.anchor; tones = keys_from s s.anchor v; period = d }

  abbrev pub widened : Tuning S → ℕ → Tuning S
  widened s v = widened_by s v (reach s (s.anchor + v))

  -- "Period: P alone changes."
  abbrev pub new_period : S.Step → PeriodTo S → S.Step
  new_period P (fresh d) = d
  new_period P (onward d) = S.add P d

  -- "Tones: positions beyond the width have no effect, tones beyond the list stay. `@` with terms on a muted tone stays muted."
  abbrev pub new_tone : PositionTo S → Sound S.Tone → Sound S.Tone
  new_tone mute t = muted
  new_tone (move d) t = raised d t
  new_tone (set_to u) t = sounds u

  abbrev pub new_tones : List (PositionTo S) → List (Sound S.Tone) → List (Sound S.Tone)
  new_tones [] ts = ts
  new_tones (x ∷ xs) [] = []
  new_tones (x ∷ xs) (t ∷ ts) = new_tone x t ∷ new_tones xs ts

  -- what a call that is taken leaves; "Calling a tone system sets all four parts."
  abbrev pub done : Tuning S → Action S → Tuning S
  done s (anchor_to m) = anchored s (up (amounts m s.anchor))
  done s (width_to m) = widened s (up (amounts m (width s)))
  done s (period_to m) = record { anchor = s.anchor; tones = s.tones; period = new_period s.period m }
  done s (tones_to l) = record { anchor = s.anchor; tones = new_tones l s.tones; period = s.period }
  done s (system y) = y

  -- "At the start: anchor 60, width 12", position i at 440 hertz and i - 9 times the twelfth root of 2, as period that root 12 times
  abbrev pub start_tones : ℕ → ℕ → List (Sound S.Tone)
  start_tones i zero = []
  start_tones i (suc n) = sounds (S.shift S.start440 (S.times (sub_ℕ i 9) S.start_root)) ∷ start_tones (suc i) n

  abbrev pub start : Tuning S
  start = record { anchor = 60; tones = start_tones 0 12; period = S.times (pos 12) S.start_root }
