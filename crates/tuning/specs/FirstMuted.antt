-- Document 02, 2/13, "A scale whose first key is muted": what the mended rule (`reach` of Tuning.antt) comes to, for distances, calls and keys.
use Rattle.std.specs.Prelude.{◌≡◌, ◌≢◌, ◌↔◌, ◌⊎◌, true, false, ℕ, ◌+◌, ◌≤◌, ◌<◌, length}
use Rattle.integers.specs.Parts.{up}
use Rattle.status.specs.Status as Status
use Rattle.status.specs.Status.{end_silent}
use Rattle.tuning.specs.declared.Amount.{Amount}
use Rattle.tuning.specs.declared.Amount.TheVariants as amount
use Rattle.tuning.specs.declared.State.{State}
use Rattle.tuning.specs.Scale.{Scale, muted, sounds}
use Rattle.tuning.specs.Tuning.{Tuning, anchor_to, width_to, amounts, width, tone_at, key_position, sound_of, span_to, reach, anchored, widened}
use Rattle.tuning.specs.Desk.{cents, is_anchor, is_width, divides_by_zero, called}
use Rattle.tuning.specs.State.{places, valid_state, replied}

-- where position 0 sounds nothing changes: the distance is document 01's "pitch(b) - t(0)", whatever the key at the other end
abbrev pub SoundingFirst : Scale → Type 0
SoundingFirst S = (s : Tuning S) (t : S.Tone) → tone_at S s 0 ≡ sounds t → (x : ℕ) → reach S s x ≡ span_to S s x

-- the key at the other end: "key b (anchor) or a+v (width)"
abbrev pub new_anchor : Tuning cents → Amount → ℕ
new_anchor s m = up (amounts m s.anchor)

abbrev pub past_width : Tuning cents → Amount → ℕ
past_width s m = s.anchor + up (amounts m (width cents s))

-- "r other than 0 with either end silent"
pub record EitherSilent (s : Tuning cents) (x : ℕ) : Type 0 where
  pub elsewhere : key_position cents s x ≢ 0
  pub silent : (tone_at cents s 0 ≡ muted) ⊎ (sound_of cents s x ≡ muted)

-- "13 narrows to" this: a call gets 13 just there, after 10, 25 and 11
pub record Thirteen (s : Tuning cents) (m : Amount) : Type 0 where
  pub anchor : ((called s (anchor_to m)).number ≡ end_silent) ↔ (is_anchor (amounts m s.anchor) ≡ true) × EitherSilent s (new_anchor s m)
  pub width : ((called s (width_to m)).number ≡ end_silent) ↔ (divides_by_zero m ≡ false) × ((is_width (amounts m (width cents s)) ≡ true) × EitherSilent s (past_width s m))

-- "document 01 won't double it or carry it up": by whole periods every key keeps its sound, or its silence, on the desk and in the book
abbrev pub SameKeys : (S : Scale) → Tuning S → Tuning S → Type 0
SameKeys S s new = (x : ℕ) → sound_of S new x ≡ sound_of S s x

pub record WholePeriods (S : Scale) (s : Tuning S) : Type 0 where
  pub anchor : (b : ℕ) → key_position S s b ≡ 0 → SameKeys S s (anchored S s b)
  pub width : (v : ℕ) → 1 ≤ v → key_position S s (s.anchor + v) ≡ 0 → SameKeys S s (widened S s v)

-- and so with each call that is taken
pub record CallsKeepKeys (s : Tuning cents) (m : Amount) : Type 0 where
  pub anchor : key_position cents s (new_anchor s m) ≡ 0 → (called s (anchor_to m)).number ≡ Status.done → SameKeys cents s (called s (anchor_to m)).state
  pub width : key_position cents s (past_width s m) ≡ 0 → (called s (width_to m)).number ≡ Status.done → SameKeys cents s (called s (width_to m)).state

-- `@ [ ]` and width `@` are taken, and leave the state as it is, whichever of its positions are muted
pub record KeptIsTaken (s : State) : Type 0 where
  pub anchor : replied s (anchor_to amount.Kept) ≡ record { state = s; number = Status.done }
  pub width : replied s (width_to amount.Kept) ≡ record { state = s; number = Status.done }

-- **2/13**: all this, of every tuning that has a position, and of every valid state
pub record MutedFirst : Type 0 where
  pub sounding : SoundingFirst cents
  pub thirteen : (s : Tuning cents) (m : Amount) → Thirteen s m
  pub periods : (s : Tuning cents) → 0 < width cents s → WholePeriods cents s
  pub calls : (s : Tuning cents) → 0 < width cents s → (m : Amount) → CallsKeepKeys s m
  pub kept : (s : State) → valid_state s ≡ true → length s.tones ≡ places → KeptIsTaken s
