-- What a chord and a match are, without sets and tests; proofs/Meaning.antt proves both.
use Rattle.std.specs.Prelude.{◌≡◌, true, false, ℕ, ◌<◌}
use mathlib.Core.List.{List, Memᴰ}
use Rattle.limits.specs.Limits.{most_positions}
use Rattle.sets.specs.Sets.{has}
use Rattle.tuning.specs.Tuning.{position_in}
use Rattle.keys.specs.declared.HeldKeys.{HeldKeys}
use Rattle.keys.specs.Keys.{Place, is_held}
use Rattle.harmonies.specs.Harmonies.{chord_of, matches, HarmonyKey, harmony_of}

-- ---- "Held keys of both houses are projected by r into the present width."

-- a held key of a house, with this r
pub record HeldAt (h : HeldKeys) (anchor width r : ℕ) : Type 0 where
  pub house : ℕ
  pub key : ℕ
  pub place : Place house key
  pub held : is_held h house key ≡ true
  pub position : position_in anchor width key ≡ r

-- the chord has just the positions of held keys (`projected`)
pub record Projected (h : HeldKeys) (anchor width r : ℕ) : Type 0 where
  pub from : has (chord_of h anchor width) r ≡ true → HeldAt h anchor width r
  pub to : HeldAt h anchor width r → has (chord_of h anchor width) r ≡ true

-- ---- "A harmony matches when exactly its numbers are held, starred ones apart; one naming a number at or above the width, starred or not, never matches."

-- the harmony names a number
pub record Names (ks : List HarmonyKey) (r : ℕ) : Type 0 where
  pub by : HarmonyKey
  pub among : Memᴰ by ks
  pub number : by.key ≡ r

pub record Exactly (chord width : ℕ) (ks : List HarmonyKey) : Type 0 where
  pub all_below_width : (k : HarmonyKey) → Memᴰ k ks → k.key < width
  pub unstarred_held : (k : HarmonyKey) → Memᴰ k ks → k.starred ≡ false → has chord k.key ≡ true
  pub nothing_else_held : (r : ℕ) → r < most_positions → has chord r ≡ true → Names ks r

-- a match is that and no more (`matching`)
pub record Matching (chord width : ℕ) (ks : List HarmonyKey) : Type 0 where
  pub from : matches chord width (harmony_of ks) ≡ true → Exactly chord width ks
  pub to : Exactly chord width ks → matches chord width (harmony_of ks) ≡ true

-- "key numbers from 0 to 59"
abbrev pub KeysInRange : List HarmonyKey → Type 0
KeysInRange ks = (k : HarmonyKey) → Memᴰ k ks → k.key < most_positions
