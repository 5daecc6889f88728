-- Document 02, request 5/13: "Held keys of both houses are projected by r into the present width. A harmony matches when exactly its numbers are held,
-- starred ones apart; one naming a number at or above the width, starred or not, never matches." A chord is a set of positions.
use Rattle.std.specs.Prelude.{Bool, cond, ◌&&◌, ◌||◌, List, [], ◌∷◌, ℕ, eqb, ltb}
use Rattle.limits.specs.Limits.{most_positions}
use Rattle.sets.specs.Sets.{has, added, set_of, all, any, implies}
use Rattle.tuning.specs.Tuning.{position_in}
use Rattle.keys.specs.declared.HeldKeys.{HeldKeys}
use Rattle.keys.specs.Keys.{key_count, is_held}
use Rattle.harmonies.specs.declared.Harmony.{Harmony}

-- ---- the chord of the held keys

-- "Held keys of both houses": a key that either house holds
abbrev pub is_down : HeldKeys → ℕ → Bool
is_down h x = is_held h 1 x || is_held h 2 x

-- "projected by r into the present width": some held key has this r
abbrev pub is_held_at : HeldKeys → ℕ → ℕ → ℕ → Bool
is_held_at h anchor width r = any key_count (λ x. is_down h x && eqb (position_in anchor width x) r)

abbrev pub chord_of : HeldKeys → ℕ → ℕ → ℕ
chord_of h anchor width = set_of most_positions (is_held_at h anchor width)

-- ---- what matches it

-- "exactly its numbers are held, starred ones apart": one that is held is named, and one that is needed is held;
-- "one naming a number at or above the width, starred or not, never matches": one that is named is below the width
abbrev pub fits : ℕ → ℕ → Harmony → ℕ → Bool
fits chord width y r = implies (has chord r) (has y.named r) && implies (has y.needed r) (has chord r) && implies (has y.named r) (ltb r width)

unfoldable pub matches : ℕ → ℕ → Harmony → Bool
matches chord width y = all most_positions (fits chord width y)

-- ---- the harmony that a declaration gives

-- "by key numbers from 0 to 59 in braces; a star before a number means that it may be held or not"
pub record HarmonyKey : Type 0 where
  pub key : ℕ
  pub starred : Bool

-- a harmony that names one key more
abbrev pub naming : Harmony → HarmonyKey → Harmony
naming y k = record { needed = cond k.starred y.needed (added y.needed k.key); named = added y.named k.key }

abbrev pub naming_all : Harmony → List HarmonyKey → Harmony
naming_all y [] = y
naming_all y (k ∷ ks) = naming_all (naming y k) ks

abbrev pub nothing_named : Harmony
nothing_named = record { needed = 0; named = 0 }

abbrev pub harmony_of : List HarmonyKey → Harmony
harmony_of ks = naming_all nothing_named ks
