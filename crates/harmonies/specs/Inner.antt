-- What the contracts of private functions cite besides.
use Rattle.std.specs.Prelude.{◌≡◌, Bool, ◌&&◌, ◌||◌, ℕ, ◌+◌, ◌%◌, ◌^◌, ◌<◌, eqb}
use Rattle.limits.specs.Limits.{most_positions}
use Rattle.sets.specs.Sets.{has, any}
use Rattle.keys.specs.declared.HeldKeys.{HeldKeys}
use Rattle.keys.specs.Keys.{word_size}
use Rattle.harmonies.specs.Harmonies.{is_down}

-- the set of the keys that either house holds, counted from one on
abbrev pub DownFrom : HeldKeys → ℕ → ℕ → Type 0
DownFrom h from keys = (i : ℕ) → i < word_size → has keys i ≡ is_down h (from + i)

-- whether a set of successive keys, the first at position `first`, has one at position s
abbrev pub reaches : ℕ → ℕ → ℕ → ℕ → Bool
reaches keys first width s = any word_size (λ i. has keys i && eqb ((first + i) % width) s)

-- a chord and the positions of such keys
pub record Joined (chord keys first width joined : ℕ) : Type 0 where
  pub members : (s : ℕ) → has joined s ≡ has chord s || reaches keys first width s
  pub within : joined < 2 ^ most_positions
