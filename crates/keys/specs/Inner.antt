-- A word of held keys, for those who read many keys at once.
use Rattle.std.specs.Prelude.{◌≡◌, ℕ, ◌+◌, ◌<◌}
use Rattle.sets.specs.Sets.{has}
use Rattle.keys.specs.declared.HeldKeys.{HeldKeys}
use Rattle.keys.specs.Keys.{word_size, is_held}

-- the set of the held keys of a house, counted from one on
abbrev pub HeldFrom : HeldKeys → ℕ → ℕ → ℕ → Type 0
HeldFrom h house from set = (i : ℕ) → i < word_size → has set i ≡ is_held h house (from + i)
