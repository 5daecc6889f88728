-- What the definitions come to: at the start no key is held, and after a key has gone down or up that one is or is not, and no other has changed.
use Rattle.std.specs.Prelude.{◌≡◌, Bool, true, false, ℕ, length}
use Rattle.keys.specs.declared.HeldKeys.{HeldKeys}
use Rattle.keys.specs.Keys.{Place, word_count, no_keys, is_held, with_key, without_key}

-- `none_held` of proofs/Laws.antt
abbrev pub NoneHeld : Type 0
NoneHeld = (house key : ℕ) → is_held no_keys house key ≡ false

-- the key of one house is held or not, and all others are as they were
pub record Only (before after : HeldKeys) (house key : ℕ) (held : Bool) : Type 0 where
  pub this : is_held after house key ≡ held
  pub others : (house' key' : ℕ) → Place house' key' → (house' ≡ house → key' ≡ key → ⊥) → is_held after house' key' ≡ is_held before house' key'

-- `only_this` of proofs/Laws.antt; a value of the code always has its four words
pub record OnlyThis : Type 0 where
  pub down : (h : HeldKeys) (house key : ℕ) → length h.words ≡ word_count → Place house key → Only h (with_key h house key) house key true
  pub up : (h : HeldKeys) (house key : ℕ) → length h.words ≡ word_count → Place house key → Only h (without_key h house key) house key false
