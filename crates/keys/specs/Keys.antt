-- Document 02, request 5/13: "Frames of kind 05 and 06 say that a key goes down or up in that house; the desk keeps the held keys of each."
use Rattle.std.specs.Prelude.{Bool, cond, ℕ, ◌+◌, ◌-◌, ◌*◌, ◌/◌, ◌%◌, ◌≤◌, ◌<◌, get_or, set, replicate, Result, Ok, Err}
use Rattle.status.specs.Status.{key_held, key_not_held}
use Rattle.sets.specs.Sets.{has, added, removed}
use Rattle.keys.specs.declared.HeldKeys.{HeldKeys}

-- the keys of a house: "a key 00 to 7F"
abbrev pub key_count : ℕ
key_count = 128

-- "house, 01 or 02", and one of its keys
pub record Place (house key : ℕ) : Type 0 where
  pub first : 1 ≤ house
  pub last : house ≤ 2
  pub high : key < key_count

-- ---- the first house's keys, then the second's, 64 to a word

abbrev pub place : ℕ → ℕ → ℕ
place house key = (house - 1) * key_count + key

abbrev pub word_size : ℕ
word_size = 64

abbrev pub word_count : ℕ
word_count = 4

abbrev pub word_of : HeldKeys → ℕ → ℕ
word_of h p = get_or h.words (p / word_size) 0

abbrev pub with_word : HeldKeys → ℕ → ℕ → HeldKeys
with_word h p word = record { words = set h.words (p / word_size) word }

-- whether that house holds that key
abbrev pub is_held : HeldKeys → ℕ → ℕ → Bool
is_held h house key = let p = place house key in has (word_of h p) (p % word_size)

-- at the start no key is held
abbrev pub no_keys : HeldKeys
no_keys = record { words = replicate word_count 0 }

-- the held keys and this one, the held keys without it
abbrev pub with_key : HeldKeys → ℕ → ℕ → HeldKeys
with_key h house key = let p = place house key in with_word h p (added (word_of h p) (p % word_size))

abbrev pub without_key : HeldKeys → ℕ → ℕ → HeldKeys
without_key h house key = let p = place house key in with_word h p (removed (word_of h p) (p % word_size))

-- ---- a key goes down or up: the held keys then, or the number that it is refused with

-- "17 for a key already held in that house"
abbrev pub went_down : HeldKeys → ℕ → ℕ → Result HeldKeys ℕ
went_down h house key = cond (is_held h house key) (Err key_held) (Ok (with_key h house key))

-- "18 for one not held"
abbrev pub went_up : HeldKeys → ℕ → ℕ → Result HeldKeys ℕ
went_up h house key = cond (is_held h house key) (Ok (without_key h house key)) (Err key_not_held)
