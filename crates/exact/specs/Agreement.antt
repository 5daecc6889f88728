-- The desk and the book agree. Demand 3: "the same anchor, width and silent keys, and each sounding key differs from its exact frequency by at most a
-- thousandth of a cent for each power of a declared number". What "at most" means is left to the comparison `near` of an entry with a distance from 440 hertz.
use Rattle.std.specs.Prelude.{◌≡◌, List, ℕ, ℤ, ◌-ℤ◌, Option}
use Rattle.cents.specs.Measure.{pitch440}
use Rattle.tuning.specs.Scale.{Sound, muted, sounds}
use Rattle.tuning.specs.Tuning.{Tuning, width, sound_of}
use Rattle.tuning.specs.Desk.{cents}
use Rattle.exact.specs.Entry.{Nearness}
use Rattle.exact.specs.Book.{Declared, Powers, entries, numbers_of, written}

-- a key: silent in one exactly where it is in the other, else near; its pitch less 6,900,000 is the distance from 440 hertz
pub data KeyAgrees (near : Nearness) (ds : List (Option Declared)) : Sound Powers → Sound ℤ → Type 0 where
  both_silent : KeyAgrees near ds muted muted
  both_sound : {e : Powers} {z : ℤ} → near (written (numbers_of ds) e) (z -ℤ pitch440) → KeyAgrees near ds (sounds e) (sounds z)

pub record Agrees (near : Nearness) (ds : List (Option Declared)) (desk : Tuning cents) (book : Tuning entries) : Type 0 where
  pub anchor : desk.anchor ≡ book.anchor
  pub width : width cents desk ≡ width entries book
  pub key : (x : ℕ) → KeyAgrees near ds (sound_of entries book x) (sound_of cents desk x)
