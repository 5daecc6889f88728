-- The state of a tone system and the positions of a tones retuning, as the code's loops fill them. Assumes nothing.
use mathlib.Core.Path.{◌≡◌, refl, ap}
use mathlib.Core.List.{List, [], ◌∷◌, ◌++◌, map, map-append}
use Prim.Native.Nat.{ℕ, zero, suc, ◌-◌}
use lib.ListN.{length, length-map, replicate}
use lib.Seq.{take_at}
use Rattle.cents.specs.declared.Interval.{Interval}
use Rattle.cents.specs.declared.KeyNumber.{KeyNumber}
use Rattle.tuning.specs.Scale.{muted}
use Rattle.tuning.specs.State.{places, heard, tone_of, coded, tone_meant, tones_meant}
use Rattle.tuning.specs.declared.State.{State}
use Rattle.tuning.specs.declared.Tone.{Tone}
use Rattle.tuning.specs.declared.Tone.TheVariants.{Muted, At}
use Rattle.tuning.specs.declared.ToneChange.{ToneChange}
use Rattle.tuning.specs.declared.ToneChange.TheVariants.{Mute}
use Rattle.tables.specs.Layout.{full}
use Rattle.tables.specs.Values.{system, listed}

-- a state whose first positions are these tones
abbrev pub holding : KeyNumber → ℕ → Interval → List Tone → State
holding a w P l = record { anchor = a; width = w; tones = full Muted places l; period = P }

heard_back : (l : List Tone) → map tone_of (map heard l) ≡ l
heard_back [] = refl
heard_back (Muted ∷ l) = ap (λ (k : List Tone). Muted ∷ k) (heard_back l)
heard_back (At p ∷ l) = ap (λ (k : List Tone). At p ∷ k) (heard_back l)

map_replicate : {A B : Type 0} (f : A → B) (n : ℕ) (x : A) → map f (replicate n x) ≡ replicate n (f x)
map_replicate f zero x = refl
map_replicate {B = B} f (suc n) x = ap (λ (k : List B). f x ∷ k) (map_replicate f n x)

tones_held : (l : List Tone) (n : ℕ) → map tone_of (map heard l ++ replicate n muted) ≡ l ++ replicate n Muted
tones_held l n = rw (map-append tone_of (map heard l) (replicate n muted), heard_back l, map_replicate tone_of n muted)

pub holding_all : (a : KeyNumber) (P : Interval) (l : List Tone) → holding a (length l) P l ≡ coded (system a.0 l P.0)
holding_all a P l = rw (length-map l heard, tones_held l (places - length l))

-- the positions of a tones retuning say what the list says
pub listed_meant : (l : List ToneChange) → tones_meant (listed l) ≡ map tone_meant l
listed_meant l = ap (map tone_meant) (take_at l (replicate (places - length l) Mute) (length l) refl)
