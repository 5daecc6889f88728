-- A state of which a loop has changed the first i places, and what the three loops over the places come to. Assumes nothing.
use mathlib.Core.Path.{◌≡◌, refl, sym, ap, ◌∙◌, fun_ext}
use mathlib.Core.Bool.{true}
use mathlib.Core.List.{List, [], ◌∷◌, ◌++◌, map}
use Prim.Native.Nat.{ℕ, zero, suc, ◌+◌, ◌-◌, min, ◌≤◌, ◌<◌}
use native.Mathlib.Nat.{add-zero, sub-zero, suc-sub-suc}
use native.Mathlib.Numerals.{add-one}
use native.Mathlib.Omega.{arith}
use lib.IntN.{ℤ}
use lib.ListN.{length, length-map, get_or, set, take, replicate}
use Rattle.tuning.specs.declared.Tone.{Tone}
use Rattle.tuning.specs.declared.ToneChange.{ToneChange}
use Rattle.tuning.specs.declared.ToneChange.TheVariants.{Mute}
use Rattle.tuning.specs.declared.State.{State}
use Rattle.tuning.specs.declared.ToneChanges.{ToneChanges}
use Rattle.tuning.specs.Scale.{Sound, muted, sounds}
use Rattle.tuning.specs.Tuning.{Tuning, PositionTo, raised, sound_of, keys_from, new_tone, new_tones, tones_to, anchored_by, widened_by, done}
use Rattle.tuning.specs.Desk.{cents}
use Rattle.tuning.specs.Capped.{capped_to}
use Rattle.tuning.specs.State.{places, heard, tone_of, tone_meant, tones_meant, held, coded, valid_state}
use Rattle.tuning.proofs.Valid.{none}
use Rattle.tuning.proofs.Part.{part, part_none, part_get, part_set}
use Rattle.tuning.proofs.Keys.{keys_length}
use Rattle.tuning.proofs.Held.{unused, heard_tone, held_width, places_held, valid_held}

abbrev pub with_places : State → List Tone → State
with_places s l = record { anchor = s.anchor; width = s.width; tones = l; period = s.period }

abbrev pub changed : (ℕ → Tone → Tone) → ℕ → State → State
changed f i s = with_places s (part f i s.tones)

module _ (f : ℕ → Tone → Tone) (s : State) where
  pub changed_none : s ≡ changed f 0 s
  changed_none = ap (with_places s) (sym (part_none f s.tones))

  module _ (i : ℕ) (t : State) (e : t ≡ changed f i s) where
    -- the next place is as it was
    pub changed_get : get_or t.tones i none ≡ get_or s.tones i none
    changed_get = ap (λ (u : State). get_or u.tones i none) e ∙ part_get f i s.tones none

    pub changed_next : (p : Tone) → i < length s.tones → p ≡ f i (get_or s.tones i none) → with_places t (set t.tones i p) ≡ changed f (i + 1) s
    changed_next p h q =
        ap (λ (u : State). with_places u (set u.tones i p)) e
        ∙ ap (λ (x : Tone). with_places s (set (part f i s.tones) i x)) q
        ∙ ap (with_places s) (rw add-one (part_set f i s.tones none h))

-- ---- every sounding tone shifted

abbrev pub shifted : ℤ → Tone → Tone
shifted d p = tone_of (raised cents d (heard p))

pub shifted_places : (d : ℤ) (l us : List (Sound ℤ))
    → part (λ k. shifted d) (length l) (map tone_of (l ++ us)) ≡ map tone_of (map (raised cents d) l ++ us)
unfolding part
shifted_places d [] us = refl
shifted_places d (t ∷ l) us = rw (heard_tone t, shifted_places d l us)

-- ---- the keys from x on as the tones

module _ (s : Tuning cents) where
  abbrev pub keyed : ℕ → ℕ → Tone → Tone
  keyed x i p = tone_of (sound_of cents s (x + i))

  keyed_next : (x : ℕ) → ◌≡◌ {A = ℕ → Tone → Tone} (λ i. keyed x (suc i)) (keyed (suc x))
  keyed_next x = fun_ext (λ i. ap {B = Tone → Tone} (λ (k : ℕ). λ p. tone_of (sound_of cents s k)) (omega arith))

  places_muted : (n : ℕ) → replicate n none ≡ map tone_of (replicate n muted)
  places_muted zero = refl
  places_muted (suc n) = ap (λ (k : List Tone). none ∷ k) (places_muted n)

  pub keyed_places : (v n x : ℕ) → v ≤ n → part (keyed x) v (replicate n none) ≡ map tone_of (keys_from cents s x v ++ replicate (n - v) muted)
  unfolding part
  keyed_places zero n x h = rw sub-zero (places_muted n)
  keyed_places (suc v) zero x h = let e : ⊥ = omega arith in absurd e
  keyed_places (suc v) (suc n) x h = rw (add-zero, suc-sub-suc, keyed_next x, keyed_places v n (suc x) (omega arith))

-- ---- the tones within the width and the list

abbrev pub no_change : ToneChange
no_change = Mute

abbrev pub retoned : List ToneChange → ℕ → Tone → Tone
retoned l i p = tone_of (new_tone cents (capped_to (tone_meant (get_or l i no_change))) (heard p))

abbrev meanings : List ToneChange → List (PositionTo cents)
meanings l = map capped_to (map tone_meant l)

none_new : (l : List (PositionTo cents)) → new_tones cents l [] ≡ []
none_new [] = refl
none_new (x ∷ l) = refl

pub retoned_places : (l : List ToneChange) (ts : List (Sound ℤ)) (us : List (Sound ℤ)) (count n : ℕ) → length ts ≤ length l → n ≡ min (length ts) count
    → part (retoned l) n (map tone_of (ts ++ us)) ≡ map tone_of (new_tones cents (meanings (take count l)) ts ++ us)
unfolding part
retoned_places l [] us count zero h e = rw (none_new (meanings (take count l)))
retoned_places l [] us count (suc n) h e = let z : ⊥ = omega arith in absurd z
retoned_places [] (t ∷ ts) us count n h e = let z : ⊥ = omega arith in absurd z
retoned_places (x ∷ l) (t ∷ ts) us zero zero h e = refl
retoned_places (x ∷ l) (t ∷ ts) us zero (suc n) h e = let z : ⊥ = omega arith in absurd z
retoned_places (x ∷ l) (t ∷ ts) us (suc count) zero h e = let z : ⊥ = omega arith in absurd z
retoned_places (x ∷ l) (t ∷ ts) us (suc count) (suc n) h e = rw (heard_tone t, retoned_places l ts us count n (omega arith) (omega arith))

pub new_length : (l : List (PositionTo cents)) (ts : List (Sound ℤ)) → length (new_tones cents l ts) ≡ length ts
new_length [] ts = refl
new_length (x ∷ l) [] = refl
new_length (x ∷ l) (t ∷ ts) = ap suc (new_length l ts)

-- ---- the whole state after each of the three loops

-- a state with no place in use yet
abbrev pub blank : ℕ → ℕ → ℤ → State
blank a v d = record { anchor = record { 0 = a }; width = v; tones = replicate places none; period = record { 0 = d } }

pub keyed_state : (s : Tuning cents) (v : ℕ) (d : ℤ) → v ≤ places → changed (keyed s s.anchor) v (blank s.anchor v d) ≡ coded (widened_by cents s v (sounds d))
keyed_state s v d h = rw (keyed_places s v places s.anchor h, keys_length cents s s.anchor v)

module _ (s : State) (h : valid_state s ≡ true) (n : length s.tones ≡ places) where
  -- as many tones as the state has
  coded_places : (l : List (Sound ℤ)) → length l ≡ length (held s).tones → (p : List Tone) → p ≡ map tone_of (l ++ unused (held s).tones) → (a : ℕ) (d : ℤ)
      → ◌≡◌ {A = State} (record { anchor = record { 0 = a }; width = s.width; tones = p; period = record { 0 = d } }) (coded (record { anchor = a; tones = l; period = d }))
  coded_places l e p q a d = rw (q, e, held_width s h n)

  pub anchored_state : (b : ℕ) (d : ℤ) (i : ℕ) → i ≡ s.width
      → ◌≡◌ {A = State} (record { anchor = record { 0 = b }; width = s.width; tones = part (λ k. shifted d) i s.tones; period = s.period })
      (coded (anchored_by cents (held s) b (sounds d)))
  anchored_state b d i e =
      coded_places (map (raised cents d) (held s).tones) (length-map (held s).tones (raised cents d)) _
      (ap (part (λ k. shifted d) i) (sym (places_held s h n))
      ∙ ap (λ (k : ℕ). part (λ m. shifted d) k (map tone_of ((held s).tones ++ unused (held s).tones))) (e ∙ sym (held_width s h n))
      ∙ shifted_places d (held s).tones (unused (held s).tones))
      b s.period.0

  pub retoned_state : (l : ToneChanges) → length l.positions ≡ places → (i : ℕ) → i ≡ min s.width l.count
      → changed (retoned l.positions) i s ≡ coded (done cents (held s) (tones_to (map capped_to (tones_meant l))))
  retoned_state l m i e =
      coded_places (new_tones cents (map capped_to (tones_meant l)) (held s).tones) (new_length (map capped_to (tones_meant l)) (held s).tones) _
      (ap (part (retoned l.positions) i) (sym (places_held s h n))
      ∙ retoned_places l.positions (held s).tones (unused (held s).tones) l.count i (omega (arith, (valid_held s h n).most)) (rw (held_width s h n) e))
      s.anchor.0 s.period.0

  pub period_state : (d : ℤ) → ◌≡◌ {A = State} (record { anchor = s.anchor; width = s.width; tones = s.tones; period = record { 0 = d } })
      (coded (record { anchor = s.anchor.0; tones = (held s).tones; period = d }))
  period_state d = coded_places (held s).tones refl s.tones (sym (places_held s h n)) s.anchor.0 d
