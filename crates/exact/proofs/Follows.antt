-- Two scales whose tones and steps stay related under all that can be done with them; then so do two tunings under each call.
use mathlib.Core.Path.{◌≡◌, refl, ap, subst}
use mathlib.Core.List.{List, [], ◌∷◌, map}
use Prim.Native.Nat.{ℕ, zero, suc, ◌+◌}
use lib.IntN.{ℤ, pos, sub_ℕ}
use lib.ListN.{get_or, length}
use Rattle.integers.specs.Parts.{up}
use Rattle.tuning.specs.declared.Amount.{Amount}
use Rattle.tuning.specs.Scale.{Scale, Sound, muted, sounds}
use Rattle.tuning.specs.Tuning.{Tuning, PeriodTo, fresh, onward, PositionTo, mute, move, set_to, Action, anchor_to, width_to, period_to, tones_to, system, amounts, raised, tone_at, key_position, key_periods, key_rise, sound_of, apart, reach_by, reach, anchored_by, anchored, keys_from, widened_by, widened, new_period, new_tone, new_tones, done, start_tones, start}

pub record Follows (A B : Scale) : Type 1 where
  pub tone : A.Tone → B.Tone → Type 0
  pub step : A.Step → B.Step → Type 0
  pub shift : {t d : _} {t' d' : _} → tone t t' → step d d' → tone (A.shift t d) (B.shift t' d')
  pub distance : {t u : _} {t' u' : _} → tone t t' → tone u u' → step (A.distance t u) (B.distance t' u')
  pub none : step A.none B.none
  pub add : {d e : _} {d' e' : _} → step d d' → step e e' → step (A.add d e) (B.add d' e')
  pub times : (k : ℤ) {d : _} {d' : _} → step d d' → step (A.times k d) (B.times k d')
  pub start440 : tone A.start440 B.start440
  pub start_root : step A.start_root B.start_root

-- muted on both sides, or sounding and related
pub data Both {A B : Type 0} (R : A → B → Type 0) : Sound A → Sound B → Type 0 where
  silent : Both R muted muted
  heard : {a : A} {b : B} → R a b → Both R (sounds a) (sounds b)

pub data AllBoth {A B : Type 0} (R : A → B → Type 0) : List (Sound A) → List (Sound B) → Type 0 where
  empty : AllBoth R [] []
  with : {x : Sound A} {y : Sound B} {l : List (Sound A)} {m : List (Sound B)} → Both R x y → AllBoth R l m → AllBoth R (x ∷ l) (y ∷ m)

module _ {A B : Type 0} (R : A → B → Type 0) where
  at_both : {l : List (Sound A)} {m : List (Sound B)} → AllBoth R l m → (r : ℕ) → Both R (get_or l r muted) (get_or m r muted)
  at_both empty r = silent
  at_both (with h t) zero = h
  at_both (with h t) (suc r) = at_both t r

  pub same_length : {l : List (Sound A)} {m : List (Sound B)} → AllBoth R l m → length l ≡ length m
  same_length empty = refl
  same_length (with h t) = ap suc (same_length t)

-- The invariant: the same anchor, the tones position by position, the period.
pub record Agree {A B : Scale} (F : Follows A B) (s : Tuning A) (t : Tuning B) : Type 0 where
  pub anchor : s.anchor ≡ t.anchor
  pub tones : AllBoth F.tone s.tones t.tones
  pub period : F.step s.period t.period

-- two calls that are worked out alike
pub data PeriodBoth {A B : Scale} (F : Follows A B) : PeriodTo A → PeriodTo B → Type 0 where
  both_fresh : {d : A.Step} {e : B.Step} → F.step d e → PeriodBoth F (fresh d) (fresh e)
  both_onward : {d : A.Step} {e : B.Step} → F.step d e → PeriodBoth F (onward d) (onward e)

pub data PositionBoth {A B : Scale} (F : Follows A B) : PositionTo A → PositionTo B → Type 0 where
  both_mute : PositionBoth F mute mute
  both_move : {d : A.Step} {e : B.Step} → F.step d e → PositionBoth F (move d) (move e)
  both_set : {t : A.Tone} {u : B.Tone} → F.tone t u → PositionBoth F (set_to t) (set_to u)

pub data PositionsBoth {A B : Scale} (F : Follows A B) : List (PositionTo A) → List (PositionTo B) → Type 0 where
  no_positions_case : PositionsBoth F [] []
  position : {x : PositionTo A} {y : PositionTo B} {l : List (PositionTo A)} {m : List (PositionTo B)} → PositionBoth F x y → PositionsBoth F l m → PositionsBoth F (x ∷ l) (y ∷ m)

pub data ActionBoth {A B : Scale} (F : Follows A B) : Action A → Action B → Type 0 where
  both_anchor : (m : Amount) → ActionBoth F (anchor_to m) (anchor_to m)
  both_width : (m : Amount) → ActionBoth F (width_to m) (width_to m)
  both_period : {m : PeriodTo A} {n : PeriodTo B} → PeriodBoth F m n → ActionBoth F (period_to m) (period_to n)
  both_tones : {l : List (PositionTo A)} {m : List (PositionTo B)} → PositionsBoth F l m → ActionBoth F (tones_to l) (tones_to m)
  both_system : {s : Tuning A} {t : Tuning B} → Agree F s t → ActionBoth F (system s) (system t)

module _ (A B : Scale) (F : Follows A B) where
  -- ---- the sound of a key

  raised_follows : {d : A.Step} {e : B.Step} {x : Sound A.Tone} {y : Sound B.Tone} → F.step d e → Both F.tone x y → Both F.tone (raised A d x) (raised B e y)
  raised_follows h silent = silent
  raised_follows h (heard k) = heard (F.shift k h)

  -- a key has the same place in both
  same_position : (s : Tuning A) (t : Tuning B) → Agree F s t → (x : ℕ) → key_position A s x ≡ key_position B t x
  same_position s t h x = rw (h.anchor, same_length F.tone h.tones)

  same_periods : (s : Tuning A) (t : Tuning B) → Agree F s t → (x : ℕ) → key_periods A s x ≡ key_periods B t x
  same_periods s t h x = rw (h.anchor, same_length F.tone h.tones)

  rise_follows : (s : Tuning A) (t : Tuning B) → Agree F s t → (x : ℕ) → F.step (key_rise A s x) (key_rise B t x)
  rise_follows s t h x = subst (λ (q : ℤ). F.step (key_rise A s x) (B.times q t.period)) (same_periods s t h x) (F.times (key_periods A s x) h.period)

  pub sound_follows : (s : Tuning A) (t : Tuning B) → Agree F s t → (x : ℕ) → Both F.tone (sound_of A s x) (sound_of B t x)
  sound_follows s t h x =
      let r = key_position A s x in
      raised_follows (rise_follows s t h x) (subst (λ (n : ℕ). Both F.tone (tone_at A s r) (tone_at B t n)) (same_position s t h x) (at_both F.tone h.tones r))

  apart_follows : {x y : Sound A.Tone} {x' y' : Sound B.Tone} → Both F.tone x x' → Both F.tone y y' → Both F.step (apart A x y) (apart B x' y')
  apart_follows silent k = silent
  apart_follows (heard h) silent = silent
  apart_follows (heard h) (heard k) = heard (F.distance k h)

  reach_by_step : (s : Tuning A) (t : Tuning B) → Agree F s t → (r x : ℕ) → Both F.step (reach_by A r s x) (reach_by B r t x)
  reach_by_step s t h zero x = heard (rise_follows s t h x)
  reach_by_step s t h (suc r) x = apart_follows (at_both F.tone h.tones 0) (sound_follows s t h x)

  reach_follows : (s : Tuning A) (t : Tuning B) → Agree F s t → (x : ℕ) → Both F.step (reach A s x) (reach B t x)
  reach_follows s t h x = subst (λ (n : ℕ). Both F.step (reach A s x) (reach_by B n t x)) (same_position s t h x) (reach_by_step s t h (key_position A s x) x)

  -- ---- one law for each call

  map_raised : {d : A.Step} {e : B.Step} {l : List (Sound A.Tone)} {m : List (Sound B.Tone)} → F.step d e → AllBoth F.tone l m
      → AllBoth F.tone (map (raised A d) l) (map (raised B e) m)
  map_raised h empty = empty
  map_raised h (with k t) = with (raised_follows h k) (map_raised h t)

  anchored_by_step : (s : Tuning A) (t : Tuning B) (b : ℕ) → Agree F s t → {x : Sound A.Step} {y : Sound B.Step} → Both F.step x y
      → Agree F (anchored_by A s b x) (anchored_by B t b y)
  anchored_by_step s t b h silent = h
  anchored_by_step s t b h (heard k) = record { anchor = refl; tones = map_raised k h.tones; period = h.period }

  pub anchor_follows : (s : Tuning A) (t : Tuning B) → Agree F s t → (b : ℕ) → Agree F (anchored A s b) (anchored B t b)
  anchor_follows s t h b = anchored_by_step s t b h (reach_follows s t h b)

  keys_follow : (s : Tuning A) (t : Tuning B) → Agree F s t → (n x : ℕ) → AllBoth F.tone (keys_from A s x n) (keys_from B t x n)
  keys_follow s t h zero x = empty
  keys_follow s t h (suc n) x = with (sound_follows s t h x) (keys_follow s t h n (suc x))

  widened_by_step : (s : Tuning A) (t : Tuning B) (v : ℕ) → Agree F s t → {x : Sound A.Step} {y : Sound B.Step} → Both F.step x y
      → Agree F (widened_by A s v x) (widened_by B t v y)
  widened_by_step s t v h silent = h
  widened_by_step s t v h (heard k) = record { anchor = h.anchor; tones = keys; period = k }
    where
      keys : AllBoth F.tone (keys_from A s s.anchor v) (keys_from B t t.anchor v)
      keys = subst (λ a. AllBoth F.tone (keys_from A s s.anchor v) (keys_from B t a v)) h.anchor (keys_follow s t h v s.anchor)

  pub width_follows : (s : Tuning A) (t : Tuning B) → Agree F s t → (v : ℕ) → Agree F (widened A s v) (widened B t v)
  width_follows s t h v =
      widened_by_step s t v h (subst (λ a. Both F.step (reach A s (s.anchor + v)) (reach B t (a + v))) h.anchor (reach_follows s t h (s.anchor + v)))

  new_period_step : {P : A.Step} {Q : B.Step} → F.step P Q → {m : PeriodTo A} {n : PeriodTo B} → PeriodBoth F m n → F.step (new_period A P m) (new_period B Q n)
  new_period_step h (both_fresh k) = k
  new_period_step h (both_onward k) = F.add h k

  pub period_follows : (s : Tuning A) (t : Tuning B) → Agree F s t → (m : PeriodTo A) (n : PeriodTo B) → PeriodBoth F m n → Agree F (done A s (period_to m)) (done B t (period_to n))
  period_follows s t h m n k = record { anchor = h.anchor; tones = h.tones; period = new_period_step h.period k }

  new_tone_step : {x : Sound A.Tone} {y : Sound B.Tone} → Both F.tone x y → {m : PositionTo A} {n : PositionTo B} → PositionBoth F m n
      → Both F.tone (new_tone A m x) (new_tone B n y)
  new_tone_step h both_mute = silent
  new_tone_step h (both_move k) = raised_follows k h
  new_tone_step h (both_set k) = heard k

  new_tones_step : {l : List (PositionTo A)} {m : List (PositionTo B)} {x : List (Sound A.Tone)} {y : List (Sound B.Tone)} → PositionsBoth F l m → AllBoth F.tone x y
      → AllBoth F.tone (new_tones A l x) (new_tones B m y)
  new_tones_step no_positions_case h = h
  new_tones_step (position k l) empty = empty
  new_tones_step (position k l) (with h t) = with (new_tone_step h k) (new_tones_step l t)

  pub tones_follow : (s : Tuning A) (t : Tuning B) → Agree F s t → (l : List (PositionTo A)) (m : List (PositionTo B)) → PositionsBoth F l m
      → Agree F (done A s (tones_to l)) (done B t (tones_to m))
  tones_follow s t h l m k = record { anchor = h.anchor; tones = new_tones_step k h.tones; period = h.period }

  -- any call, worked out on both sides from related steps and tones
  pub done_follows : (s : Tuning A) (t : Tuning B) → Agree F s t → {c : Action A} {d : Action B} → ActionBoth F c d → Agree F (done A s c) (done B t d)
  done_follows s t h (both_anchor m) =
      subst (λ a. Agree F (anchored A s (up (amounts m s.anchor))) (anchored B t (up (amounts m a)))) h.anchor (anchor_follows s t h (up (amounts m s.anchor)))
  done_follows s t h (both_width m) =
      subst (λ w. Agree F (widened A s (up (amounts m (length s.tones)))) (widened B t (up (amounts m w)))) (same_length F.tone h.tones) (width_follows s t h (up (amounts m (length s.tones))))
  done_follows s t h (both_period {m} {n} k) = period_follows s t h m n k
  done_follows s t h (both_tones {l} {m} k) = tones_follow s t h l m k
  done_follows s t h (both_system k) = k

  start_tones_step : (n i : ℕ) → AllBoth F.tone (start_tones A i n) (start_tones B i n)
  start_tones_step zero i = empty
  start_tones_step (suc n) i = with (heard (F.shift F.start440 (F.times (sub_ℕ i 9) F.start_root))) (start_tones_step n (suc i))

  pub start_follows : Agree F (start A) (start B)
  start_follows = record { anchor = refl; tones = start_tones_step 12 0; period = F.times (pos 12) F.start_root }
