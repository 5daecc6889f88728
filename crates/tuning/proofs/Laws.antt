-- What the definitions have, so that a reader can trust them: sentences of document 01 and of the manual as theorems. Assumes nothing.
use mathlib.Core.Path.{◌≡◌, refl, sym, ap, ◌∙◌, subst}
use mathlib.Core.Logic.{◌≢◌}
use mathlib.Core.Bool.{true, false, not, false≢true}
use mathlib.Core.List.{List, [], ◌∷◌, map}
use Prim.Native.Nat.{ℕ, zero, suc, ◌+◌, ◌≤◌, ◌<◌}
use native.Mathlib.Decide.{dec_lt}
use native.Mathlib.Nat.{add-zero}
use native.Mathlib.Omega.{arith}
use borrow.Author.Tests.{not-false}
use lib.IntN.{ℤ, pos, ◌-ℤ◌, +ℤ_idr, zero-*ℤ}
use lib.ListN.{length, length-map, get_or, get_or-map}
use lib.Signed.{le_z}
use Rattle.integers.specs.Parts.{up}
use Rattle.integers.proofs.Signed.{signed, abs, sum, diff}
use Rattle.integers.proofs.Difference.{one_mulℤ}
use Rattle.tuning.specs.declared.Amount.{Amount}
use Rattle.tuning.specs.declared.State.{State}
use Rattle.tuning.specs.Scale.{Sound, muted, sounds}
use Rattle.tuning.specs.Tuning.{Tuning, Action, anchor_to, width_to, period_to, tones_to, system, amounts, width, raised, tone_at, key_position, key_rise, sound_of, apart, reach_by, reach, anchored_by, widened_by, done, start}
use Rattle.tuning.specs.Desk.{cents, between, is_period, is_muted, any_beyond, first_failing, checks, if_taken, called}
use Rattle.tuning.specs.State.{places, held, coded, valid_state, replied}
use Rattle.tuning.proofs.Lists.{both}
use Rattle.tuning.proofs.Held.{ValidTuning, held_coded, coded_held, length_coded, valid_coded, valid_held}
use Rattle.tuning.proofs.Keys.{at_position, at_next, sound_at_step, keys_length, keys_at}
use Rattle.tuning.proofs.Changed.{new_length}
use Rattle.tuning.proofs.Outcomes.{passed, system_taken}

pub never : (d : ℤ) → ◌≡◌ {A = Sound ℤ} muted (sounds d) → ⊥
never d h = let z : ◌≡◌ {A = ℕ} 0 1 = cc in omega arith

pub raised_none : (t : Sound ℤ) → raised cents (pos 0) t ≡ t
raised_none muted = refl
raised_none (sounds z) = ap (λ (y : ℤ). sounds y) (+ℤ_idr z)

-- ---- "Key x has x - a = q·w + r with r from 0 to w-1; its pitch is t(r) + q·P, silent if t(r) is muted."

module _ (s : Tuning cents) where
  -- the positions are the keys from the anchor on
  pub position_sound : (i : ℕ) → i < width cents s → sound_of cents s (s.anchor + i) ≡ tone_at cents s i
  position_sound i h =
      sound_at_step cents s (s.anchor + i) (at_position cents s i h)
      ∙ ap (λ (z : ℤ). raised cents z (tone_at cents s i)) (zero-*ℤ s.period) ∙ raised_none (tone_at cents s i)

  -- the key after the last position has the tone of the first one, a period higher
  pub next_sound : 0 < width cents s → sound_of cents s (s.anchor + width cents s) ≡ raised cents s.period (tone_at cents s 0)
  next_sound h =
      sound_at_step cents s (s.anchor + width cents s) (at_next cents s h)
      ∙ ap (λ (z : ℤ). raised cents z (tone_at cents s 0)) (one_mulℤ s.period)

-- position 0 is the anchor's, even where there are no tones
first_sound : (s : Tuning cents) → sound_of cents s (s.anchor + 0) ≡ tone_at cents s 0
first_sound s = go s.tones
  where
    go : (l : List (Sound ℤ)) → sound_of cents (record { anchor = s.anchor; tones = l; period = s.period }) (s.anchor + 0) ≡ get_or l 0 muted
    go [] = refl
    go (t ∷ l) = position_sound (record { anchor = s.anchor; tones = t ∷ l; period = s.period }) 0 (omega arith)

-- ---- "A call with number 0 does what its line above says. Any other number changes nothing."

module _ (s : Tuning cents) (c : Action cents) where
  pub taken_does : (called s c).number ≡ 0 → (called s c).state ≡ done cents s c
  unfolding called
  taken_does h = rw h

  pub refused_keeps : (called s c).number ≢ 0 → (called s c).state ≡ s
  unfolding called
  refused_keeps h = go (first_failing (checks s c)) h
    where
      go : (n : ℕ) → n ≢ 0 → if_taken n (done cents s c) s ≡ s
      go zero k = absurd (k refl)
      go (suc n) k = refl

-- "Calling a tone system sets all four parts."
pub system_done : (s y : Tuning cents) → ((called s (system y)).number ≡ 0) × ((called s (system y)).state ≡ y)
system_done s y = rw system_taken (refl, refl)

-- ---- the distance leads from position 0 to the key

spanned : (y z : Sound ℤ) (d : ℤ) → apart cents y z ≡ sounds d → raised cents d y ≡ z
spanned muted z d h = absurd (never d h)
spanned (sounds t) muted d h = absurd (never d h)
spanned (sounds t) (sounds u) d h =
    let e : u -ℤ t ≡ d = cc in
    ap (λ (z : ℤ). sounds z) (omega (signed, e, sum t d, diff u t))

same_step : (c d : ℤ) → sounds c ≡ sounds d → c ≡ d
same_step c d h = cc

reach_sound : (s : Tuning cents) (x : ℕ) (d : ℤ) → reach cents s x ≡ sounds d → raised cents d (tone_at cents s 0) ≡ sound_of cents s x
reach_sound s x d h = go (key_position cents s x) refl h
  where
    go : (r : ℕ) → key_position cents s x ≡ r → reach_by cents r s x ≡ sounds d → raised cents d (tone_at cents s 0) ≡ sound_of cents s x
    go zero e k =
        let q = key_rise cents s x in
        ap (λ (z : ℤ). raised cents z (tone_at cents s 0)) (sym (same_step q d k)) ∙ ap (λ (r : ℕ). raised cents q (tone_at cents s r)) (sym e)
    go (suc r) e k = spanned (tone_at cents s 0) (sound_of cents s x) d k

-- a sound that is not muted
record Sounding (y : Sound ℤ) : Type 0 where
  at : ℤ
  is : y ≡ sounds at

sounding : (y : Sound ℤ) → is_muted y ≡ false → Sounding y
sounding muted h = absurd (false≢true (sym h))
sounding (sounds z) h = record { at = z; is = refl }

none_failed : (s : Tuning cents) (c : Action cents) → (called s c).number ≡ 0 → first_failing (checks s c) ≡ 0
unfolding called
none_failed s c h = h

-- ---- the manual: "this new anchor key remains at its frequency"

pub record AnchorKept (s new : Tuning cents) (b : ℕ) : Type 0 where
  pub anchor : new.anchor ≡ b
  pub sound : sound_of cents new b ≡ sound_of cents s b

anchored_kept : (s : Tuning cents) (b : ℕ) (d : ℤ) → reach cents s b ≡ sounds d → AnchorKept s (anchored_by cents s b (sounds d)) b
anchored_kept s b d r =
    let new = anchored_by cents s b (sounds d) in
    record {
      anchor = refl;
      sound = ap (sound_of cents new) (sym (add-zero b)) ∙ first_sound new ∙ get_or-map (raised cents d) s.tones 0 muted ∙ reach_sound s b d r;
    }

pub anchor_keeps : (s : Tuning cents) (m : Amount) → (called s (anchor_to m)).number ≡ 0 → AnchorKept s (called s (anchor_to m)).state (up (amounts m s.anchor))
anchor_keeps s m h =
    let b = up (amounts m s.anchor) in
    let f = passed _ _ _ (passed _ _ _ (none_failed s (anchor_to m) h)).1 in
    let r = sounding (reach cents s b) f.0 in
    subst (λ (t : Tuning cents). AnchorKept s t b) (sym (taken_does s (anchor_to m) h ∙ ap (anchored_by cents s b) r.is)) (anchored_kept s b r.at r.is)

-- ---- "new t(i) is the old pitch of key a+i; the new period is pitch(a+v) - t(0)": each key from the anchor to the anchor plus the new width keeps its sound

pub record WidthKept (s new : Tuning cents) (v : ℕ) : Type 0 where
  pub anchor : new.anchor ≡ s.anchor
  pub width : width cents new ≡ v
  pub sound : (i : ℕ) → i ≤ v → sound_of cents new (s.anchor + i) ≡ sound_of cents s (s.anchor + i)

module _ (s : Tuning cents) (v : ℕ) (l : 1 ≤ v) (d : ℤ) (r : reach cents s (s.anchor + v) ≡ sounds d) where
  new : Tuning cents
  new = widened_by cents s v (sounds d)

  inner : (i : ℕ) → i < v → sound_of cents new (s.anchor + i) ≡ sound_of cents s (s.anchor + i)
  unfolding new
  inner i h = position_sound new i (omega (arith, keys_length cents s s.anchor v)) ∙ keys_at cents s s.anchor v i h

  last : sound_of cents new (s.anchor + v) ≡ sound_of cents s (s.anchor + v)
  unfolding new
  last =
      ap (λ (k : ℕ). sound_of cents new (s.anchor + k)) (sym (keys_length cents s s.anchor v))
      ∙ next_sound new (omega (arith, keys_length cents s s.anchor v))
      ∙ ap (raised cents d) (keys_at cents s s.anchor v 0 l ∙ first_sound s)
      ∙ reach_sound s (s.anchor + v) d r

  widened_kept : WidthKept s (widened_by cents s v (sounds d)) v
  unfolding new
  widened_kept = record { anchor = refl; width = keys_length cents s s.anchor v; sound = go }
    where
      go : (i : ℕ) → i ≤ v → sound_of cents new (s.anchor + i) ≡ sound_of cents s (s.anchor + i)
      go i h = elim (dec_lt i v) [ yes k ↦ inner i k | no k ↦ ap (λ (j : ℕ). sound_of cents new (s.anchor + j)) (omega arith) ∙ last ∙ ap (λ (j : ℕ). sound_of cents s (s.anchor + j)) (omega arith) ]

in_range_holds : (low high : ℕ) (z : ℤ) → not (between (pos low) (pos high) z) ≡ false → (low ≤ up z) × (up z ≤ high)
in_range_holds low high z h =
    let b = both (le_z (pos low) z) (le_z z (pos high)) (not-false _ h) in
    (omega (signed, b.0), omega (signed, b.1, (abs z).apart))

-- a width that is taken is in its range
pub width_least : (s : Tuning cents) (m : Amount) → (called s (width_to m)).number ≡ 0 → 1 ≤ up (amounts m (width cents s))
width_least s m h = (in_range_holds 1 60 (amounts m (width cents s)) (passed _ _ _ (passed _ _ _ (none_failed s (width_to m) h)).1).0).0

pub width_keeps : (s : Tuning cents) (m : Amount) → (called s (width_to m)).number ≡ 0 → WidthKept s (called s (width_to m)).state (up (amounts m (width cents s)))
width_keeps s m h =
    let v = up (amounts m (width cents s)) in
    let f = passed _ _ _ (passed _ _ _ (passed _ _ _ (none_failed s (width_to m) h)).1).1 in
    let r = sounding (reach cents s (s.anchor + v)) f.0 in
    subst (λ (t : Tuning cents). WidthKept s t v) (sym (taken_does s (width_to m) h ∙ ap (widened_by cents s v) r.is))
    (widened_kept s v (width_least s m h) r.at r.is)

-- ---- a valid tuning stays valid under every call of a retuning, and of a valid tone system

abbrev pub ValidAction : Action cents → Type 0
ValidAction (anchor_to m) = Unit
ValidAction (width_to m) = Unit
ValidAction (period_to m) = Unit
ValidAction (tones_to l) = Unit
ValidAction (system y) = ValidTuning y

module _ (s : Tuning cents) (v : ValidTuning s) where
  anchored_valid : (b : ℕ) (r : Sound ℤ) → b ≤ 127 → any_beyond (anchored_by cents s b r).tones ≡ false → ValidTuning (anchored_by cents s b r)
  anchored_valid b muted h t = v
  anchored_valid b (sounds d) h t =
      let e : length (map (raised cents d) s.tones) ≡ length s.tones = length-map s.tones (raised cents d) in
      record { anchor = h; least = omega (arith, v.least); most = omega (arith, v.most); period = v.period; tones = t }

  widened_valid : (n : ℕ) (r : Sound ℤ) → (1 ≤ n) × (n ≤ places) → any_beyond (widened_by cents s n r).tones ≡ false → is_period (widened_by cents s n r).period ≡ true
      → ValidTuning (widened_by cents s n r)
  widened_valid n muted h t p = v
  widened_valid n (sounds d) h t p =
      let e = keys_length cents s s.anchor n in
      record { anchor = v.anchor; least = omega arith; most = omega arith; period = p; tones = t }

  done_valid : (c : Action cents) → ValidAction c → first_failing (checks s c) ≡ 0 → ValidTuning (done cents s c)
  done_valid (anchor_to m) a h =
      let z = amounts m s.anchor in
      let f = passed _ _ _ h in
      let g = passed _ _ _ (passed _ _ _ f.1).1 in
      anchored_valid (up z) (reach cents s (up z)) (in_range_holds 0 127 z f.0).1 g.0
  done_valid (width_to m) a h =
      let z = amounts m (width cents s) in
      let f = passed _ _ _ (passed _ _ _ h).1 in
      let g = passed _ _ _ (passed _ _ _ f.1).1 in
      widened_valid (up z) (reach cents s (s.anchor + up z)) (in_range_holds 1 60 z f.0) g.0 (not-false _ (passed _ _ _ g.1).0)
  done_valid (period_to m) a h = record { anchor = v.anchor; least = v.least; most = v.most; period = not-false _ (passed _ _ _ h).0; tones = v.tones }
  done_valid (tones_to l) a h =
      let e = new_length l s.tones in
      record { anchor = v.anchor; least = omega (arith, v.least); most = omega (arith, v.most); period = v.period; tones = (passed _ _ _ h).0 }
  done_valid (system y) a h = a

  pub valid_stays : (c : Action cents) → ValidAction c → ValidTuning (called s c).state
  unfolding called
  valid_stays c a = go (first_failing (checks s c)) refl
    where
      go : (n : ℕ) → first_failing (checks s c) ≡ n → ValidTuning (if_taken n (done cents s c) s)
      go zero e = done_valid c a e
      go (suc n) e = v

pub start_valid : ValidTuning (start cents)
unfolding any_beyond
start_valid = record { anchor = omega arith; least = omega arith; most = omega arith; period = refl; tones = refl }

-- ---- the same of the struct

-- it stands for the tuning that the call leaves
pub state_held : (s : State) (c : Action cents) → held (replied s c).state ≡ (called (held s) c).state
state_held s c = held_coded (called (held s) c).state

module _ (s : State) (h : valid_state s ≡ true) (n : length s.tones ≡ places) (c : Action cents) where
  -- "A retuning that is not taken leaves anchor, width, tones and period unchanged"
  pub state_kept : (replied s c).number ≢ 0 → (replied s c).state ≡ s
  state_kept k = ap coded (refused_keeps (held s) c k) ∙ coded_held s h n

  -- the next call finds a valid state of sixty places again
  pub state_valid : ValidAction c → (valid_state (replied s c).state ≡ true) × (length (replied s c).state.tones ≡ places)
  state_valid a =
      let v = valid_stays (held s) (valid_held s h n) c a in
      (valid_coded (called (held s) c).state v, length_coded (called (held s) c).state v.most)

pub start_state_valid : valid_state (coded (start cents)) ≡ true
start_state_valid = valid_coded (start cents) start_valid
