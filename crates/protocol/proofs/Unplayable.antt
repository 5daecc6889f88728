-- Document 02, 6/13: 15 is answered where a key asked sounds beyond what an instrument has, and nowhere else; and what a key's answer tells. Assumes nothing.
use mathlib.Core.Path.{◌≡◌, refl, sym, ap, ◌∙◌}
use mathlib.Core.Bool.{Bool, true, false, cond, false≢true}
use mathlib.Core.List.{List}
use Rattle.std.specs.Prelude.{Some}
use Rattle.std.proofs.lemmas.Option.{same_Some}
use Prim.Native.Nat.{ℕ, ◌≤◌, ◌<◌}
use native.Mathlib.Omega.{arith}
use borrow.Author.Tests.{le-ltb}
use lib.IntN.{ℤ, pos}
use lib.Signed.{le_z}
use Rattle.integers.proofs.Signed.{signed, abs}
use Rattle.limits.specs.Limits.{highest_pitch}
use Rattle.status.specs.Status.{done, key_unplayable}
use Rattle.tuning.specs.Scale.{Sound, muted, sounds}
use Rattle.tuning.specs.Desk.{is_playable, playable, is_muted}
use Rattle.tuning.proofs.Lists.{both}
use Rattle.tables.specs.Layout.{Tables}
use Rattle.frames.specs.Frames.{key, frame_of}
use Rattle.answers.specs.Answer.{smallest_buffer}
use Rattle.answers.specs.Told.{KeyTold, told_by}
use Rattle.answers.proofs.Told.{Told, key_told}
use Rattle.protocol.specs.declared.Desk.{Desk}
use Rattle.protocol.specs.Answers.{Outcome, sound_at, key_number, key_outcome, frame_outcome, valid_desk, answer_of}
use Rattle.protocol.specs.Unplayable.{AsksUnplayable, unplayable_outcome, Unplayable, WhereFifteen, told_of, PitchGiven}
use Rattle.protocol.proofs.Ways.{by_outcome}
use Rattle.protocol.proofs.Numbers.{OfFrames, asked_number, frame_number}

-- ---- where 15 is answered

-- what is asked sounds beyond
key_there : (d : Desk) (house k : ℕ) (z : ℤ) → sound_at d k ≡ sounds z → is_playable z ≡ false → key_outcome d house k ≡ unplayable_outcome d house k
unfolding key_outcome
key_there d house k z e out = rw (e, out)

module _ (t : Tables) (d : Desk) (frame : List ℕ) (room : ℕ) where
  frame_there : (a : AsksUnplayable d frame) → frame_outcome t d (frame_of frame) ≡ unplayable_outcome d a.house a.asked
  unfolding frame_outcome
  frame_there a = rw a.read (key_there d a.house a.asked a.pitch a.sounding a.beyond)

  there : smallest_buffer ≤ room → valid_desk t d ≡ true → AsksUnplayable d frame → (answer_of t d frame room).number ≡ key_unplayable
  unfolding answer_of
  there h v a = rw (le-ltb room smallest_buffer h, v) (ap (λ (o : Outcome). o.number) (frame_there a))

  -- what 15 says of the frame
  abbrev OnFifteen : ℕ → Type 0
  OnFifteen n = n ≡ key_unplayable → AsksUnplayable d frame

  others : OfFrames OnFifteen
  others = record {
    call = record {
      taken = λ e. absurd (omega arith);
      divided = λ e. absurd (omega arith);
      anchor = λ e. absurd (omega arith);
      width = λ e. absurd (omega arith);
      period = λ e. absurd (omega arith);
      ends = λ e. absurd (omega arith);
      tone = λ e. absurd (omega arith);
    };
    held = λ e. absurd (omega arith);
    unheld = λ e. absurd (omega arith);
    unbound = λ e. absurd (omega arith);
    bad = λ e. absurd (omega arith);
  }

  asked : (house k : ℕ) → frame_of frame ≡ key house k → OnFifteen (key_number (sound_at d k))
  asked house k read = go (sound_at d k) refl
    where
      by_test : (z : ℤ) → sound_at d k ≡ sounds z → (b : Bool) → is_playable z ≡ b → OnFifteen (cond b 0 key_unplayable)
      by_test z s true e = λ n. absurd (omega arith)
      by_test z s false e = λ n. record { house = house; asked = k; pitch = z; read = read; sounding = s; beyond = e }

      go : (x : Sound ℤ) → sound_at d k ≡ x → OnFifteen (key_number x)
      go muted s = λ n. absurd (omega arith)
      go (sounds z) s = by_test z s (is_playable z) refl

  only : (answer_of t d frame room).number ≡ key_unplayable → Unplayable d frame (answer_of t d frame room)
  only =
      by_outcome t d frame room (λ (o : Outcome). o.number ≡ key_unplayable → Unplayable d frame o) (λ e. absurd (omega arith)) (λ v e. absurd (omega arith))
      (λ v e. let a = frame_number OnFifteen others t d (frame_of frame) asked e in record { asks = a; whole = frame_there a })

pub where_fifteen : WhereFifteen
unfolding WhereFifteen
where_fifteen t d frame room = record { there = there t d frame room; only = only t d frame room }

-- ---- what the line tells

playable_told : (x : Sound ℤ) → Told (playable x)
playable_told muted = tt
playable_told (sounds z) = go (is_playable z) refl
  where
    go : (b : Bool) → is_playable z ≡ b → Told (cond b (sounds z) muted)
    go true e = let r = both (le_z (pos 0) z) (le_z z (pos highest_pitch)) e in omega (signed, r.0, r.1, abs z)
    go false e = tt

number_small : (x : Sound ℤ) → key_number x < 256
number_small = asked_number (λ (n : ℕ). n < 256) (omega arith) (omega arith) (omega arith)

-- of a key asked: its number, and its pitch where an instrument has it
pub asked_told : (d : Desk) (house k : ℕ) → house < 256 → k < 256 → told_by (key_outcome d house k).line ≡ Some (told_of (sound_at d k))
unfolding key_outcome
asked_told d house k a b = let x = sound_at d k in key_told house k (key_number x) a b (number_small x) (playable x) (playable_told x)

-- a sound that an instrument has is the key's own
module _ (z : ℤ) where
  silent_sounds : muted ≡ sounds z → ⊥
  silent_sounds e = false≢true (sym (ap is_muted e))

  pub has_pitch : (x : Sound ℤ) → playable x ≡ sounds z → (is_playable z ≡ true) × (x ≡ sounds z) × (key_number x ≡ done)
  has_pitch muted e = absurd (silent_sounds e)
  has_pitch (sounds y) e = go (is_playable y) refl e
    where
      go : (b : Bool) → is_playable y ≡ b → cond b (sounds y) muted ≡ sounds z
          → (is_playable z ≡ true) × (sounds y ≡ sounds z) × (cond b done key_unplayable ≡ done)
      go true p e = let same : y ≡ z = cc in (ap is_playable (sym same) ∙ p, e, refl)
      go false p e = absurd (silent_sounds e)

pub pitch_given : PitchGiven
unfolding PitchGiven
pitch_given d house k a b told e z s =
    let same : told ≡ told_of (sound_at d k) = same_Some _ _ (sym e ∙ asked_told d house k a b) in
    let h = has_pitch z (sound_at d k) (sym (ap (λ (x : KeyTold). x.sound) same) ∙ s) in
    record { within = h.0; sounding = h.1; number = ap (λ (x : KeyTold). x.number) same ∙ h.2 }
