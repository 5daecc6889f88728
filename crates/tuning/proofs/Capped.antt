-- On a valid tuning a call with a sum that is held as capped is the call with the sum itself: either way a result is out of range, and nothing changes.
-- Assumes nothing.
use mathlib.Core.Path.{◌≡◌, refl, sym, ◌∙◌, ap₂}
use mathlib.Core.Bool.{Bool, true, false, cond, ◌||◌, or-true, true≢false}
use mathlib.Core.List.{List, [], ◌∷◌, map}
use Prim.Native.Nat.{◌*◌, ◌≤◌, ◌<◌}
use lib.IntN.{ℤ, pos, negsuc, nat_abs, ◌+ℤ◌}
use lib.Signed.{le_z}
use Rattle.integers.proofs.Signed.{signed, abs, sum as sum-parts}
use Rattle.limits.specs.Limits.{farthest_tone}
use Rattle.tuning.specs.Scale.{Sound, muted, sounds}
use Rattle.tuning.specs.Tuning.{Tuning, PeriodTo, fresh, onward, PositionTo, mute, move, set_to, period_to, tones_to, new_tone, new_tones}
use Rattle.tuning.specs.Desk.{cents, is_period, beyond, any_beyond, called}
use Rattle.tuning.specs.Capped.{capped, capped_to, capped_period}
use Rattle.tuning.specs.declared.Tone.TheVariants.{At}
use Rattle.tuning.proofs.Valid.{period_size, allowed_size}
use Rattle.tuning.proofs.Held.{ValidTuning}
use Rattle.tuning.proofs.Outcomes.{period_out, tones_beyond}

-- ---- a number, and what it is held as

-- no tone and no period
abbrev Out : ℤ → Type 0
Out z = farthest_tone < nat_abs z

-- past twice the range of tones
abbrev Far : ℤ → Type 0
Far z = 2 * farthest_tone < nat_abs z

pub data Alike : ℤ → ℤ → Type 0 where
  same : {z : ℤ} → Alike z z
  far : {y z : ℤ} → Far y → Far z → Alike y z

pub capped_alike : (z : ℤ) → Alike (capped z) z
capped_alike z = low (le_z z (negsuc 200_000_000)) refl
  where
    high : (b : Bool) → le_z (pos 200_000_001) z ≡ b → Alike (cond b (pos 200_000_001) z) z
    high true e = far {y = pos 200_000_001} {z = z} (omega signed) (omega (signed, e, abs z))
    high false e = same

    low : (b : Bool) → le_z z (negsuc 200_000_000) ≡ b → Alike (cond b (negsuc 200_000_000) (cond (le_z (pos 200_000_001) z) (pos 200_000_001) z)) z
    low true e = far {y = negsuc 200_000_000} {z = z} (omega signed) (omega (signed, e, abs z))
    low false e = high (le_z (pos 200_000_001) z) refl

far_out : (z : ℤ) → Far z → Out z
far_out z h = omega signed

-- added to a number in range too
added_out : (t z : ℤ) → nat_abs t ≤ farthest_tone → Far z → Out (t +ℤ z)
added_out t z h k = omega (signed, sum-parts t z, abs t, abs z, abs (t +ℤ z))

out_period : (z : ℤ) → Out z → is_period z ≡ false
out_period z h = go (is_period z) refl
  where
    go : (b : Bool) → is_period z ≡ b → b ≡ false
    go true e = let s = period_size z e in absurd (omega signed)
    go false e = refl

tone_size : (z : ℤ) → beyond (sounds z) ≡ false → nat_abs z ≤ farthest_tone
tone_size z h = allowed_size (At (record { 0 = z })) h

out_tone : (z : ℤ) → Out z → beyond (sounds z) ≡ true
out_tone z h = go (beyond (sounds z)) refl
  where
    go : (b : Bool) → beyond (sounds z) ≡ b → b ≡ true
    go true e = refl
    go false e = let s = tone_size z e in absurd (omega signed)

-- ---- a period

module _ (s : Tuning cents) (v : ValidTuning s) where
  pub fresh_alike : {y z : ℤ} → Alike y z → called s (period_to (fresh y)) ≡ called s (period_to (fresh z))
  fresh_alike same = refl
  fresh_alike (far {y} {z} k l) =
      period_out s (fresh y) (out_period y (far_out y k)) ∙ sym (period_out s (fresh z) (out_period z (far_out z l)))

  onward_out : (z : ℤ) → Far z → is_period (s.period +ℤ z) ≡ false
  onward_out z k = let h = period_size s.period v.period in out_period (s.period +ℤ z) (added_out s.period z (omega signed) k)

  pub onward_alike : {y z : ℤ} → Alike y z → called s (period_to (onward y)) ≡ called s (period_to (onward z))
  onward_alike same = refl
  onward_alike (far {y} {z} k l) = period_out s (onward y) (onward_out y k) ∙ sym (period_out s (onward z) (onward_out z l))

-- ---- the positions of a tones retuning

pub data PositionAlike : PositionTo cents → PositionTo cents → Type 0 where
  both_mute : PositionAlike mute mute
  both_move : {y z : ℤ} → Alike y z → PositionAlike (move y) (move z)
  both_set : {y z : ℤ} → Alike y z → PositionAlike (set_to y) (set_to z)

pub data PositionsAlike : List (PositionTo cents) → List (PositionTo cents) → Type 0 where
  no_position : PositionsAlike [] []
  position_and : {x y : PositionTo cents} {l m : List (PositionTo cents)} → PositionAlike x y → PositionsAlike l m → PositionsAlike (x ∷ l) (y ∷ m)

-- equal, or both out of range
data Result {A : Type 0} (out : A → Bool) (x y : A) : Type 0 where
  equal : x ≡ y → Result out x y
  both_out : out x ≡ true → out y ≡ true → Result out x y

tone_alike : {x y : PositionTo cents} → PositionAlike x y → (t : Sound ℤ) → beyond t ≡ false → Result beyond (new_tone cents x t) (new_tone cents y t)
tone_alike both_mute t h = equal refl
tone_alike (both_move same) t h = equal refl
tone_alike (both_move (far k l)) muted h = equal refl
tone_alike (both_move (far {y} {z} k l)) (sounds t) h =
    both_out (out_tone (t +ℤ y) (added_out t y (tone_size t h) k)) (out_tone (t +ℤ z) (added_out t z (tone_size t h) l))
tone_alike (both_set same) t h = equal refl
tone_alike (both_set (far {y} {z} k l)) t h = both_out (out_tone y (far_out y k)) (out_tone z (far_out z l))

neither : (a b : Bool) → a || b ≡ false → (a ≡ false) × (b ≡ false)
neither false b h = (refl, h)
neither true b h = absurd (true≢false h)

tones_alike : {l m : List (PositionTo cents)} → PositionsAlike l m → (ts : List (Sound ℤ)) → any_beyond ts ≡ false
    → Result any_beyond (new_tones cents l ts) (new_tones cents m ts)
unfolding any_beyond
tones_alike no_position ts h = equal refl
tones_alike (position_and k p) [] h = equal refl
tones_alike (position_and {x} {y} {l} {m} k p) (t ∷ ts) h =
    let n = neither (beyond t) (any_beyond ts) h in
    joined (tone_alike k t n.0) (tones_alike p ts n.1)
  where
    joined : {t u : Sound ℤ} {ts us : List (Sound ℤ)} → Result beyond t u → Result any_beyond ts us → Result any_beyond (t ∷ ts) (u ∷ us)
    joined (both_out a b) r = both_out (rw a) (rw b)
    joined {t} {u} (equal e) (both_out a b) = both_out (rw a (or-true (beyond t))) (rw b (or-true (beyond u)))
    joined (equal e) (equal f) = equal (ap₂ (λ (x : Sound ℤ) (l : List (Sound ℤ)). x ∷ l) e f)

same_tones : (s : Tuning cents) (l m : List (PositionTo cents)) → new_tones cents l s.tones ≡ new_tones cents m s.tones
    → called s (tones_to l) ≡ called s (tones_to m)
unfolding called
same_tones s l m e = rw e

pub list_alike : (s : Tuning cents) → ValidTuning s → {l m : List (PositionTo cents)} → PositionsAlike l m → called s (tones_to l) ≡ called s (tones_to m)
list_alike s v {l} {m} p = go (tones_alike p s.tones v.tones)
  where
    go : Result any_beyond (new_tones cents l s.tones) (new_tones cents m s.tones) → called s (tones_to l) ≡ called s (tones_to m)
    go (equal e) = same_tones s l m e
    go (both_out a b) = tones_beyond s l a ∙ sym (tones_beyond s m b)

-- ---- what is added, capped

position_capped : (x : PositionTo cents) → PositionAlike (capped_to x) x
position_capped mute = both_mute
position_capped (move d) = both_move (capped_alike d)
position_capped (set_to u) = both_set same

positions_capped : (l : List (PositionTo cents)) → PositionsAlike (map capped_to l) l
positions_capped [] = no_position
positions_capped (x ∷ l) = position_and (position_capped x) (positions_capped l)

module _ (s : Tuning cents) (v : ValidTuning s) where
  pub capped_tones : (l : List (PositionTo cents)) → called s (tones_to (map capped_to l)) ≡ called s (tones_to l)
  capped_tones l = list_alike s v (positions_capped l)

  pub capped_period_step : (m : PeriodTo cents) → called s (period_to (capped_period m)) ≡ called s (period_to m)
  capped_period_step (fresh d) = refl
  capped_period_step (onward d) = onward_alike s v (capped_alike d)
