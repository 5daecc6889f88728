-- Document 02, 2/13, "A scale whose first key is muted": the theorems of specs/FirstMuted.antt. Assumes nothing.
use mathlib.Core.Path.{◌≡◌, refl, sym, ap, ◌∙◌, subst, fun_ext}
use mathlib.Core.Logic.Iff
use mathlib.Core.Logic.{◌≢◌, ◌↔◌, ◌⊎◌, inl, inr}
use mathlib.Core.Bool.{Bool, true, false, not, false≢true}
use mathlib.Core.List.{List, ◌∷◌, map, map-id}
use Prim.Native.Nat.{ℕ, zero, suc, ◌+◌, ◌≤◌, ◌<◌}
use native.Mathlib.Nat.{add-zero}
use native.Mathlib.Omega.{arith}
use borrow.Author.Tests.{not-false}
use lib.IntN.{ℤ, pos, sub_ℕ, ◌+ℤ◌, ◌-ℤ◌, ◌*ℤ◌, +ℤ_comm, +ℤ_assoc, +ℤ-neg_ℤ_cancel, -ℤ-+ℤ_cancel, zero-*ℤ}
use lib.ListN.{length, length-map, get_or-map}
use lib.Seq.{ext_get_or}
use Rattle.integers.specs.Parts.{up}
use Rattle.integers.proofs.Signed.{signed, sum, minus}
use Rattle.integers.proofs.Difference.{add_mulℤ, mul_assocℤ, one_mulℤ}
use Rattle.status.specs.Status.{end_silent}
use Rattle.tuning.specs.declared.Amount.{Amount}
use Rattle.tuning.specs.declared.Amount.TheVariants.{Kept}
use Rattle.tuning.specs.declared.State.{State}
use Rattle.tuning.specs.Scale.{Scale, Sound, muted, sounds}
use Rattle.tuning.specs.Tuning.{Tuning, anchor_to, width_to, amounts, width, raised, tone_at, key_position, key_periods, key_rise, sound_of, apart, span_to, reach_by, reach, anchored_by, keys_from, widened_by}
use Rattle.tuning.specs.Desk.{cents, is_muted, any_beyond, Check, first_failing, unreached, called}
use Rattle.tuning.specs.State.{places, held, valid_state}
use Rattle.tuning.specs.FirstMuted.{SoundingFirst, new_anchor, past_width, EitherSilent, Thirteen, SameKeys, WholePeriods, CallsKeepKeys, KeptIsTaken, MutedFirst}
use Rattle.tuning.proofs.Held.{ValidTuning, coded_held, valid_held}
use Rattle.tuning.proofs.Keys.{At, at_position, at_next, keys_length, keys_at, key_sound, place_law, place_low}
use Rattle.tuning.proofs.Outcomes.{taken, none_fails, not_first, later, decides, reach_periods, reach_span, anchor_taken, width_taken, reply_taken}
use Rattle.tuning.proofs.Laws.{never, raised_none, position_sound, taken_does, width_least}

-- ---- what whole periods need of a scale: a step up from a tone leads that far, and multiples of a step add up as their numbers do

pub record Steps (S : Scale) : Type 0 where
  pub back : (t : S.Tone) (d : S.Step) → S.distance (S.shift t d) t ≡ d
  pub twice : (t : S.Tone) (j k : ℤ) (d : S.Step) → S.shift (S.shift t (S.times j d)) (S.times k d) ≡ S.shift t (S.times (j +ℤ k) d)
  pub many : (j k : ℤ) (d : S.Step) → S.times j (S.times k d) ≡ S.times (j *ℤ k) d

-- so it is with whole numbers
pub there_and_back : (t d : ℤ) → (t +ℤ d) -ℤ t ≡ d
there_and_back t d = ap (λ (z : ℤ). z -ℤ t) (+ℤ_comm t d) ∙ +ℤ-neg_ℤ_cancel d t

pub add_twice : (t j k d : ℤ) → (t +ℤ j *ℤ d) +ℤ k *ℤ d ≡ t +ℤ (j +ℤ k) *ℤ d
add_twice t j k d = +ℤ_assoc t (j *ℤ d) (k *ℤ d) ∙ ap (λ (z : ℤ). t +ℤ z) (sym (add_mulℤ j k d))

cents_steps : Steps cents
cents_steps = record { back = there_and_back; twice = add_twice; many = λ j k d. sym (mul_assocℤ j k d) }

-- ---- where position 0 sounds nothing changes

module _ (S : Scale) (L : Steps S) where
  pub sounding_first : SoundingFirst S
  sounding_first s t e x = go (key_position S s x) refl
    where
      go : (r : ℕ) → key_position S s x ≡ r → reach_by S r s x ≡ span_to S s x
      go zero k =
          let d = key_rise S s x in
          sym
          (ap (λ (r : ℕ). apart S (tone_at S s 0) (raised S d (tone_at S s r))) k
          ∙ ap (λ (y : Sound S.Tone). apart S y (raised S d y)) e
          ∙ ap (λ (z : S.Step). sounds z) (L.back t d))
      go (suc r) k = refl

-- ---- "13 narrows to r other than 0 with either end silent"

ends : (y z : Sound ℤ) → (apart cents y z ≡ muted) ↔ ((y ≡ muted) ⊎ (z ≡ muted))
ends y z = (forth y z, back y z)
  where
    forth : (y z : Sound ℤ) → apart cents y z ≡ muted → (y ≡ muted) ⊎ (z ≡ muted)
    forth muted z h = inl refl
    forth (sounds t) muted h = inr refl
    forth (sounds t) (sounds u) h = absurd (never (u -ℤ t) (sym h))

    back : (y z : Sound ℤ) → (y ≡ muted) ⊎ (z ≡ muted) → apart cents y z ≡ muted
    back muted z h = refl
    back (sounds t) muted h = refl
    back (sounds t) (sounds u) (inl e) = absurd (never t (sym e))
    back (sounds t) (sounds u) (inr e) = absurd (never u (sym e))

unreached_exactly : (s : Tuning cents) (x : ℕ) → (reach cents s x ≡ muted) ↔ EitherSilent s x
unreached_exactly s x = (forth, λ k. reach_span cents s x k.elsewhere ∙ (ends (tone_at cents s 0) (sound_of cents s x)).1 k.silent)
  where
    forth : reach cents s x ≡ muted → EitherSilent s x
    forth h =
        let other : key_position cents s x ≢ 0 = λ e. never (key_rise cents s x) (sym h ∙ reach_periods cents s x e) in
        record { elsewhere = other; silent = (ends (tone_at cents s 0) (sound_of cents s x)).0 (sym (reach_span cents s x other) ∙ h) }

muted_is : (y : Sound ℤ) → is_muted y ≡ true → y ≡ muted
muted_is muted h = refl
muted_is (sounds z) h = absurd (false≢true h)

-- what the checks ask is what the request says
asked : (s : Tuning cents) (x : ℕ) (b : Bool) → (not b ≡ false) × (is_muted (reach cents s x) ≡ true) ↔ (b ≡ true) × EitherSilent s x
asked s x b = (
  λ h. (not-false b h.0, (unreached_exactly s x).0 (muted_is (reach cents s x) h.1)),
  λ h. (ap not h.0, ap is_muted ((unreached_exactly s x).1 h.1)),
)

-- where a first check has passed
second : (n : ℕ) (s : Tuning cents) (x : ℕ) (b : Bool) (cs : List Check) → suc n ≢ end_silent → first_failing cs ≢ end_silent
    → (first_failing (record { number = suc n; fails = not b } ∷ unreached s x ∷ cs) ≡ end_silent) ↔ (b ≡ true) × EitherSilent s x
second n s x b cs h k = Iff.trans (later n end_silent (not b) (unreached s x ∷ cs) h) (Iff.trans (Iff.and Iff.rfl (decides 12 _ cs k)) (asked s x b))

pub thirteen : (s : Tuning cents) (m : Amount) → Thirteen s m
unfolding called
thirteen s m =
    record {
      anchor = second 9 s (new_anchor s m) _ _ (λ e. omega arith) (not_first 13 end_silent _ _ (λ e. omega arith) (none_fails end_silent (λ e. omega arith)));
      width =
          Iff.trans (later 24 end_silent _ _ (λ e. omega arith))
          (Iff.and Iff.rfl
          (second 10 s (past_width s m) _ _ (λ e. omega arith)
          (not_first 13 end_silent _ _ (λ e. omega arith) (not_first 11 end_silent _ _ (λ e. omega arith) (none_fails end_silent (λ e. omega arith))))));
    }

-- ---- "the distance shall be q times the period": by whole periods every key keeps its sound

difference : (q k : ℤ) → k +ℤ (q -ℤ k) ≡ q
difference q k = +ℤ_comm k (q -ℤ k) ∙ -ℤ-+ℤ_cancel q k

module _ (S : Scale) (L : Steps S) where
  raised_twice : (t : Sound S.Tone) (j k : ℤ) (d : S.Step) → raised S (S.times k d) (raised S (S.times j d) t) ≡ raised S (S.times (j +ℤ k) d) t
  raised_twice muted j k d = refl
  raised_twice (sounds t) j k d = ap (λ (u : S.Tone). sounds u) (L.twice t j k d)

  module _ (s : Tuning S) (wide : 0 < width S s) where
    carried : (b : ℕ) → key_position S s b ≡ 0 → SameKeys S s (anchored_by S s b (sounds (key_rise S s b)))
    carried b first x =
        let w = width S s in
        let q = key_periods S s x in
        let k = key_periods S s b in
        let r = key_position S s x in
        let d = key_rise S s b in
        let n : length (map (raised S d) s.tones) ≡ w = length-map s.tones (raised S d) in
        let parted : q *ℤ pos w ≡ k *ℤ pos w +ℤ (q -ℤ k) *ℤ pos w = ap (λ (z : ℤ). z *ℤ pos w) (sym (difference q k)) ∙ add_mulℤ k (q -ℤ k) (pos w) in
        let place : sub_ℕ x b ≡ (q -ℤ k) *ℤ pos w +ℤ pos r =
        omega (
          signed,
          place_law S s wide x,
          place_law S s wide b,
          first,
          parted,
          minus x b,
          minus x s.anchor,
          minus b s.anchor,
          sum (q *ℤ pos w) (pos r),
          sum (k *ℤ pos w) (pos (key_position S s b)),
          sum (k *ℤ pos w) ((q -ℤ k) *ℤ pos w),
          sum ((q -ℤ k) *ℤ pos w) (pos r),
        ) in
        key_sound S (anchored_by S s b (sounds d)) x (q -ℤ k) r (rw n (place_low S s wide x)) (rw n place)
        ∙ ap (raised S (S.times (q -ℤ k) s.period)) (get_or-map (raised S d) s.tones r muted)
        ∙ raised_twice (tone_at S s r) k (q -ℤ k) s.period
        ∙ ap (λ (z : ℤ). raised S (S.times z s.period) (tone_at S s r)) (difference q k)

    doubled : (v : ℕ) → 1 ≤ v → key_position S s (s.anchor + v) ≡ 0 → SameKeys S s (widened_by S s v (sounds (key_rise S s (s.anchor + v))))
    doubled v l first x =
        let w = width S s in
        let b = s.anchor + v in
        let new : Tuning S = widened_by S s v (sounds (key_rise S s b)) in
        let n : width S new ≡ v = keys_length S s s.anchor v in
        let k = key_periods S s b in
        let Q = key_periods S new x in
        let R = key_position S new x in
        let q = key_periods S s (s.anchor + R) in
        let r = key_position S s (s.anchor + R) in
        let far : 0 < width S new = omega (arith, n) in
        let low : R < v = omega (arith, n, place_low S new far x) in
        let wider : pos v ≡ k *ℤ pos w = omega (signed, place_law S s wide b, first, minus b s.anchor, sum (k *ℤ pos w) (pos (key_position S s b))) in
        let steps : Q *ℤ pos v ≡ (Q *ℤ k) *ℤ pos w = ap (λ (z : ℤ). Q *ℤ z) wider ∙ sym (mul_assocℤ Q k (pos w)) in
        let outer : sub_ℕ x s.anchor ≡ Q *ℤ pos v +ℤ pos R = place_law S new far x ∙ ap (λ (m : ℕ). Q *ℤ pos m +ℤ pos R) n in
        let place : sub_ℕ x s.anchor ≡ (q +ℤ Q *ℤ k) *ℤ pos w +ℤ pos r =
        omega (
          signed,
          outer,
          steps,
          place_law S s wide (s.anchor + R),
          minus (s.anchor + R) s.anchor,
          add_mulℤ q (Q *ℤ k) (pos w),
          sum (Q *ℤ pos v) (pos R),
          sum (q *ℤ pos w) (pos r),
          sum (q *ℤ pos w) ((Q *ℤ k) *ℤ pos w),
          sum ((q +ℤ Q *ℤ k) *ℤ pos w) (pos r),
        ) in
        ap (raised S (S.times Q (key_rise S s b))) (keys_at S s s.anchor v R low)
        ∙ ap (λ (d : S.Step). raised S d (sound_of S s (s.anchor + R))) (L.many Q k s.period)
        ∙ raised_twice (tone_at S s r) q (Q *ℤ k) s.period
        ∙ sym (key_sound S s x (q +ℤ Q *ℤ k) r (place_low S s wide (s.anchor + R)) place)

    pub whole_periods_holds : WholePeriods S s
    whole_periods_holds =
        record {
          anchor = λ b first. subst (λ (y : Sound S.Step). SameKeys S s (anchored_by S s b y)) (sym (reach_periods S s b first)) (carried b first);
          width = λ v l first. subst (λ (y : Sound S.Step). SameKeys S s (widened_by S s v y)) (sym (reach_periods S s (s.anchor + v) first)) (doubled v l first);
        }

-- the same of the calls
calls_keep_keys : (s : Tuning cents) → 0 < width cents s → (m : Amount) → CallsKeepKeys s m
calls_keep_keys s wide m =
    let kept = whole_periods_holds cents cents_steps s wide in
    record {
      anchor = λ first h. subst (SameKeys cents s) (sym (taken_does s (anchor_to m) h)) (kept.anchor (new_anchor s m) first);
      width = λ first h. subst (SameKeys cents s) (sym (taken_does s (width_to m) h)) (kept.width (up (amounts m (width cents s))) (width_least s m h) first);
    }

-- ---- `@ [ ]` and width `@`

module _ (t : Tuning cents) (v : ValidTuning t) where
  here : At cents t t.anchor (pos 0) 0
  here = subst (λ (x : ℕ). At cents t x (pos 0) 0) (add-zero t.anchor) (at_position cents t 0 v.least)

  next : At cents t (t.anchor + width cents t) (pos 1) 0
  next = at_next cents t v.least

  same_tones : map (raised cents (pos 0)) t.tones ≡ t.tones
  same_tones = ap (λ (f : Sound ℤ → Sound ℤ). map f t.tones) (fun_ext raised_none) ∙ map-id t.tones

  same_keys : keys_from cents t t.anchor (width cents t) ≡ t.tones
  same_keys =
      let n = keys_length cents t t.anchor (width cents t) in
      ext_get_or muted (keys_from cents t t.anchor (width cents t)) t.tones n
      (λ i l. let k : i < width cents t = omega (arith, n) in keys_at cents t t.anchor (width cents t) i k ∙ position_sound t i k)

  anchor_kept_case : called t (anchor_to Kept) ≡ taken t
  anchor_kept_case =
      let r : reach cents t t.anchor ≡ sounds (pos 0) =
      reach_periods cents t t.anchor here.r ∙ ap (λ (z : ℤ). sounds (z *ℤ t.period)) here.q ∙ ap (λ (z : ℤ). sounds z) (zero-*ℤ t.period) in
      anchor_taken t Kept t.anchor refl v.anchor (pos 0) r (ap any_beyond same_tones ∙ v.tones)
      ∙ ap (λ (l : List (Sound ℤ)). taken (record { anchor = t.anchor; tones = l; period = t.period })) same_tones

  width_kept_case : called t (width_to Kept) ≡ taken t
  width_kept_case =
      let w = width cents t in
      let r : reach cents t (t.anchor + w) ≡ sounds t.period =
      reach_periods cents t (t.anchor + w) next.r ∙ ap (λ (z : ℤ). sounds (z *ℤ t.period)) next.q ∙ ap (λ (z : ℤ). sounds z) (one_mulℤ t.period) in
      width_taken t Kept refl w refl v.least v.most t.period r (ap any_beyond same_keys ∙ v.tones) v.period
      ∙ ap (λ (l : List (Sound ℤ)). taken (record { anchor = t.anchor; tones = l; period = t.period })) same_keys

pub kept_is_taken : (s : State) → valid_state s ≡ true → length s.tones ≡ places → KeptIsTaken s
kept_is_taken s h n =
    let v = valid_held s h n in
    let same = sym (coded_held s h n) in
    record {
      anchor = sym (reply_taken s (anchor_to Kept) (held s) (anchor_kept_case (held s) v) s same);
      width = sym (reply_taken s (width_to Kept) (held s) (width_kept_case (held s) v) s same);
    }

-- **2/13**
pub muted_first : MutedFirst
muted_first =
    record {
      sounding = sounding_first cents cents_steps;
      thirteen = thirteen;
      periods = whole_periods_holds cents cents_steps;
      calls = calls_keep_keys;
      kept = kept_is_taken;
    }
