-- What a call comes to, one law for each outcome, in the order of its checks. Assumes nothing.
use mathlib.Core.Path.{◌≡◌, refl, sym, ap, ap₂, ◌∙◌}
use mathlib.Core.Bool.{Bool, true, false, not, false≢true, not-not}
use mathlib.Core.List.{List, [], ◌∷◌}
use mathlib.Core.Logic.{◌≢◌, ◌↔◌}
use Prim.Native.Nat.{ℕ, zero, suc, ◌+◌, ◌≤◌}
use native.Mathlib.Nat.{suc-ne-zero}
use native.Mathlib.Omega.{arith}
use borrow.Author.Tests.{le-leb}
use lib.IntN.{ℤ, pos, nat_abs}
use lib.ListN.{length, get_or}
use lib.Dec.{T}
use lib.Signed.{le_z, non_neg}
use Rattle.std.specs.Prelude.{Option, Some, None}
use Rattle.cents.specs.declared.Interval.{Interval}
use Rattle.integers.specs.Parts.{up}
use Rattle.integers.proofs.Signed.{signed, abs}
use Rattle.status.specs.Status.{division_by_zero, anchor_out_of_range, width_out_of_range, period_out_of_range, end_silent, tone_out_of_range}
use Rattle.tuning.specs.declared.Tone.{Tone}
use Rattle.tuning.specs.declared.State.{State}
use Rattle.tuning.specs.declared.Reply.{Reply}
use Rattle.tuning.specs.declared.Amount.{Amount}
use Rattle.tuning.specs.Scale.{Scale, Sound, muted, sounds}
use Rattle.tuning.specs.Tuning.{Tuning, PeriodTo, PositionTo, Action, anchor_to, width_to, period_to, tones_to, system, amounts, width, key_position, key_rise, sound_of, apart, span_to, reach_by, reach, anchored_by, anchored, widened_by, widened, new_period, new_tones, done}
use Rattle.tuning.specs.Desk.{cents, between, is_anchor, is_width, is_period, any_beyond, Check, first_failing, divides_by_zero, bad_divisor, bad_anchor, bad_width, bad_period, bad_tone, unreached, if_taken, Called, called}
use Rattle.tuning.specs.State.{places, heard, held, tone_of, coded, valid_state, replied}
use Rattle.tuning.specs.Inner.{interval_of}
use Rattle.tuning.proofs.Lists.{both}
use Rattle.tuning.proofs.Valid.{Valid, none}
use Rattle.tuning.proofs.Tones.{heard_at_holds}
use Rattle.tuning.proofs.Held.{heard_tone, held_coded, coded_held}

-- ---- "pitch(b) - t(0)", by the tones that the code finds at the two ends

pub span_held : (s : State) → Valid s → (x : ℕ) {k : Tone} → k ≡ tone_of (sound_of cents (held s) x)
    → apart cents (heard (get_or s.tones 0 none)) (heard k) ≡ span_to cents (held s) x
span_held s v x e = ap₂ (apart cents) (sym (heard_at_holds s.tones s.width 0 v.least)) (ap heard e ∙ heard_tone (sound_of cents (held s) x))

-- ---- the distance to the key at the other end, by the position of that key

module _ (S : Scale) (t : Tuning S) (x : ℕ) where
  pub reach_periods : key_position S t x ≡ 0 → reach S t x ≡ sounds (key_rise S t x)
  reach_periods e = ap (λ (r : ℕ). reach_by S r t x) e

  pub reach_span : key_position S t x ≢ 0 → reach S t x ≡ span_to S t x
  reach_span n = go (key_position S t x) n
    where
      go : (r : ℕ) → r ≢ 0 → reach_by S r t x ≡ span_to S t x
      go zero k = absurd (k refl)
      go (suc r) k = refl

-- what the code's distance says
abbrev pub spanned : Option Interval → Sound ℤ
spanned None = muted
spanned (Some d) = sounds d.0

span_reach : (y : Sound ℤ) → spanned (interval_of y) ≡ y
span_reach muted = refl
span_reach (sounds d) = refl

pub reached : {r u : Option Interval} {y : Sound ℤ} → r ≡ interval_of y → r ≡ u → y ≡ spanned u
reached {r} {u} {y} e f = sym (span_reach y) ∙ ap spanned (sym e ∙ f)

-- ---- the first check that fails decides

abbrev pub refused : ℕ → Tuning cents → Called
refused n t = record { number = n; state = t }

abbrev pub taken : Tuning cents → Called
taken t = record { number = 0; state = t }

-- where a call's checks lead
decided : List Check → Tuning cents → Tuning cents → Called
decided cs new old = let n = first_failing cs in record { number = n; state = if_taken n new old }

module _ (n : ℕ) (x : Bool) (cs : List Check) (new old : Tuning cents) where
  fails : x ≡ true → decided (record { number = suc n; fails = x } ∷ cs) new old ≡ refused (suc n) old
  unfolding decided first_failing
  fails h = rw h

  passes : x ≡ false → decided (record { number = suc n; fails = x } ∷ cs) new old ≡ decided cs new old
  unfolding decided first_failing
  passes h = rw h

-- where none fails each one passed
pub passed : (n : ℕ) (x : Bool) (cs : List Check) → first_failing (record { number = suc n; fails = x } ∷ cs) ≡ 0 → (x ≡ false) × (first_failing cs ≡ 0)
unfolding first_failing
passed n x cs h = go x h
  where
    go : (b : Bool) → ◌≡◌ {A = ℕ} (elim b [ true ↦ suc n | false ↦ first_failing cs ]) 0 → (b ≡ false) × (first_failing cs ≡ 0)
    go true q = absurd (suc-ne-zero n q)
    go false q = (refl, q)

-- none fails where there is none
pub none_fails : (k : ℕ) → 0 ≢ k → first_failing [] ≢ k
unfolding first_failing
none_fails k h = h

-- a number comes from the first check that fails: not where no later check has it
pub not_first : (n k : ℕ) (x : Bool) (cs : List Check) → suc n ≢ k → first_failing cs ≢ k → first_failing (record { number = suc n; fails = x } ∷ cs) ≢ k
unfolding first_failing
not_first n k true cs a b = a
not_first n k false cs a b = b

-- a check with another number has to pass first
pub later : (n k : ℕ) (x : Bool) (cs : List Check) → suc n ≢ k → (first_failing (record { number = suc n; fails = x } ∷ cs) ≡ k) ↔ (x ≡ false) × (first_failing cs ≡ k)
unfolding first_failing
later n k true cs a = (λ e. absurd (a e), λ h. absurd (false≢true (sym h.0)))
later n k false cs a = (λ e. (refl, e), λ h. h.1)

-- and one with this number decides, where no other has it
pub decides : (k : ℕ) (x : Bool) (cs : List Check) → first_failing cs ≢ suc k → (first_failing (record { number = suc k; fails = x } ∷ cs) ≡ suc k) ↔ (x ≡ true)
unfolding first_failing
decides k true cs a = (λ e. refl, λ h. refl)
decides k false cs a = (λ e. absurd (a e), λ h. absurd (false≢true h))

all_passed : (new old : Tuning cents) → decided [] new old ≡ taken new
unfolding decided first_failing
all_passed new old = refl

-- ---- "Anchor to b .. Checks: 10, 13, 14."

module _ (t : Tuning cents) (m : Amount) where
  anchor_by_step : (z : ℤ) → amounts m t.anchor ≡ z
      → called t (anchor_to m) ≡ decided (bad_anchor z ∷ unreached t (up z) ∷ bad_tone (anchored cents t (up z)) ∷ []) (anchored cents t (up z)) t
  unfolding called decided
  anchor_by_step z e = rw e

  pub anchor_out : is_anchor (amounts m t.anchor) ≡ false → called t (anchor_to m) ≡ refused anchor_out_of_range t
  anchor_out h = anchor_by_step _ refl ∙ fails _ _ _ _ _ (ap not h)

  module _ (b : ℕ) (e : amounts m t.anchor ≡ pos b) (h : b ≤ 127) where
    anchor_in : called t (anchor_to m) ≡ decided (unreached t b ∷ bad_tone (anchored cents t b) ∷ []) (anchored cents t b) t
    anchor_in = anchor_by_step (pos b) e ∙ passes _ _ _ _ _ (rw (le-leb 0 b (omega arith), le-leb b 127 h))

    pub anchor_silent : reach cents t b ≡ muted → called t (anchor_to m) ≡ refused end_silent t
    anchor_silent r = anchor_in ∙ fails _ _ _ _ _ (rw r)

    module _ (d : ℤ) (r : reach cents t b ≡ sounds d) where
      anchor_reached : called t (anchor_to m) ≡ decided (bad_tone (anchored_by cents t b (sounds d)) ∷ []) (anchored_by cents t b (sounds d)) t
      anchor_reached = anchor_in ∙ passes _ _ _ _ _ (rw r) ∙ rw r

      pub anchor_beyond : any_beyond (anchored_by cents t b (sounds d)).tones ≡ true → called t (anchor_to m) ≡ refused tone_out_of_range t
      anchor_beyond k = anchor_reached ∙ fails _ _ _ _ _ k

      pub anchor_taken : any_beyond (anchored_by cents t b (sounds d)).tones ≡ false → called t (anchor_to m) ≡ taken (anchored_by cents t b (sounds d))
      anchor_taken k = anchor_reached ∙ passes _ _ _ _ _ k ∙ all_passed _ _

-- ---- "Width to v .. Checks: 11, 13, 14, 12", and 25 before them

module _ (t : Tuning cents) (m : Amount) where
  width_by_step : (z : ℤ) → amounts m (width cents t) ≡ z
      → called t (width_to m) ≡ decided (bad_divisor m ∷ bad_width z ∷ unreached t (t.anchor + up z) ∷ bad_tone (widened cents t (up z)) ∷ bad_period (widened cents t (up z)).period ∷ []) (widened cents t (up z)) t
  unfolding called decided
  width_by_step z e = rw e

  pub width_divided : divides_by_zero m ≡ true → called t (width_to m) ≡ refused division_by_zero t
  width_divided h = width_by_step _ refl ∙ fails _ _ _ _ _ h

  module _ (n : divides_by_zero m ≡ false) where
    pub width_out : is_width (amounts m (width cents t)) ≡ false → called t (width_to m) ≡ refused width_out_of_range t
    width_out h = width_by_step _ refl ∙ passes _ _ _ _ _ n ∙ fails _ _ _ _ _ (ap not h)

    module _ (v : ℕ) (e : amounts m (width cents t) ≡ pos v) (l : 1 ≤ v) (h : v ≤ places) where
      width_in : called t (width_to m) ≡ decided (unreached t (t.anchor + v) ∷ bad_tone (widened cents t v) ∷ bad_period (widened cents t v).period ∷ []) (widened cents t v) t
      width_in = width_by_step (pos v) e ∙ passes _ _ _ _ _ n ∙ passes _ _ _ _ _ (rw (le-leb 1 v l, le-leb v 60 h))

      pub width_silent : reach cents t (t.anchor + v) ≡ muted → called t (width_to m) ≡ refused end_silent t
      width_silent r = width_in ∙ fails _ _ _ _ _ (rw r)

      module _ (d : ℤ) (r : reach cents t (t.anchor + v) ≡ sounds d) where
        width_reached : called t (width_to m) ≡ decided (bad_tone (widened_by cents t v (sounds d)) ∷ bad_period d ∷ []) (widened_by cents t v (sounds d)) t
        width_reached = width_in ∙ passes _ _ _ _ _ (rw r) ∙ rw r

        pub width_beyond : any_beyond (widened_by cents t v (sounds d)).tones ≡ true → called t (width_to m) ≡ refused tone_out_of_range t
        width_beyond k = width_reached ∙ fails _ _ _ _ _ k

        module _ (k : any_beyond (widened_by cents t v (sounds d)).tones ≡ false) where
          pub width_period : is_period d ≡ false → called t (width_to m) ≡ refused period_out_of_range t
          width_period p = width_reached ∙ passes _ _ _ _ _ k ∙ fails _ _ _ _ _ (ap not p)

          pub width_taken : is_period d ≡ true → called t (width_to m) ≡ taken (widened_by cents t v (sounds d))
          width_taken p = width_reached ∙ passes _ _ _ _ _ k ∙ passes _ _ _ _ _ (ap not p) ∙ all_passed _ _

-- ---- "Period .. Check: 12." "Tones .. Check: 14." "Calling a tone system sets all four parts."

module _ (t : Tuning cents) (m : PeriodTo cents) where
  period_by_step : called t (period_to m) ≡ decided (bad_period (new_period cents t.period m) ∷ []) (done cents t (period_to m)) t
  unfolding called decided
  period_by_step = refl

  pub period_out : is_period (new_period cents t.period m) ≡ false → called t (period_to m) ≡ refused period_out_of_range t
  period_out h = period_by_step ∙ fails _ _ _ _ _ (ap not h)

  pub period_taken : is_period (new_period cents t.period m) ≡ true → called t (period_to m) ≡ taken (done cents t (period_to m))
  period_taken h = period_by_step ∙ passes _ _ _ _ _ (ap not h) ∙ all_passed _ _

module _ (t : Tuning cents) (l : List (PositionTo cents)) where
  tones_by : called t (tones_to l) ≡ decided (bad_tone (done cents t (tones_to l)) ∷ []) (done cents t (tones_to l)) t
  unfolding called decided
  tones_by = refl

  pub tones_beyond : any_beyond (new_tones cents l t.tones) ≡ true → called t (tones_to l) ≡ refused tone_out_of_range t
  tones_beyond h = tones_by ∙ fails _ _ _ _ _ h

  pub tones_taken : any_beyond (new_tones cents l t.tones) ≡ false → called t (tones_to l) ≡ taken (done cents t (tones_to l))
  tones_taken h = tones_by ∙ passes _ _ _ _ _ h ∙ all_passed _ _

pub system_taken : (t y : Tuning cents) → called t (system y) ≡ taken y
unfolding called first_failing
system_taken t y = refl

-- ---- the code's answer for each: a refused call hands back the very state

module _ (s : State) (a : Action cents) where
  pub reply_refused : valid_state s ≡ true → length s.tones ≡ places → (n : ℕ) → called (held s) a ≡ refused n (held s)
      → ◌≡◌ {A = Reply} (record { state = s; number = n }) (replied s a)
  reply_refused h k n e = rw (e, coded_held s h k)

  pub reply_taken : (t : Tuning cents) → called (held s) a ≡ taken t → (u : State) → u ≡ coded t → ◌≡◌ {A = Reply} (record { state = u; number = 0 }) (replied s a)
  reply_taken t e u q = rw (e, q)

-- ---- what the code's tests say

-- a number that its test does not refuse
pub record Within (low high : ℕ) (z : ℤ) : Type 0 where
  pub sign : T (non_neg z)
  pub whole : z ≡ pos (nat_abs z)
  pub least : low ≤ nat_abs z
  pub most : nat_abs z ≤ high

pub within : (low high : ℕ) (z : ℤ) → between (pos low) (pos high) z ≡ true → Within low high z
within low high z h =
    let b = both (le_z (pos low) z) (le_z z (pos high)) h in
    record { sign = omega (signed, abs z, b.0); whole = omega (signed, abs z, b.0); least = omega (signed, abs z, b.0); most = omega (signed, abs z, b.0, b.1) }

-- the test of the tones of a coded state
pub tones_tested : (t : Tuning cents) {u : State} {r : Bool} → u ≡ coded t → r ≡ not (any_beyond (held u).tones) → any_beyond t.tones ≡ not r
tones_tested t {u} e q = sym (ap not q ∙ not-not (any_beyond (held u).tones) ∙ ap (λ (w : Tuning cents). any_beyond w.tones) (ap held e ∙ held_coded t))
