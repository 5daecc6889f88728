-- The test of a state taken apart into what it says, and put together again.
use mathlib.Core.Path.{◌≡◌, refl, sym, ap, ◌∙◌}
use mathlib.Core.Bool.{Bool, true, false, not, ◌&&◌, ◌||◌, false≢true}
use mathlib.Core.List.{List, [], ◌∷◌, map}
use Prim.Native.Nat.{ℕ, ◌+◌, ◌-◌, ◌≤◌, ◌<◌}
use native.Mathlib.Decide.{dec_lt}
use native.Mathlib.Omega.{arith}
use borrow.Author.Tests.{leb-true, le-leb, not-true, not-false}
use lib.IntN.{ℤ, pos, negsuc, nat_abs}
use lib.Dec.{leb}
use lib.Signed.{le_z}
use lib.ListN.{get_or, take, drop}
use lib.Seq.{get_or-take, get_or-drop}
use Rattle.std.specs.List.{list_all}
use Rattle.integers.proofs.Signed.{signed, abs}
use Rattle.tuning.proofs.Lists.{both, all_at}
use Rattle.tuning.specs.Desk.{is_anchor, is_width, is_period, is_tone, is_muted, any_beyond, beyond}
use Rattle.tuning.specs.State.{heard, held, all_muted, valid_state}
use Rattle.tuning.specs.Inner.{size}
use Rattle.tuning.specs.declared.State.{State}
use Rattle.tuning.specs.declared.Tone.{Tone}
use Rattle.tuning.specs.declared.Tone.TheVariants.{Muted, At}

-- what the code reads past an array's end
abbrev pub none : Tone
none = Muted

-- what a state has whose test passes
pub record Valid (s : State) : Type 0 where
  pub anchor : s.anchor.0 ≤ 127
  pub least : 1 ≤ s.width
  pub most : s.width ≤ 60
  pub period : is_period s.period.0 ≡ true
  pub tones : any_beyond (held s).tones ≡ false
  pub rest : all_muted (map heard (drop s.width s.tones)) ≡ true

pub valid_of : (s : State) → valid_state s ≡ true → Valid s
unfolding valid_state
valid_of s h =
    let muted-rest = all_muted (map heard (drop s.width s.tones)) in
    let allowed = not (any_beyond (held s).tones) in
    let P = is_period s.period.0 in
    let w = is_width (pos s.width) in
    let a = both (is_anchor (pos s.anchor.0)) (w && (P && (allowed && muted-rest))) h in
    let b = both w (P && (allowed && muted-rest)) a.1 in
    let c = both P (allowed && muted-rest) b.1 in
    let d = both allowed muted-rest c.1 in
    let e = both (leb 1 s.width) (leb s.width 60) b.0 in
    record {
      anchor = leb-true s.anchor.0 127 (both (leb 0 s.anchor.0) (leb s.anchor.0 127) a.0).1;
      least = leb-true 1 s.width e.0;
      most = leb-true s.width 60 e.1;
      period = c.0;
      tones = not-true (any_beyond (held s).tones) d.0;
      rest = d.1;
    }

pub valid_is : (s : State) → Valid s → valid_state s ≡ true
unfolding valid_state
valid_is s v =
    simp (
      le-leb 0 s.anchor.0 (omega arith),
      le-leb s.anchor.0 127 v.anchor,
      le-leb 1 s.width v.least,
      le-leb s.width 60 v.most,
      v.period,
      v.tones,
      v.rest,
    )

-- ---- the two tests of lists, as a test of every position

abbrev pub in_range : Tone → Bool
in_range p = not (beyond (heard p))

abbrev pub is_free : Tone → Bool
is_free p = is_muted (heard p)

pub in_range_holds : (l : List Tone) → not (any_beyond (map heard l)) ≡ list_all in_range l
unfolding any_beyond
in_range_holds [] = refl
in_range_holds (p ∷ l) = not_or (beyond (heard p)) (any_beyond (map heard l)) ∙ ap (λ (b : Bool). in_range p && b) (in_range_holds l)
  where
    not_or : (a b : Bool) → not (a || b) ≡ not a && not b
    not_or true b = refl
    not_or false b = refl

pub all_free : (l : List Tone) → all_muted (map heard l) ≡ list_all is_free l
unfolding all_muted
all_free [] = refl
all_free (p ∷ l) = ap (λ (b : Bool). is_free p && b) (all_free l)

-- ---- what a valid state's period and tones are

pub period_size : (z : ℤ) → is_period z ≡ true → nat_abs z ≤ 12_000_000
period_size z h = let e = both (le_z (pos 0) z) (le_z z (pos 12_000_000)) h in omega (signed, e.0, e.1, abs z)

pub allowed_size : (t : Tone) → beyond (heard t) ≡ false → size t ≤ 100_000_000
allowed_size Muted h = omega arith
allowed_size (At p) h =
    let e = both (le_z (negsuc 99_999_999) p.0) (le_z p.0 (pos 100_000_000)) (not-false (is_tone p.0) h) in
    omega (signed, e.0, e.1, abs p.0)

muted_tone : (t : Tone) → is_muted (heard t) ≡ true → t ≡ Muted
muted_tone Muted h = refl
muted_tone (At p) h = absurd (false≢true h)

module _ (s : State) (v : Valid s) where
  -- an unused place is muted
  pub unused : (r : ℕ) → s.width ≤ r → (get_or s.tones r none) ≡ Muted
  unused r h =
      let e : s.width + (r - s.width) ≡ r = omega arith in
      muted_tone (get_or s.tones r none)
      (ap (λ (k : ℕ). is_free (get_or s.tones k none)) (sym e)
      ∙ ap is_free (sym (get_or-drop s.width s.tones (r - s.width) none))
      ∙ all_at is_free (drop s.width s.tones) (r - s.width) none refl (sym (all_free (drop s.width s.tones)) ∙ v.rest))

  -- a tone in use is in its range
  pub in_use : (r : ℕ) → r < s.width → in_range (get_or s.tones r none) ≡ true
  in_use r h =
      ap in_range (sym (get_or-take s.width s.tones r none h))
      ∙ all_at in_range (take s.width s.tones) r none refl (sym (in_range_holds (take s.width s.tones)) ∙ ap not v.tones)

  -- so no place holds a tone out of range
  pub tone_size : (r : ℕ) → size (get_or s.tones r none) ≤ 100_000_000
  tone_size r =
      elim (dec_lt r s.width) [
        | yes h ↦ allowed_size (get_or s.tones r none) (not-true (beyond (heard (get_or s.tones r none))) (in_use r h))
        | no h ↦ omega (arith, ap size (unused r (omega arith)))
      ]
