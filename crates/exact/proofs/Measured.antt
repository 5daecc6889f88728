-- A tone or a step of the desk beside its entry in the book: the value is the sum of power times measure.
use mathlib.Core.Path.{◌≡◌, refl, sym, ◌∙◌, ap, ap₂}
use mathlib.Core.List.{List}
use Rattle.std.specs.Prelude.{Option, Some, None}
use Prim.Native.Nat.{ℕ}
use lib.IntN.{ℤ, pos, ◌+ℤ◌, ◌-ℤ◌, ◌*ℤ◌, *ℤ-zero, +ℤ_idr}
use lib.ListN.{get_or}
use Rattle.integers.proofs.Signed.{signed, one, ◌⊕◌, ◌⊖◌, lin}
use Rattle.cents.specs.Measure as measures
use Rattle.tuning.specs.Desk.{cents}
use Rattle.exact.specs.Entry.{Number}
use Rattle.exact.specs.Book.{Declared, frequency, ratio, root, number, start440, start_root, the440, the_root, declared, Powers, once, entries, numbers_of, written}
use Rattle.exact.proofs.EntryNear.{size_of, pitch, hertz_of}
use Rattle.exact.proofs.Sizes.{size_440, size_root}
use Rattle.exact.proofs.Along.{along, pitch_along, hertz_along, along_plus, along_minus, along_times, along_none, once_440, once_root, once_declared}
use Rattle.exact.proofs.Follows.{Follows}

-- "tone = 6,900,000 + the sum of power times measure over its entry, with hertz to the power 1 in all; the period likewise with power 0"
pub record Measured (p : List (Option Declared)) (base : ℕ) (hertz : ℕ) (e : Powers) (z : ℤ) : Type 0 where
  pub value : z ≡ pos base +ℤ pitch (written (numbers_of p) e)
  pub power : hertz_of (written (numbers_of p) e) ≡ pos hertz

abbrev pub MeasuredTone : List (Option Declared) → Powers → ℤ → Type 0
MeasuredTone p = Measured p 6900000 1

abbrev pub MeasuredStep : List (Option Declared) → Powers → ℤ → Type 0
MeasuredStep p = Measured p 0 0

-- ---- the same with sums along the numbers

record Sums (p : List (Option Declared)) (base : ℕ) (hertz : ℕ) (e : Powers) (z : ℤ) : Type 0 where
  value : z ≡ pos base +ℤ along size_of (numbers_of p) e
  power : along (λ n. pos n.hertz) (numbers_of p) e ≡ pos hertz

module _ (p : List (Option Declared)) where
  sums : {b h : ℕ} {e : Powers} {z : ℤ} → Measured p b h e z → Sums p b h e z
  sums {b} {h} {e} {z} m =
      record { value = m.value ∙ ap (λ (x : ℤ). pos b +ℤ x) (pitch_along (numbers_of p) e); power = sym (hertz_along (numbers_of p) e) ∙ m.power }

  measured : {b h : ℕ} {e : Powers} {z : ℤ} → Sums p b h e z → Measured p b h e z
  measured {b} {h} {e} {z} m =
      record { value = m.value ∙ ap (λ (x : ℤ). pos b +ℤ x) (sym (pitch_along (numbers_of p) e)); power = hertz_along (numbers_of p) e ∙ m.power }

  -- a tone or a step raised by a step
  pub plus : {b h : ℕ} {d e : Powers} {y z : ℤ} → Measured p b h d y → Measured p 0 0 e z → Measured p b h (λ n. d n +ℤ e n) (y +ℤ z)
  plus {b} {h} {d} {e} {y} {z} j k =
      let s = sums j in
      let t = sums k in
      let x : ℤ = along size_of (numbers_of p) d in
      let w : ℤ = along size_of (numbers_of p) e in
      let sv : y ≡ pos b +ℤ x = s.value in
      let tv : z ≡ pos 0 +ℤ w = t.value in
      let g : y +ℤ z ≡ pos b +ℤ (x +ℤ w) =
      ap₂ (λ (u v : ℤ). u +ℤ v) sv tv ∙ omega (signed, lin (one (pos b) ⊕ one x ⊕ (one (pos 0) ⊕ one w)), lin (one (pos b) ⊕ (one x ⊕ one w))) in
      measured (record {
        value = g ∙ ap (λ (u : ℤ). pos b +ℤ u) (sym (along_plus size_of (numbers_of p) d e));
        power = along_plus (λ n. pos n.hertz) (numbers_of p) d e ∙ ap₂ (λ (u v : ℤ). u +ℤ v) s.power t.power ∙ +ℤ_idr (pos h);
      })

  -- the step between two tones
  pub minus : {b h : ℕ} {d e : Powers} {y z : ℤ} → Measured p b h e z → Measured p b h d y → Measured p 0 0 (λ n. e n -ℤ d n) (z -ℤ y)
  minus {b} {h} {d} {e} {y} {z} k j =
      let s = sums j in
      let t = sums k in
      let x : ℤ = along size_of (numbers_of p) d in
      let w : ℤ = along size_of (numbers_of p) e in
      let sv : y ≡ pos b +ℤ x = s.value in
      let tv : z ≡ pos b +ℤ w = t.value in
      let g : z -ℤ y ≡ pos 0 +ℤ (w -ℤ x) =
      ap₂ (λ (u v : ℤ). u -ℤ v) tv sv ∙ omega (signed, lin (one (pos b) ⊕ one w ⊖ (one (pos b) ⊕ one x)), lin (one (pos 0) ⊕ (one w ⊖ one x))) in
      measured (record {
        value = g ∙ ap (λ (u : ℤ). pos 0 +ℤ u) (sym (along_minus size_of (numbers_of p) e d));
        power = along_minus (λ n. pos n.hertz) (numbers_of p) e d ∙ ap₂ (λ (u v : ℤ). u -ℤ v) t.power s.power ∙ self h;
      })
    where
      self : (h : ℕ) → pos h -ℤ pos h ≡ pos 0
      self h = omega (signed, lin (one (pos h) ⊖ one (pos h)))

  zero_plus : (x : ℤ) → pos 0 +ℤ x ≡ x
  zero_plus x = omega (signed, lin (one (pos 0) ⊕ one x))

  pub many : (k : ℤ) {e : Powers} {z : ℤ} → Measured p 0 0 e z → Measured p 0 0 (λ n. k *ℤ e n) (k *ℤ z)
  many k {e} {z} j =
      let s = sums j in
      let x : ℤ = along size_of (numbers_of p) e in
      let sv : z ≡ x = s.value ∙ zero_plus x in
      measured (record {
        value = ap (λ (u : ℤ). k *ℤ u) sv ∙ sym (along_times size_of (numbers_of p) k e) ∙ sym (zero_plus _);
        power = along_times (λ n. pos n.hertz) (numbers_of p) k e ∙ ap (λ (u : ℤ). k *ℤ u) s.power ∙ *ℤ-zero k;
      })

  -- a number that stands alone
  single : (b h : ℕ) (e : Powers) (x : Number) → ((f : Number → ℤ) → along f (numbers_of p) e ≡ f x) → x.hertz ≡ h → Measured p b h e (pos b +ℤ size_of x)
  single b h e x k q = measured (record { value = ap (λ (u : ℤ). pos b +ℤ u) (sym (k size_of)); power = k (λ n. pos n.hertz) ∙ ap pos q })

  pub nothing : Measured p 0 0 (λ n. pos 0) (pos 0)
  nothing = measured (record { value = sym (zero_plus _ ∙ along_none size_of (numbers_of p)); power = along_none (λ n. pos n.hertz) (numbers_of p) })

  pub own_ratio : (i a b : ℕ) → get_or p i None ≡ Some (ratio a b) → MeasuredStep p (once (declared i)) (measures.ratio a b)
  unfolding number size_of
  own_ratio i a b h = rw (← (zero_plus (measures.ratio a b))) (single 0 0 (once (declared i)) (number (ratio a b)) (λ f. once_declared f p i (ratio a b) h) refl)

  pub own_root : (i a b : ℕ) → get_or p i None ≡ Some (root a b) → MeasuredStep p (once (declared i)) (measures.root a b)
  unfolding number size_of
  own_root i a b h = rw (← (zero_plus (measures.root a b))) (single 0 0 (once (declared i)) (number (root a b)) (λ f. once_declared f p i (root a b) h) refl)

  pub own_frequency : (j f : ℕ) → get_or p j None ≡ Some (frequency f) → MeasuredTone p (once (declared j)) (measures.frequency f)
  unfolding number size_of
  own_frequency j f h = single 6900000 1 (once (declared j)) (number (frequency f)) (λ g. once_declared g p j (frequency f) h) refl

  pub own_440 : MeasuredTone p (once the440) (pos 6900000)
  unfolding start440
  own_440 = rw (size_440) at (single 6900000 1 (once the440) start440 (λ f. once_440 f p) refl)

  pub own_start_root : MeasuredStep p (once the_root) (pos 100000)
  unfolding start_root
  own_start_root = rw (size_root) at (single 0 0 (once the_root) start_root (λ f. once_root f p) refl)

  abbrev pub measure_follows : Follows entries cents
  measure_follows = record {
    tone = MeasuredTone p;
    step = MeasuredStep p;
    shift = plus;
    distance = minus;
    none = nothing;
    add = plus;
    times = many;
    start440 = own_440;
    start_root = own_start_root;
  }
