-- Laws of the terms among items, and of their sums. Assumes nothing.
use mathlib.Core.Path.{◌≡◌, refl, sym, ◌∙◌, ap, subst}
use mathlib.Core.Bool.{Bool, true, false, cond}
use mathlib.Core.List.{List, [], ◌∷◌, ◌++◌}
use Prim.Native.Nat.{ℕ, ◌+◌, ◌*◌, ◌≤◌, ◌<◌}
use native.Mathlib.Omega.{arith}
use lib.IntN.{ℤ, pos, neg_ℤ, nat_abs, ◌+ℤ◌, ◌*ℤ◌, +ℤ_assoc, +ℤ_idl, +ℤ_idr}
use lib.ListN.{length, get_or, drop, length-append}
use mir.Syntax.{w64}
use mir.Val.{SFits}
use Rattle.integers.proofs.Signed.{signed, abs, sum, up_neg, dn_neg, mul_size, mul_bound}
use Rattle.grammar.specs.declared.Item.{Item}
use Rattle.grammar.specs.Reading.{most_terms}
use Rattle.names.specs.Parts.{part}
use Rattle.values.specs.Values.{Term, weight}
use Rattle.program.specs.Program.{term_then, terms_of}
use Rattle.program.specs.Allowed.{Each}
use Rattle.filling.specs.Tables.{sum_of}
use Rattle.filling.specs.Inner.{greatest_factor, largest_term, value_in, FitTerm, Summable}
use Rattle.filling.proofs.Each.{each_append}
use Rattle.filling.proofs.Items.{terms_end, terms_next}

abbrev term_of : Item → List Term
term_of i = term_then (part i) []

-- ---- sums

module _ (value : ℕ → ℤ) where
  pub sum_append : (ts us : List Term) → sum_of value (ts ++ us) ≡ sum_of value ts +ℤ sum_of value us
  sum_append [] us = sym (+ℤ_idl (sum_of value us))
  sum_append (t ∷ ts) us =
      ap (λ (z : ℤ). value t.of *ℤ weight t +ℤ z) (sum_append ts us) ∙ sym (+ℤ_assoc (value t.of *ℤ weight t) (sum_of value ts) (sum_of value us))

  pub sum_one : (t : Term) → sum_of value (t ∷ []) ≡ value t.of *ℤ weight t
  sum_one t = +ℤ_idr (value t.of *ℤ weight t)

-- how large a sum grows

neg_size : (n : ℕ) → nat_abs (neg_ℤ (pos n)) ≡ n
neg_size n = omega (signed, abs (neg_ℤ (pos n)), up_neg (pos n), dn_neg (pos n))

weight_size : (t : Term) → nat_abs (weight t) ≡ t.factor
weight_size t = go t.minus
  where
    go : (b : Bool) → nat_abs (cond b (neg_ℤ (pos t.factor)) (pos t.factor)) ≡ t.factor
    go true = neg_size t.factor
    go false = refl

module _ (values : List ℤ) where
  sum_size : (ts : List Term) → Each (FitTerm values) ts → nat_abs (sum_of (value_in values) ts) ≤ length ts * largest_term
  sum_size [] h = omega arith
  sum_size (t ∷ ts) h =
      let v = value_in values t.of in
      let w : nat_abs (weight t) ≤ greatest_factor = omega (arith, weight_size t, h.0.factor) in
      omega (arith, sum_size ts h.1, sum (v *ℤ weight t) (sum_of (value_in values) ts), mul_size v (weight t), mul_bound h.0.of.small w)

pub sum_limit : {values : List ℤ} {ts : List Term} → Summable values ts → nat_abs (sum_of (value_in values) ts) ≤ most_terms * largest_term
sum_limit {values} {ts} h = omega (arith, sum_size values ts h.each, h.few)

-- ---- adding up the terms of items: the sum of those in front of the i-th, and what is left

pub record Adding (values : List ℤ) (l : List Item) (i : ℕ) (s : ℤ) : Type 0 where
  pub each : Each (FitTerm values) (terms_of (drop i l))
  pub room : nat_abs s + length (terms_of (drop i l)) * largest_term ≤ most_terms * largest_term
  pub whole : s +ℤ sum_of (value_in values) (terms_of (drop i l)) ≡ sum_of (value_in values) (terms_of l)

pub adding_none : (values : List ℤ) (l : List Item) → Summable values (terms_of l) → Adding values l 0 (pos 0)
adding_none values l h = record { each = h.each; room = omega (arith, h.few); whole = +ℤ_idl (sum_of (value_in values) (terms_of l)) }

module _ {values : List ℤ} {l : List Item} {i : ℕ} {s : ℤ} (h : Adding values l i s) where
  pub adding_fits : SFits w64 s
  adding_fits = omega (signed, h.room)

  pub adding_all : length l ≤ i → s ≡ sum_of (value_in values) (terms_of l)
  adding_all k =
      let e = ap (sum_of (value_in values)) (terms_end l i k) in
      sym (+ℤ_idr s) ∙ ap (λ (y : ℤ). s +ℤ y) (sym e) ∙ h.whole

  -- the term of the present item
  module _ (k : i < length l) (none : Item) where
    abbrev x : Item
    x = get_or l i none

    split : terms_of (drop i l) ≡ term_of x ++ terms_of (drop (i + 1) l)
    split = terms_next l i k none

    fit : Each (FitTerm values) (term_of x) × Each (FitTerm values) (terms_of (drop (i + 1) l))
    fit = each_append (FitTerm values) (term_of x) (terms_of (drop (i + 1) l)) (subst (λ (ts : List Term). Each (FitTerm values) ts) split h.each)

    pub adding_now : Each (FitTerm values) (term_of x)
    adding_now = fit.0

    pub adding_next : Adding values l (i + 1) (s +ℤ sum_of (value_in values) (term_of x))
    adding_next =
        let z = sum_of (value_in values) (term_of x) in
        let rest = terms_of (drop (i + 1) l) in
        let n : length (terms_of (drop i l)) ≡ length (term_of x) + length rest = ap length split ∙ length-append (term_of x) rest in
        let w = sum_append (value_in values) (term_of x) rest in
        record {
          each = fit.1;
          room = omega (arith, sum s z, sum_size values (term_of x) adding_now, h.room);
          whole =
              +ℤ_assoc s z (sum_of (value_in values) rest) ∙ ap (λ (y : ℤ). s +ℤ y) (sym w ∙ ap (sum_of (value_in values)) (sym split)) ∙ h.whole;
        }
