-- What the items of a declaration have for its value is what the declaration has.
-- Assumes nothing.
use Prim.Native.Nat.{ℕ, ◌≤◌}
use mathlib.Core.Path.{◌≡◌, refl, sym, ◌∙◌, ap, subst}
use mathlib.Core.Bool.{true, cond}
use mathlib.Core.List.{List, [], ◌∷◌, ◌++◌}
use native.Mathlib.Omega.{arith}
use lib.ListN.{length}
use Rattle.grammar.specs.declared.Form.TheVariants.{AnchorTo, AnchorUp, AnchorDown, WidthTo, WidthUp, WidthDown, WidthTimes, WidthOver}
use Rattle.grammar.specs.declared.Item.{Item}
use Rattle.names.specs.Parts as parts
use Rattle.names.specs.Parts.{Part, declares, gives, uses, says, part}
use Rattle.values.specs.Values as values
use Rattle.values.specs.declared.Range.{Range}
use Rattle.values.specs.Values.{Own, Origin}
use Rattle.values.specs.Rows.{terms_per_row}
use Rattle.limits.specs.Limits.{most_rows}
use Rattle.std.specs.Prelude.{Option, Some, None, option_to_list}
use Rattle.program.specs.Program.{Declaration, ratio, root, sequence, frequency, from, system}
use Rattle.program.specs.Program.{anchor, width, fresh_period, onward_period, tones, pattern, logic, harmony}
use Rattle.program.specs.Program.{Program, term_then, terms_of, period_by, period_of, by_part, form_of}
use Rattle.program.specs.Meaning.{own_of}
use Rattle.program.specs.Allowed.{Each, FitTerm, Fits}
use Rattle.valuation.specs.declared.Content.{Content}
use Rattle.valuation.specs.declared.Content.TheVariants as content
use Rattle.valuation.specs.Inner.{content_of, content_at, range_by, origin_by, has_terms, own_by, term_in, Measurable, Small, Holdable, Gatherable}

-- ---- the terms of items, one by one

terms_by : (q : Part) (ts : List values.Term) → term_then q ts ≡ option_to_list (term_in (content_of q)) ++ ts
terms_by (declares k p) ts = refl
terms_by (gives parts.ratio a b) ts = refl
terms_by (gives parts.root a b) ts = refl
terms_by (gives parts.frequency a b) ts = refl
terms_by (gives parts.anchor_key a b) ts = refl
terms_by (gives (parts.amount f) a b) ts = refl
terms_by (gives (parts.wanting f) a b) ts = refl
terms_by (gives parts.placeholder a b) ts = refl
terms_by (gives parts.argument a b) ts = refl
terms_by (gives parts.letter a b) ts = refl
terms_by (gives parts.key a b) ts = refl
terms_by (gives parts.starred_key a b) ts = refl
terms_by (uses parts.add f n) ts = refl
terms_by (uses parts.subtract f n) ts = refl
terms_by (uses parts.base f n) ts = refl
terms_by (uses parts.position f n) ts = refl
terms_by (uses parts.start f n) ts = refl
terms_by (uses parts.order f n) ts = refl
terms_by (uses parts.trigger f n) ts = refl
terms_by (says parts.muted) ts = refl
terms_by (says parts.kept) ts = refl
terms_by (says parts.anchor_kept) ts = refl
terms_by (says parts.width_kept) ts = refl
terms_by (says parts.period) ts = refl
terms_by (says parts.onward) ts = refl

pub terms_cons : (i : Item) (is : List Item) → terms_of (i ∷ is) ≡ option_to_list (term_in (content_of (part i))) ++ terms_of is
unfolding terms_of
terms_cons i is = terms_by (part i) (terms_of is)

-- ---- a declaration's value

module _ (p : Program) (few : length p ≤ most_rows) where
  -- declaration c, of which x tells the form and ts are the terms among its items
  record Valued (c : Declaration) (x : Option Content) (ts : List values.Term) : Type 0 where
    own : own_of c ≡ own_by x ts
    measurable : Fits p c → Measurable x

  plain : {c : Declaration} {ts : List values.Term} → own_of c ≡ own_by None ts → Valued c None ts
  plain e = record { own = e; measurable = λ _. tt }

  period_plain : (is : List Item) {ts : List values.Term} → Valued (period_of is) None ts
  period_plain [] = plain refl
  period_plain (i ∷ is) {ts} = go (part i)
    where
      go : (q : Part) → Valued (period_by q (i ∷ is) is) None ts
      go (declares k n) = plain refl
      go (gives g a b) = plain refl
      go (uses u a b) = plain refl
      go (says parts.muted) = plain refl
      go (says parts.kept) = plain refl
      go (says parts.anchor_kept) = plain refl
      go (says parts.width_kept) = plain refl
      go (says parts.period) = plain refl
      go (says parts.onward) = plain refl

  valued_by : (i : Item) (is : List Item) (q : Part) → terms_of (i ∷ is) ≡ term_then q (terms_of is)
      → Valued (by_part q i is) (content_of q) (terms_of (i ∷ is))
  valued_by i is (declares k n) e = plain refl
  valued_by i is (gives parts.ratio a b) e = record { own = refl; measurable = λ f. f }
  valued_by i is (gives parts.root a b) e = record { own = refl; measurable = λ f. f }
  valued_by i is (gives parts.frequency a b) e = record { own = refl; measurable = λ f. f }
  valued_by i is (gives parts.anchor_key a b) e = record { own = ap (λ ts. own_by (Some content.Period) ts) (sym e); measurable = λ _. tt }
  valued_by i is (gives (parts.amount AnchorTo) a b) e = plain refl
  valued_by i is (gives (parts.amount AnchorUp) a b) e = plain refl
  valued_by i is (gives (parts.amount AnchorDown) a b) e = plain refl
  valued_by i is (gives (parts.amount WidthTo) a b) e = plain refl
  valued_by i is (gives (parts.amount WidthUp) a b) e = plain refl
  valued_by i is (gives (parts.amount WidthDown) a b) e = plain refl
  valued_by i is (gives (parts.amount WidthTimes) a b) e = plain refl
  valued_by i is (gives (parts.amount WidthOver) a b) e = plain refl
  valued_by i is (gives (parts.wanting f) a b) e = plain refl
  valued_by i is (gives parts.placeholder a b) e = plain refl
  valued_by i is (gives parts.argument a b) e = plain refl
  valued_by i is (gives parts.letter a b) e = plain refl
  valued_by i is (gives parts.key a b) e = plain refl
  valued_by i is (gives parts.starred_key a b) e = plain refl
  valued_by i is (uses parts.add f n) e = record { own = refl; measurable = λ _. tt }
  valued_by i is (uses parts.subtract f n) e = record { own = refl; measurable = λ _. tt }
  valued_by i is (uses parts.base f n) e =
      record { own = ap (λ ts. own_by (Some (content.Tone n)) ts) (sym e); measurable = λ w. let b = w.0.within in omega arith }
  valued_by i is (uses parts.position f n) e = plain refl
  valued_by i is (uses parts.start f n) e = plain refl
  valued_by i is (uses parts.order f n) e = plain refl
  valued_by i is (uses parts.trigger f n) e = plain refl
  valued_by i is (says parts.muted) e = plain refl
  valued_by i is (says parts.kept) e = plain refl
  valued_by i is (says parts.anchor_kept) e = plain refl
  valued_by i is (says parts.width_kept) e = plain refl
  valued_by i is (says parts.period) e = period_plain is
  valued_by i is (says parts.onward) e = plain refl

  valued : (is : List Item) → Valued (form_of is) (content_at is) (terms_of is)
  unfolding terms_of
  valued [] = plain refl
  valued (i ∷ is) = valued_by i is (part i) refl

declared_own : (is : List Item) → own_of (form_of is) ≡ own_by (content_at is) (terms_of is)
declared_own is = (valued [] (omega arith) is).own

-- ---- what fits can be put into the tables

module _ (p : Program) (n : ℕ) (h : length p ≤ n) where
  terms_small : (ts : List values.Term) → Each (FitTerm p) ts → Each (Small n) ts
  terms_small [] w = tt
  terms_small (t ∷ ts) w =
      let a = w.0.factor in
      let b = w.0.of.within in
      (record { factor = omega arith; of = omega arith }, terms_small ts w.1)

  pub own_small : (c : Declaration) → Fits p c → (length (own_of c).terms ≤ terms_per_row) × Each (Small n) (own_of c).terms
  own_small (ratio a b) w = (omega arith, tt)
  own_small (root a b) w = (omega arith, tt)
  own_small (sequence ts) w = (w.few, terms_small ts w.each)
  own_small (frequency f) w = (omega arith, tt)
  own_small (from k ts) w = (w.1.few, terms_small ts w.1.each)
  own_small (system a l ts) w = (w.period.few, terms_small ts w.period.each)
  own_small (anchor m) w = (omega arith, tt)
  own_small (width m) w = (omega arith, tt)
  own_small (fresh_period ts) w = (omega arith, tt)
  own_small (onward_period ts) w = (omega arith, tt)
  own_small (tones l) w = (omega arith, tt)
  own_small pattern w = (omega arith, tt)
  own_small (logic c s os) w = (omega arith, tt)
  own_small (harmony ks) w = (omega arith, tt)

pub gatherable : (p : Program) → length p ≤ most_rows → (is : List Item) → Fits p (form_of is) → Gatherable is
gatherable p h is w =
    let s = own_small p most_rows h (form_of is) w in
    record { measurable = (valued p h is).measurable w; terms = record { few = s.0; small = s.1 } }

-- ---- a row, from the items

module _ (is : List Item) {x : Option Content} (e : x ≡ content_at is) where
  own_here : own_of (form_of is) ≡ own_by x (terms_of is)
  own_here = declared_own is ∙ ap (λ y. own_by y (terms_of is)) (sym e)

  pub row_here : {g : Range} {o : Origin} {ts : List values.Term} → g ≡ range_by x → o ≡ origin_by x → ts ≡ cond (has_terms x) (terms_of is) []
      → record { range = g; origin = o; terms = ts } ≡ own_of (form_of is)
  row_here a b c = rw (own_here, a, b, c)

  pub terms_here : has_terms x ≡ true → Gatherable is → Holdable (terms_of is)
  terms_here t g = subst Holdable (ap (λ (o : Own). o.terms) own_here ∙ ap (λ b. cond b (terms_of is) []) t) g.terms
