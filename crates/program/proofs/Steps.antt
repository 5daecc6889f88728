-- What an action leads to at any stage, and in declarations of one item, from stage to stage.
-- Assumes nothing.
use mathlib.Core.List.{List, [], ◌∷◌}
use Prim.Native.Nat.{ℕ, suc, ◌+◌, ◌-◌, ◌≤◌, ◌<◌}
use native.Mathlib.Omega.{arith}
use Rattle.std.specs.Prelude.{Some, Ok}
use Rattle.limits.specs.Limits.{most_amount, most_placeholders}
use Rattle.grammar.specs.declared.Kind.{Kind}
use Rattle.grammar.specs.declared.Kind.TheVariants.{Interval, Tone, Retuning}
use Rattle.grammar.specs.declared.NumberUse.{NumberUse}
use Rattle.grammar.specs.declared.NumberUse.TheVariants.{RatioFirst, RatioSecond, Degree, Radicand, Frequency, Amount}
use Rattle.grammar.specs.declared.NameUse.TheVariants.{Placeholder, Amount as NamedAmount}
use Rattle.grammar.specs.declared.MarkUse.TheVariants.{KeptAnchor, KeptWidth}
use Rattle.grammar.specs.declared.Action.TheVariants.{Pass, Declare, Hold, Held, Number, Name, Mark}
use Rattle.grammar.specs.declared.Form.{Form}
use Rattle.grammar.specs.declared.Form.TheVariants.{AnchorTo, AnchorUp, AnchorDown, WidthTo, WidthUp, WidthDown, WidthTimes, WidthOver}
use Rattle.grammar.specs.declared.Item.{Item}
use Rattle.grammar.specs.declared.Item.TheVariants as item
use Rattle.grammar.specs.declared.Progress.{Progress}
use Rattle.grammar.specs.declared.Span.{Span}
use Rattle.grammar.specs.declared.terminals.Terminal.{Terminal}
use Rattle.grammar.specs.Terminals.{span_of}
use Rattle.grammar.specs.Reading.{Outcome, allowed_amount, allowed, limit, so_far, unless_full, used, acted}
use Rattle.program.proofs.Formed.{Body, a_ratio, a_root, a_frequency, anchor_kept_case, width_kept_case, an_amount, an_amount_name, after_names, no_name_case, a_name}
use Rattle.program.proofs.Ranges.{InRange, degree}
use Rattle.program.proofs.Outcomes.{unless_full_step, if_allowed_step}
use Rattle.program.proofs.Ahead.{Stage, nothing, body, second_part, radicand, names, more_names, NamesThen, names_then, Nothing, no_item, Comes, FitFactor, Leads, refused, passed, given, declares, Move}

-- ---- any stage

pub full : {P Q : Stage} (s : Progress) (most k : ℕ) (x : Span) (o : Outcome) → (k < most → Leads P Q s o)
    → Leads P Q s (unless_full most k x o)
full {P} {Q} s = unless_full_step (Leads P Q s) refused

-- the factor 1
pub fit_one : FitFactor 1
fit_one = omega arith

-- one, and what is left after it
pub one_fewer : {k most : ℕ} → k < most → suc (most - (k + 1)) ≤ most - k
one_fewer h = omega arith

pub one_of : (most k : ℕ) → 0 < most → suc (most - (k + 1)) ≤ most
one_of most k h = omega arith

pub passing : {t : Terminal} {P Q : Stage} → ((s : Progress) (is : List Item) → Comes Q s is → Comes P s is) → Move t P Pass Q
unfolding acted
passing c = record { leads = λ text s y e. passed (λ f. f) (c s) }

-- a declaration may end here
abbrev pub Ending : Stage → Type 0
Ending P = (s : Progress) → Comes P s []

pub declaring : {t : Terminal} {P : Stage} {k : Kind} → Ending P → Move t P (Declare k) (body k)
unfolding acted
declaring {k = k} end = record {
  leads = λ text s y e. full s (limit k) (so_far k s.counts) (span_of y) _ (λ h. declares fit_one (end s) (λ is c. c));
}

pub nothing_more : (B : List Item → Type 0) {is : List Item} → B [] → Nothing is → B is
nothing_more B h no_item = h

pub ending : {t : Terminal} {P : Stage} → Ending P → Move t P Pass nothing
ending {P = P} end = passing (λ s is c. nothing_more (Comes P s) (end s) c)

-- a number, read at once or held
module _ {t : Terminal} {P Q : Stage} {u : NumberUse}
    (h : (s : Progress) (x : Span) (v : ℕ) → InRange (allowed u) v → Leads P Q s (used s u v x)) where
  pub numbering : Move t P (Number u) Q
  unfolding acted
  numbering = record {
    leads = λ text s y e.
        let x = span_of y in
        if_allowed_step (Leads P Q s) refused text s u x.start x.end x (h s x);
  }

  pub holding : Move t P (Held u) Q
  unfolding acted
  holding = record {
    leads = λ text s y e.
        let x = span_of y in
        if_allowed_step (Leads P Q s) refused text s u s.first.start s.first.end x (h s x);
  }

-- ---- declarations of one item

only : {k : Kind} {s : Progress} {i : Item} → Body k (i ∷ []) → Leads (body k) nothing s (Ok (s, Some i))
only {k} {i = i} h = given (λ f. f) (λ is f c. nothing_more (λ (l : List Item). Body k (i ∷ l)) h c)

-- n is at most 9,999, after `/` too
at_most : (f : Form) {n : ℕ} → InRange (allowed_amount f) n → n ≤ most_amount
at_most AnchorTo h = h.1
at_most AnchorUp h = h.1
at_most AnchorDown h = h.1
at_most WidthTo h = h.1
at_most WidthUp h = h.1
at_most WidthDown h = h.1
at_most WidthTimes h = h.1
at_most WidthOver h = h.1

named_body : {n : ℕ} {is : List Item} → n ≤ most_placeholders → NamesThen n is → Body Retuning is
named_body l (names_then ns b) = after_names (more_names l ns) b

one_name_holds : {n m q : ℕ} {is : List Item} → suc n ≤ m → NamesThen n is → NamesThen m (item.Placeholder q ∷ is)
one_name_holds l (names_then ns b) = names_then (more_names l (a_name ns)) b

module _ {t : Terminal} where
  pub frequency : Move t (body Tone) (Number Frequency) nothing
  frequency = numbering (λ s x v h. only (a_frequency h))

  pub amount : {f : Form} → Move t (body Retuning) (Number (Amount f)) nothing
  amount {f} = numbering (λ s x v h. only (an_amount (at_most f h)))

  pub amount_name : {f : Form} → Move t (body Retuning) (Name (NamedAmount f)) nothing
  unfolding acted
  amount_name = record { leads = λ text s y e. only an_amount_name }

  -- placeholders' names, and what stands after them
  pub names_begin : Move t (body Retuning) Pass names
  names_begin = passing (λ s is c. named_body (omega arith) c)

  pub names_on : Move t names Pass names
  names_on = passing (λ s is c. c)

  pub names_end : Move t names Pass (body Retuning)
  names_end = passing (λ s is c. names_then no_name_case c)

  pub placeholder : Move t names (Name Placeholder) names
  unfolding acted
  placeholder = record {
    leads = λ text s y e. full s most_placeholders s.bracketed (span_of y) _ (λ l. given (λ f. f) (λ is f c. one_name_holds (one_fewer l) c));
  }

  pub anchor_same : Move t (body Retuning) (Mark KeptAnchor) nothing
  unfolding acted
  anchor_same = record { leads = λ text s y e. only anchor_kept_case }

  pub width_same : Move t (body Retuning) (Mark KeptWidth) nothing
  unfolding acted
  width_same = record { leads = λ text s y e. only width_kept_case }

  -- a ratio and a root: their first number is held, and judged by the symbol after it
  pub hold : Move t (body Interval) Hold (body Interval)
  unfolding acted
  hold = record { leads = λ text s y e. passed (λ f. f) (λ is c. c) }

  pub ratio_first : Move t (body Interval) (Held RatioFirst) second_part
  ratio_first = holding (λ s x v h. passed (λ f. f) (λ is c. c h))

  pub ratio_second : Move t second_part (Number RatioSecond) nothing
  ratio_second = numbering (λ s x v h.
      given (λ f. f) (λ is f c d. nothing_more (λ (l : List Item). Body Interval (item.Ratio s.first.value v ∷ l)) (a_ratio d h) c))

  pub root_degree : Move t (body Interval) (Held Degree) radicand
  root_degree = holding (λ s x v h. passed (λ f. f) (λ is c. c (degree h)))

  pub root_radicand : Move t radicand (Number Radicand) nothing
  root_radicand = numbering (λ s x v h.
      given (λ f. f) (λ is f c d. nothing_more (λ (l : List Item). Body Interval (item.Root s.first.value v ∷ l)) (a_root d h) c))
