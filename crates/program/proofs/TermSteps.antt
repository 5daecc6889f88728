-- What the actions of terms lead to, from stage to stage.
-- Assumes nothing.
use mathlib.Core.Bool.{Bool, true, false}
use mathlib.Core.List.{List, ◌∷◌}
use Prim.Native.Nat.{ℕ, suc, ◌≤◌}
use native.Mathlib.Nat.{sub-le}
use native.Mathlib.Omega.{arith}
use Rattle.grammar.specs.declared.Kind.TheVariants.{Interval, Tone, Retuning}
use Rattle.grammar.specs.declared.NumberUse.TheVariants.{FirstFactor, Factor}
use Rattle.grammar.specs.declared.NameUse.TheVariants.{Term, Base}
use Rattle.grammar.specs.declared.MarkUse.TheVariants.{Period, Onward}
use Rattle.grammar.specs.declared.Action.TheVariants.{Held, Number, Sign, Name, Mark}
use Rattle.grammar.specs.declared.Item.{Item}
use Rattle.grammar.specs.declared.Progress.{Progress}
use Rattle.grammar.specs.declared.terminals.Terminal.{Terminal}
use Rattle.grammar.specs.Terminals.{start_of, span_of}
use Rattle.grammar.specs.Reading.{most_terms, term_item, acted}
use Rattle.program.proofs.Formed.{TermItems, add_term, subtract_term, a_sequence, from_tone, fresh_period_case, onward_period_case}
use Rattle.program.proofs.Ahead.{more_terms, Stage, body, sequence, term, terms, period, tone_term, tone_terms, ToneTerms, terms_then, term_and_left, Comes, FitFactor, passed, given, Move}
use Rattle.program.proofs.Steps.{full, fit_one, one_fewer, one_of, numbering, holding}

one_term : (m : Bool) (q : ℕ) {n f : ℕ} {is : List Item} → FitFactor f → TermItems n is → TermItems (suc n) (term_item m f q ∷ is)
one_term true q h ts = subtract_term h ts
one_term false q h ts = add_term h ts

-- at P a term may come
abbrev Opens : Stage → Type 0
Opens P = (s : Progress) (is : List Item) → TermItems (term_and_left s) is → Comes P s is

pub opens_term : Opens term
opens_term s is ts = ts

pub opens_sequence : Opens sequence
opens_sequence s is ts = more_terms (one_of most_terms s.term.before (omega arith)) ts

pub opens_interval : Opens (body Interval)
opens_interval s is ts = a_sequence (opens_sequence s is ts)

pub opens_period : Opens period
opens_period s is ts = fresh_period_case (opens_sequence s is ts)

module _ {t : Terminal} where
  pub sign : {m : Bool} → Move t terms (Sign m) term
  unfolding acted
  sign = record {
    leads = λ text s y e.
        full s most_terms s.term.before (span_of y) _ (λ h. passed (λ _. fit_one) (λ is ts. more_terms (one_fewer h) ts));
  }

  pub factor : {P : Stage} → Opens P → Move t P (Number Factor) term
  factor opens = numbering (λ s x v h. passed (λ _. h.1) (opens s))

  pub named_term : {P : Stage} → Opens P → Move t P (Name Term) terms
  unfolding acted
  named_term opens = record {
    leads = λ text s y e. given (λ _. fit_one) (λ is f ts. opens s _ (one_term s.term.minus (start_of y) f ts));
  }

  pub factor_first : Move t (body Interval) (Held FirstFactor) terms
  factor_first = holding (λ s x v h. given (λ _. fit_one) (λ is f ts. opens_interval s _ (one_term s.term.minus x.start h.1 ts)))

  pub base : Move t (body Tone) (Name Base) terms
  unfolding acted
  base = record { leads = λ text s y e. given (λ f. f) (λ is f ts. from_tone (more_terms (sub-le most_terms s.term.before) ts)) }

  pub period_mark : Move t (body Retuning) (Mark Period) period
  unfolding acted
  period_mark = record { leads = λ text s y e. given (λ f. f) (λ is f c. c) }

  pub period_onward : Move t period (Mark Onward) terms
  unfolding acted
  period_onward = record { leads = λ text s y e. given (λ f. f) (λ is f ts. onward_period_case (more_terms (sub-le most_terms s.term.before) ts)) }

-- ---- the terms of a position

more_tone_terms : {n k m : ℕ} {is : List Item} → n ≤ k → ToneTerms n m is → ToneTerms k m is
more_tone_terms h (terms_then ts ps) = terms_then (more_terms h ts) ps

one_tone_term : (b : Bool) (q : ℕ) {n m f : ℕ} {is : List Item} → FitFactor f → ToneTerms n m is → ToneTerms (suc n) m (term_item b f q ∷ is)
one_tone_term b q h (terms_then ts ps) = terms_then (one_term b q h ts) ps

module _ {t : Terminal} where
  pub tone_sign : {m : Bool} → Move t tone_terms (Sign m) tone_term
  unfolding acted
  tone_sign = record {
    leads = λ text s y e.
        full s most_terms s.term.before (span_of y) _ (λ h. passed (λ _. fit_one) (λ is ts. more_tone_terms (one_fewer h) ts));
  }

  pub tone_factor : Move t tone_term (Number Factor) tone_term
  tone_factor = numbering (λ s x v h. passed (λ _. h.1) (λ is c. c))

  pub tone_term_step : Move t tone_term (Name Term) tone_terms
  unfolding acted
  tone_term_step = record {
    leads = λ text s y e. given (λ _. fit_one) (λ is f ts. one_tone_term s.term.minus (start_of y) f ts);
  }
