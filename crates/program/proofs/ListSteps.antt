-- What the actions of lists of positions lead to, from stage to stage.
-- Assumes nothing.
use mathlib.Core.List.{List, ◌∷◌}
use Prim.Native.Nat.{ℕ, suc, ◌+◌, ◌-◌, ◌≤◌, ◌<◌}
use native.Mathlib.Nat.{sub-le}
use native.Mathlib.Omega.{arith}
use Rattle.grammar.specs.declared.Kind.TheVariants.{System, Retuning}
use Rattle.grammar.specs.declared.NumberUse.TheVariants.{AnchorKey}
use Rattle.grammar.specs.declared.NameUse.TheVariants.{Position}
use Rattle.grammar.specs.declared.MarkUse.TheVariants.{MutedPosition, KeptPosition}
use Rattle.grammar.specs.declared.Action.TheVariants.{Pass, Number, Name, Mark}
use Rattle.grammar.specs.declared.Item.{Item}
use Rattle.grammar.specs.declared.Item.TheVariants as item
use Rattle.grammar.specs.declared.Progress.{Progress}
use Rattle.grammar.specs.declared.Span.{Span}
use Rattle.grammar.specs.declared.terminals.Terminal.{Terminal}
use Rattle.grammar.specs.Terminals.{span_of}
use Rattle.grammar.specs.Reading.{allowed, most_terms, most_positions, with_positions, no_term, positioned, acted}
use Rattle.program.proofs.Formed.{no_term_holds, no_place, muted_place, tone_place, PositionItems, no_position, muted_position, kept_position, tone_position, something, Body, a_system, a_tones}
use Rattle.program.proofs.Ranges.{InRange}
use Rattle.program.proofs.Ahead.{more_places, more_positions, Stage, nothing, body, sequence, place, places, positions, tone_terms, Places, places_then, SomePlaces, some_places_then, ToneTerms, terms_then, positions_left, Comes, Leads, given, Move}
use Rattle.program.proofs.Steps.{full, fit_one, one_fewer, one_of, passing, nothing_more, Ending, numbering}

-- after one more position, with no term yet
abbrev one_position : Progress → Progress
one_position s = with_positions (s.positions + 1) (no_term s)

positioning : {P Q : Stage} (s : Progress) (x : Span) (i : Item)
    → (s.positions < most_positions → (is : List Item) → Comes Q (one_position s) is → Comes P s (i ∷ is)) → Leads P Q s (positioned s i x)
positioning s x i h = full s most_positions s.positions x _ (λ l. given (λ _. fit_one) (λ is f c. h l is c))

-- ---- of a tone system

muted_first : {n m : ℕ} {is : List Item} → suc m ≤ n → Places m is → SomePlaces n (item.MutedPosition ∷ is)
muted_first h (places_then ps ts) = some_places_then (more_places h (muted_place ps)) something ts

tone_first : {n m q : ℕ} {is : List Item} → suc m ≤ n → Places m is → SomePlaces n (item.TonePosition q ∷ is)
tone_first h (places_then ps ts) = some_places_then (more_places h (tone_place ps)) something ts

-- what may come after a position
abbrev AfterPlace : Stage → Type 0
AfterPlace Q = (s : Progress) (is : List Item) → Comes Q s is → Places (positions_left s) is

pub next_place : AfterPlace place
next_place s is (some_places_then ps h ts) = places_then ps ts

pub no_more_places : AfterPlace sequence
no_more_places s is ts = places_then no_place ts

anchored : {a : ℕ} (p : ℕ) {is : List Item} → InRange (allowed AnchorKey) a → SomePlaces (most_positions - p) is
    → Body System (item.AnchorKey a ∷ is)
anchored p h (some_places_then ps l ts) = a_system h.1 (more_places (sub-le most_positions p) ps) l ts

module _ {t : Terminal} where
  pub system_anchor : Move t (body System) (Number AnchorKey) place
  system_anchor = numbering (λ s x v h. given (λ f. f) (λ is f c. anchored s.positions h c))

  pub muted_place_mark : {Q : Stage} → AfterPlace Q → Move t place (Mark MutedPosition) Q
  unfolding acted
  muted_place_mark after = record {
    leads = λ text s y e.
        positioning s (span_of y) item.MutedPosition (λ h is c. muted_first (one_fewer h) (after (one_position s) is c));
  }

  pub tone_place_name : Move t place (Name Position) places
  unfolding acted
  tone_place_name = record { leads = λ text s y e. positioning s (span_of y) _ (λ h is c. tone_first (one_fewer h) c) }

  pub place_end : {Q : Stage} → AfterPlace Q → Move t places Pass Q
  place_end after = passing (λ s is c. after s is c)

-- ---- of a tones retuning

kept_first : {m : ℕ} {is : List Item} → ToneTerms most_terms m is → PositionItems (suc m) (item.KeptPosition ∷ is)
kept_first (terms_then ts ps) = kept_position ts ps

tone_with_terms : {m q : ℕ} {is : List Item} → ToneTerms most_terms m is → PositionItems (suc m) (item.TonePosition q ∷ is)
tone_with_terms (terms_then ts ps) = tone_position ts ps

-- at P a position may come
abbrev Lists : Stage → Type 0
Lists P = (s : Progress) (i : Item) (is : List Item) → s.positions < most_positions
    → PositionItems (suc (most_positions - (s.positions + 1))) (i ∷ is) → Comes P s (i ∷ is)

pub further : Lists positions
further s i is h ps = more_positions (one_fewer h) ps

pub first : Lists (body Retuning)
first s i is h ps = a_tones (more_positions (one_of most_positions s.positions (omega arith)) ps) something

-- what may come after a muted position
abbrev AfterMuted : Stage → Type 0
AfterMuted Q = (s : Progress) (is : List Item) → Comes Q s is → PositionItems (positions_left s) is

pub next_position : AfterMuted positions
next_position s is ps = ps

pub no_more_positions : AfterMuted nothing
no_more_positions s is c = nothing_more (PositionItems (positions_left s)) no_position c

module _ {t : Terminal} {P : Stage} (lists : Lists P) where
  pub muted_mark : {Q : Stage} → AfterMuted Q → Move t P (Mark MutedPosition) Q
  unfolding acted
  muted_mark after = record {
    leads = λ text s y e.
        positioning s (span_of y) item.MutedPosition (λ h is c. lists s _ is h (muted_position (after (one_position s) is c)));
  }

  pub kept_mark : Move t P (Mark KeptPosition) tone_terms
  unfolding acted
  kept_mark = record { leads = λ text s y e. positioning s (span_of y) item.KeptPosition (λ h is c. lists s _ is h (kept_first c)) }

  pub tone_name : Move t P (Name Position) tone_terms
  unfolding acted
  tone_name = record { leads = λ text s y e. positioning s (span_of y) _ (λ h is c. lists s _ is h (tone_with_terms c)) }

pub position_end : {t : Terminal} → Move t tone_terms Pass positions
position_end = passing (λ s is c. terms_then no_term_holds c)

pub positions_may_end : Ending tone_terms
positions_may_end s = terms_then no_term_holds no_position
