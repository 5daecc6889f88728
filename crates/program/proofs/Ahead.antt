-- What may still come of a declaration, by the stage in which it is, and how a step leads from stage to stage.
-- Assumes nothing.
use mathlib.Core.Path.{◌≡◌}
use mathlib.Core.List.{List, [], ◌∷◌, ◌++◌}
use Prim.Native.Nat.{ℕ, zero, suc, ◌+◌, ◌-◌, ◌≤◌}
use native.Mathlib.Nat.{le_of_suc-le-suc}
use native.Mathlib.Omega.{arith}
use Rattle.std.specs.Prelude.{Some, None, Ok, Err}
use Rattle.status.specs.declared.Refusal.{Refusal}
use Rattle.limits.specs.Limits.{most_harmony_keys, most_placeholders}
use Rattle.symbols.specs.declared.Symbol.{Symbol}
use Rattle.grammar.specs.declared.Kind.{Kind}
use Rattle.grammar.specs.declared.Kind.TheVariants.{Interval, Retuning}
use Rattle.grammar.specs.declared.Action.{Action}
use Rattle.grammar.specs.declared.Item.{Item}
use Rattle.grammar.specs.declared.Item.TheVariants as item
use Rattle.grammar.specs.declared.Progress.{Progress}
use Rattle.grammar.specs.declared.terminals.Terminal.{Terminal}
use Rattle.grammar.specs.Terminals.{terminal_of, span_of}
use Rattle.grammar.specs.Reading.{Outcome, most_terms, most_positions, acted}
use Rattle.program.specs.Allowed.{Decimal, Degree}
use Rattle.program.proofs.Formed.{TermItems, no_term_holds, add_term, subtract_term, PlaceItems, no_place, muted_place, tone_place, PositionItems, no_position, muted_position, kept_position, tone_position, NameItems, no_name_case, a_name, NumberItems, no_number_case, a_number, StartItems, OrderItems, KeyItems, NotEmpty, Body, Formed, declaration}
use Rattle.program.proofs.Walk.{Keeps, refuses, goes, gives}

-- ---- where there is room for more

pub more_terms : {n m : ℕ} {is : List Item} → n ≤ m → TermItems n is → TermItems m is
more_terms h no_term_holds = no_term_holds
more_terms {m = zero} h (add_term f ts) = absurd (omega arith)
more_terms {m = suc m} h (add_term f ts) = add_term f (more_terms (le_of_suc-le-suc h) ts)
more_terms {m = zero} h (subtract_term f ts) = absurd (omega arith)
more_terms {m = suc m} h (subtract_term f ts) = subtract_term f (more_terms (le_of_suc-le-suc h) ts)

pub more_places : {n m : ℕ} {is : List Item} → n ≤ m → PlaceItems n is → PlaceItems m is
more_places h no_place = no_place
more_places {m = zero} h (muted_place ps) = absurd (omega arith)
more_places {m = suc m} h (muted_place ps) = muted_place (more_places (le_of_suc-le-suc h) ps)
more_places {m = zero} h (tone_place ps) = absurd (omega arith)
more_places {m = suc m} h (tone_place ps) = tone_place (more_places (le_of_suc-le-suc h) ps)

pub more_positions : {n m : ℕ} {is : List Item} → n ≤ m → PositionItems n is → PositionItems m is
more_positions h no_position = no_position
more_positions {m = zero} h (muted_position ps) = absurd (omega arith)
more_positions {m = suc m} h (muted_position ps) = muted_position (more_positions (le_of_suc-le-suc h) ps)
more_positions {m = zero} h (kept_position ts ps) = absurd (omega arith)
more_positions {m = suc m} h (kept_position ts ps) = kept_position ts (more_positions (le_of_suc-le-suc h) ps)
more_positions {m = zero} h (tone_position ts ps) = absurd (omega arith)
more_positions {m = suc m} h (tone_position ts ps) = tone_position ts (more_positions (le_of_suc-le-suc h) ps)

pub more_names : {n m : ℕ} {is : List Item} → n ≤ m → NameItems n is → NameItems m is
more_names h no_name_case = no_name_case
more_names {m = zero} h (a_name ns) = absurd (omega arith)
more_names {m = suc m} h (a_name ns) = a_name (more_names (le_of_suc-le-suc h) ns)

pub more_numbers : {n m : ℕ} {is : List Item} → n ≤ m → NumberItems n is → NumberItems m is
more_numbers h no_number_case = no_number_case
more_numbers {m = zero} h (a_number l ns) = absurd (omega arith)
more_numbers {m = suc m} h (a_number l ns) = a_number l (more_numbers (le_of_suc-le-suc h) ns)

-- ---- stages

-- what comes next of a declaration
pub data Stage : Type 0 where
  -- nothing more
  nothing : Stage
  -- all that stands after its name
  body : Kind → Stage
  -- a ratio's second number, a root's, after the first is judged
  second_part radicand : Stage
  -- a sequence from its first term on; a term and signed ones; signed terms, if any; what stands after the `[ ]` of a period
  sequence term terms period : Stage
  -- a position of a tone system, or what stands after one
  place places : Stage
  -- positions of a tones retuning, if any; of the one under way, a term and signed ones, or signed terms, if any
  positions tone_term tone_terms : Stage
  -- names of placeholders, if any, and what stands after them
  names : Stage
  -- a logic's start, its orders, after an order's trigger what it calls and further orders, and, after what is called, its numbers, if any, and further orders
  start orders order numbers : Stage
  -- a key of a harmony and further ones, or further ones, if any
  key keys : Stage

pub data Nothing : List Item → Type 0 where
  no_item : Nothing []

-- positions of a tone system, at most n, and its period
pub data Places (n : ℕ) : List Item → Type 0 where
  places_then : {ps is : List Item} → PlaceItems n ps → TermItems most_terms is → Places n (ps ++ is)

pub data SomePlaces (n : ℕ) : List Item → Type 0 where
  some_places_then : {ps is : List Item} → PlaceItems n ps → NotEmpty ps → TermItems most_terms is → SomePlaces n (ps ++ is)

-- terms of a position, at most n, and further positions, at most m
pub data ToneTerms (n m : ℕ) : List Item → Type 0 where
  terms_then : {ts is : List Item} → TermItems n ts → PositionItems m is → ToneTerms n m (ts ++ is)

-- at most n names of placeholders, and what stands after them
pub data NamesThen (n : ℕ) : List Item → Type 0 where
  names_then : {ns is : List Item} → NameItems n ns → Body Retuning is → NamesThen n (ns ++ is)

-- at most n numbers that a call gives, and further orders
pub data NumbersThen (n : ℕ) : List Item → Type 0 where
  numbers_then : {ns os : List Item} → NumberItems n ns → OrderItems os → NumbersThen n (ns ++ os)

-- what an order calls, with its numbers, and further orders
pub data Calls : List Item → Type 0 where
  call_then : {q k : ℕ} {is : List Item} → NumbersThen most_placeholders is → Calls (item.Order q k ∷ is)

-- keys of a harmony, at most n, none of them in a set
pub record SomeKeys (set n : ℕ) (is : List Item) : Type 0 where
  pub keys : KeyItems set n is
  pub some : NotEmpty is

pub data Starts : List Item → Type 0 where
  start_then_case : {ss os : List Item} → StartItems ss → OrderItems os → Starts (ss ++ os)

-- the terms and the positions for which there is room
abbrev pub terms_left : Progress → ℕ
terms_left s = most_terms - s.term.before

abbrev pub positions_left : Progress → ℕ
positions_left s = most_positions - s.positions

abbrev pub keys_left : Progress → ℕ
keys_left s = most_harmony_keys - s.positions

abbrev pub bracketed_left : Progress → ℕ
bracketed_left s = most_placeholders - s.bracketed

-- a term, and those for which there is room after it
abbrev pub term_and_left : Progress → ℕ
term_and_left s = suc (most_terms - (s.term.before + 1))

-- the items that still come of a declaration
abbrev pub Comes : Stage → Progress → List Item → Type 0
Comes nothing s is = Nothing is
Comes (body k) s is = Body k is
Comes second_part s is = Decimal s.first.value → Body Interval is
Comes radicand s is = Degree s.first.value → Body Interval is
Comes sequence s is = TermItems most_terms is
Comes term s is = TermItems (term_and_left s) is
Comes terms s is = TermItems (terms_left s) is
Comes period s is = Body Retuning (item.Period ∷ is)
Comes place s is = SomePlaces (positions_left s) is
Comes places s is = Places (positions_left s) is
Comes positions s is = PositionItems (positions_left s) is
Comes tone_term s is = ToneTerms (term_and_left s) (positions_left s) is
Comes tone_terms s is = ToneTerms (terms_left s) (positions_left s) is
Comes names s is = NamesThen (bracketed_left s) is
Comes start s is = Starts is
Comes orders s is = OrderItems is
Comes order s is = Calls is
Comes numbers s is = NumbersThen (bracketed_left s) is
Comes key s is = SomeKeys s.keys (keys_left s) is
Comes keys s is = KeyItems s.keys (keys_left s) is

-- the rest of the declaration under way, and whole ones
pub data Ahead (P : Stage) (s : Progress) : List Item → Type 0 where
  ahead : (is : List Item) {rest : List Item} → Comes P s is → Formed rest → Ahead P s (is ++ rest)

-- "factor: whole, 0 to 999"
abbrev pub FitFactor : ℕ → Type 0
FitFactor f = f ≤ 999

-- the next term's factor is allowed
abbrev pub Fit : Progress → Type 0
Fit s = FitFactor s.term.factor

-- ---- a step from stage to stage

-- what an outcome leads to, from stage P and progress s to stage Q
pub data Leads (P Q : Stage) (s : Progress) : Outcome → Type 0 where
  refused : (e : Refusal) → Leads P Q s (Err e)
  passed : {t : Progress} → (Fit s → Fit t) → ((is : List Item) → Comes Q t is → Comes P s is) → Leads P Q s (Ok (t, None))
  given : {t : Progress} {i : Item} → (Fit s → Fit t) → ((is : List Item) → Fit s → Comes Q t is → Comes P s (i ∷ is))
      → Leads P Q s (Ok (t, Some i))
  declares : {t : Progress} {k : Kind} {p : ℕ} → Fit t → Comes P s [] → ((is : List Item) → Comes Q t is → Body k is)
      → Leads P Q s (Ok (t, Some (item.Declared k p)))

-- an action at a symbol leads from stage P to stage Q
pub record Move (t : Terminal) (P : Stage) (a : Action) (Q : Stage) : Type 0 where
  pub leads : (text : List ℕ) (s : Progress) (y : Symbol) → terminal_of text y ≡ t → Leads P Q s (acted text s a (span_of y))

-- such a step keeps what is ahead
pub keeps_ahead : {P Q : Stage} {s : Progress} {o : Outcome} → Leads P Q s o
    → Keeps (λ t is. Fit t → Ahead Q t is) (λ is. Fit s → Ahead P s is) o
keeps_ahead (refused e) = refuses e
keeps_ahead {P} {Q} {s} (passed {t = t} fit c) = goes t (λ is later f. on (later (fit f)))
  where
    on : {is : List Item} → Ahead Q t is → Ahead P s is
    on (ahead is w r) = ahead is (c is w) r
keeps_ahead {P} {Q} {s} (given {t = t} {i = i} fit c) = gives t i (λ is later f. on f (later (fit f)))
  where
    on : {is : List Item} → Fit s → Ahead Q t is → Ahead P s (i ∷ is)
    on f (ahead is w r) = ahead (i ∷ is) (c is f w) r
keeps_ahead {P} {Q} {s} (declares {t = t} {k = k} {p = p} fit e c) = gives t (item.Declared k p) (λ is later f. on (later fit))
  where
    on : {is : List Item} → Ahead Q t is → Ahead P s (item.Declared k p ∷ is)
    on (ahead is w r) = ahead [] e (declaration (c is w) r)
