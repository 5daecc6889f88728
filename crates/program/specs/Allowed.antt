-- "Numbers allowed", as every accepted text keeps them: what holds of each declaration, and how many there are of each kind.
-- `accepted_allowed` of proofs/AllowedText.antt: the program of an accepted text is such a one.
use Rattle.std.specs.Prelude.{◌≡◌, Bool, true, false, ◌||◌, List, [], ◌∷◌, ℕ, suc, ◌+◌, ◌≤◌, ◌<◌, eqb, length, Option, Some, None}
use Rattle.grammar.specs.declared.Kind.{Kind}
use Rattle.grammar.specs.declared.Kind.TheVariants.{Interval, Tone, System, Retuning, Logic, Order as AnOrder, Harmony}
use Rattle.grammar.specs.Moves.{kind_number}
use Rattle.grammar.specs.Reading.{limit, most_terms, most_positions}
use Rattle.names.specs.Parts as parts
use Rattle.names.specs.Names.{meant}
use Rattle.tuning.specs.declared.Operator.TheVariants.{Plus, Minus, Times, Divide}
use Rattle.tuning.specs.declared.Amount.{Amount}
use Rattle.tuning.specs.declared.Amount.TheVariants.{Kept, Absolute, Relative}
use Rattle.limits.specs.Limits.{most_part, most_degree, most_factor, most_anchor, most_amount, most_calls, first_letter, last_letter, most_harmony_key, most_harmony_keys}
use Rattle.sets.specs.Sets.{has, added}
use Rattle.harmonies.specs.Harmonies.{HarmonyKey}
use Rattle.values.specs.Values.{Term}
use Rattle.program.specs.Program.{Declaration, ratio, root, sequence, frequency, from, system, anchor, width, fresh_period, onward_period, tones, pattern, logic, harmony, Placed, Program, Position, mute, kept, named, Trigger, by_letter, by_harmony, Order}
use Rattle.program.specs.Meaning.{declaration_at}

-- ---- numbers

-- "ratio parts, radicand, frequency: 0.0001 to 429496.7295", in ten-thousandths
pub record Decimal (n : ℕ) : Type 0 where
  pub least : 0 < n
  pub most : n < most_part + 1

-- "root degree: whole, 1 to 65,535"
pub record Degree (n : ℕ) : Type 0 where
  pub least : 0 < n
  pub most : n < most_degree + 1

-- "A letter is a one-letter name from a to z", as its capital
pub record Letter (c : ℕ) : Type 0 where
  pub least : first_letter ≤ c
  pub most : c ≤ last_letter

-- "n in anchor and width retunings: whole, 0 to 9,999"; an anchor knows only `+` and `-`. A written n is from 1 after `/`; of a number that a call gives
-- document 02, 1/13, says "only a zero handed to `/` waits for the call"
abbrev pub AnchorAmount : Amount → Type 0
AnchorAmount Kept = Unit
AnchorAmount (Absolute n) = n ≤ most_amount
AnchorAmount (Relative Plus n) = n ≤ most_amount
AnchorAmount (Relative Minus n) = n ≤ most_amount
AnchorAmount (Relative Times n) = ⊥
AnchorAmount (Relative Divide n) = ⊥

abbrev pub WidthAmount : Amount → Type 0
WidthAmount Kept = Unit
WidthAmount (Absolute n) = n ≤ most_amount
WidthAmount (Relative Plus n) = n ≤ most_amount
WidthAmount (Relative Minus n) = n ≤ most_amount
WidthAmount (Relative Times n) = n ≤ most_amount
WidthAmount (Relative Divide n) = n ≤ most_amount

-- ---- references

abbrev pub kind_of : Declaration → Kind
kind_of (ratio p q) = Interval
kind_of (root a b) = Interval
kind_of (sequence ts) = Interval
kind_of (frequency f) = Tone
kind_of (from k ts) = Tone
kind_of (system a l ts) = System
kind_of (anchor m) = Retuning
kind_of (width m) = Retuning
kind_of (fresh_period ts) = Retuning
kind_of (onward_period ts) = Retuning
kind_of (tones l) = Retuning
kind_of pattern = Retuning
kind_of (logic c s os) = Logic
kind_of (harmony ks) = Harmony

abbrev pub is_kind : Kind → List Kind → Bool
is_kind k [] = false
is_kind k (m ∷ ms) = eqb (kind_number k) (kind_number m) || is_kind k ms

-- declaration n is there, and of one of these kinds
pub record Refers (p : Program) (ks : List Kind) (n : ℕ) : Type 0 where
  pub within : n < length p
  pub kind : is_kind (kind_of (declaration_at p n)) ks ≡ true

-- a retuning whose n is a placeholder
abbrev pub is_pattern : Declaration → Bool
is_pattern (ratio p q) = false
is_pattern (root a b) = false
is_pattern (sequence ts) = false
is_pattern (frequency f) = false
is_pattern (from k ts) = false
is_pattern (system a l ts) = false
is_pattern (anchor m) = false
is_pattern (width m) = false
is_pattern (fresh_period ts) = false
is_pattern (onward_period ts) = false
is_pattern (tones l) = false
is_pattern pattern = true
is_pattern (logic c s os) = false
is_pattern (harmony ks) = false

-- document 02, 1/13: what is called has its numbers written in
pub record Callable (p : Program) (ks : List Kind) (n : ℕ) : Type 0 where
  pub refers : Refers p ks n
  pub whole : is_pattern (declaration_at p n) ≡ false

-- something holds of each in a list
abbrev pub Each : {A : Type 0} → (A → Type 0) → List A → Type 0
Each P [] = Unit
Each P (x ∷ xs) = P x × Each P xs

-- ---- declarations

-- "factor: whole, 0 to 999"
pub record FitTerm (p : Program) (t : Term) : Type 0 where
  pub factor : t.factor ≤ most_factor
  pub of : Refers p (meant parts.add) t.of

-- "terms in one sequence, tone or expression: 16"
pub record Terms (p : Program) (ts : List Term) : Type 0 where
  pub few : length ts ≤ most_terms
  pub each : Each (FitTerm p) ts

-- "positions in one list: 60"; an empty list is refused
pub record Positions (n : ℕ) : Type 0 where
  pub some : 1 ≤ n
  pub few : n ≤ most_positions

abbrev pub FitSystemPosition : Program → Option ℕ → Type 0
FitSystemPosition p None = Unit
FitSystemPosition p (Some k) = Refers p (meant parts.position) k

abbrev pub FitPosition : Program → Position → Type 0
FitPosition p mute = Unit
FitPosition p (kept ts) = Terms p ts
FitPosition p (named k ts) = Refers p (meant parts.position) k × Terms p ts

abbrev pub FitStart : Program → Option ℕ → Type 0
FitStart p None = Unit
FitStart p (Some k) = Callable p (meant parts.start) k

abbrev pub FitTrigger : Program → Trigger → Type 0
FitTrigger p (by_letter c) = Letter c
FitTrigger p (by_harmony k) = Refers p (meant parts.trigger) k

pub record FitOrder (p : Program) (o : Order) : Type 0 where
  pub trigger : FitTrigger p o.trigger
  pub calls : Callable p (meant parts.order) o.calls

-- "anchor in a tone system: whole, 0 to 127"
pub record FitSystem (p : Program) (a : ℕ) (l : List (Option ℕ)) (ts : List Term) : Type 0 where
  pub anchor : a ≤ most_anchor
  pub positions : Positions (length l)
  pub each : Each (FitSystemPosition p) l
  pub period : Terms p ts

pub record FitTones (p : Program) (l : List Position) : Type 0 where
  pub positions : Positions (length l)
  pub each : Each (FitPosition p) l

pub record FitLogic (p : Program) (c : Trigger) (s : Option ℕ) (os : List Order) : Type 0 where
  pub trigger : FitTrigger p c
  pub start : FitStart p s
  pub orders : Each (FitOrder p) os

-- "3 also for .. a number named twice": no key is one of a set, nor one of those before it
abbrev pub NamedOnce : ℕ → List HarmonyKey → Type 0
NamedOnce set [] = Unit
NamedOnce set (k ∷ ks) = (has set k.key ≡ false) × NamedOnce (added set k.key) ks

-- "key numbers from 0 to 59", "at most 60 keys"; empty braces are refused
pub record FitHarmony (ks : List HarmonyKey) : Type 0 where
  pub some : 1 ≤ length ks
  pub few : length ks ≤ most_harmony_keys
  pub each : Each (λ (k : HarmonyKey). k.key ≤ most_harmony_key) ks
  pub once : NamedOnce 0 ks

abbrev pub Fits : Program → Declaration → Type 0
Fits p (ratio a b) = Decimal a × Decimal b
Fits p (root a b) = Degree a × Decimal b
Fits p (sequence ts) = Terms p ts
Fits p (frequency f) = Decimal f
Fits p (from k ts) = Refers p (meant parts.base) k × Terms p ts
Fits p (system a l ts) = FitSystem p a l ts
Fits p (anchor m) = AnchorAmount m
Fits p (width m) = WidthAmount m
Fits p (fresh_period ts) = Terms p ts
Fits p (onward_period ts) = Terms p ts
Fits p (tones l) = FitTones p l
Fits p pattern = Unit
Fits p (logic c s os) = FitLogic p c s os
Fits p (harmony ks) = FitHarmony ks

-- ---- counts

abbrev pub if_kind : Bool → ℕ → ℕ
if_kind true n = suc n
if_kind false n = n

-- how many declarations of a kind there are
unfoldable pub count_of : Kind → Program → ℕ
count_of k [] = 0
count_of k (d ∷ ds) = if_kind (eqb (kind_number (kind_of d.is)) (kind_number k)) (count_of k ds)

-- how many orders a declaration has, and all of them
abbrev pub order_count : Declaration → ℕ
order_count (ratio p q) = 0
order_count (root a b) = 0
order_count (sequence ts) = 0
order_count (frequency f) = 0
order_count (from k ts) = 0
order_count (system a l ts) = 0
order_count (anchor m) = 0
order_count (width m) = 0
order_count (fresh_period ts) = 0
order_count (onward_period ts) = 0
order_count (tones l) = 0
order_count pattern = 0
order_count (logic c s os) = length os
order_count (harmony ks) = 0

unfoldable pub orders_in : Program → ℕ
orders_in [] = 0
orders_in (d ∷ ds) = order_count d.is + orders_in ds

-- how many tones retunings there are
abbrev pub tones_count : Declaration → ℕ
tones_count (ratio p q) = 0
tones_count (root a b) = 0
tones_count (sequence ts) = 0
tones_count (frequency f) = 0
tones_count (from k ts) = 0
tones_count (system a l ts) = 0
tones_count (anchor m) = 0
tones_count (width m) = 0
tones_count (fresh_period ts) = 0
tones_count (onward_period ts) = 0
tones_count (tones l) = 1
tones_count pattern = 0
tones_count (logic c s os) = 0
tones_count (harmony ks) = 0

unfoldable pub tones_in : Program → ℕ
tones_in [] = 0
tones_in (d ∷ ds) = tones_count d.is + tones_in ds

-- "intervals, tones: 256 each; tone systems, logics: 32 each; retunings: 128; orders in all logics together: 512"; "at most 64 harmonies"; and one retuning
-- that is filled in for each call
abbrev pub most_of : Kind → ℕ
most_of Interval = limit Interval
most_of Tone = limit Tone
most_of System = limit System
most_of Retuning = limit Retuning + most_calls
most_of Logic = limit Logic
most_of AnOrder = limit AnOrder
most_of Harmony = limit Harmony

pub record Allowed (p : Program) : Type 0 where
  pub few : (k : Kind) → count_of k p ≤ most_of k
  pub orders : orders_in p ≤ limit AnOrder
  -- those that are filled in are anchors and widths
  pub listed : tones_in p ≤ limit Retuning
  pub each : Each (λ (d : Placed). Fits p d.is) p
