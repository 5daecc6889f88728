-- What the contracts cite: no part of the rules.
use Rattle.std.specs.Prelude.{◌≡◌, Bool, List, [], ◌∷◌, map, ℕ, ◌+◌, ◌*◌, ◌≤◌, ◌<◌, ◌^◌, ltb, ℤ, pos, nat_abs, length, get_or, replicate, Option, Some, None}
use Rattle.std.proofs.lemmas.List.Edits.{sets}
use Rattle.grammar.specs.Reading.{most_terms}
use Rattle.names.specs.Parts.{Part}
use Rattle.values.specs.Values.{Term, farthest_tone}
use Rattle.values.specs.Rows.{rows}
use Rattle.tuning.specs.declared.Retuning.TheVariants.{Anchor, Width, Period, Tones}
use Rattle.tables.specs.declared.Counts.{Counts}
use Rattle.tables.specs.declared.Row.{Row}
use Rattle.tables.specs.declared.Row.TheVariants as row
use Rattle.tables.specs.Layout.{Tables, most_rows, row_width, most_tones, most_changes, most_orders, counts_size, numbers_of, written, amount_number, sounding_of, pitch_of, change_code, change_number}
use Rattle.program.specs.Program.{Declaration, ratio, root, sequence, frequency, from, system, anchor, width, fresh_period, onward_period, tones, pattern, logic, harmony, Program, Position, mute, kept, named, Trigger, by_letter, by_harmony, Order}
use Rattle.program.specs.Program.{AsListed, unlisted, a_term, muted_position, kept_position, tone_position, a_start, a_trigger, a_call, a_key, group_then, order_then}
use Rattle.program.specs.Meaning.{value_of}
use Rattle.program.specs.Allowed.{Each}
use Rattle.limits.specs.Limits.{most_factor, most_harmony_key}
use Rattle.harmonies.specs.Harmonies.{HarmonyKey}
use Rattle.filling.specs.declared.lists.Order.{Order as OrderRead}
use Rattle.filling.specs.declared.triggers.Trigger.{Trigger as TriggerRead}
use Rattle.filling.specs.declared.triggers.Trigger.TheVariants as triggerRead
use Rattle.filling.specs.Tables.{tones_of, changes_of, orders_of, start_code, trigger_code, row_of}

-- how large a term is
abbrev pub greatest_factor : ℕ
greatest_factor = most_factor

abbrev pub largest_term : ℕ
largest_term = greatest_factor * farthest_tone

-- a slice has the value of each declaration
pub record Valued (p : Program) (values : List ℤ) : Type 0 where
  pub size : length values ≡ rows
  pub exact : (i : ℕ) → i < length p → get_or values i (pos 0) ≡ value_of p i
  pub small : (i : ℕ) → i < length p → nat_abs (get_or values i (pos 0)) ≤ farthest_tone

-- tables of full size with zeros alone
abbrev pub blank : Tables
blank = record {
  rows = replicate (row_width * most_rows) (pos 0);
  sounding = replicate most_tones 0;
  tones = replicate most_tones (pos 0);
  kinds = replicate most_changes 0;
  changes = replicate most_changes (pos 0);
  triggers = replicate most_orders 0;
  calls = replicate most_orders 0;
  counts = replicate counts_size 0;
}

-- ---- what the functions read

-- the value that a slice has for a declaration
abbrev pub value_in : List ℤ → ℕ → ℤ
value_in values k = get_or values k (pos 0)

-- the position that begins with a part and has these terms, if one does
abbrev pub position_by : Part → List Term → List Position
position_by q ts = (group_then q (record { before = ts; positions = [] })).positions

abbrev pub begins : Part → Bool
begins q = ltb 0 (length (position_by q []))

-- the trigger that a part is, if it is one
abbrev pub as_trigger : AsListed → Option Trigger
as_trigger (a_trigger x) = Some x
as_trigger unlisted = None
as_trigger (a_term t) = None
as_trigger muted_position = None
as_trigger kept_position = None
as_trigger (tone_position n) = None
as_trigger (a_start n) = None
as_trigger (a_call n) = None
as_trigger (a_key k) = None

-- the order that begins with a part and calls this, if one does
abbrev pub order_by : Part → Option ℕ → List Order
order_by q called = (order_then q (record { call = called; orders = [] })).orders

-- the one thing that is found, or none
abbrev pub found : {A : Type 0} → Option A → List A
found None = []
found (Some x) = x ∷ []

-- a trigger as the code holds it
abbrev pub trigger_by : TriggerRead → Trigger
trigger_by (triggerRead.Letter c) = by_letter c
trigger_by (triggerRead.Harmony k) = by_harmony k

-- and an order
abbrev pub order_read : OrderRead → Order
order_read x = record { trigger = trigger_by x.trigger; calls = x.calls }

-- the code of an order's trigger, and what the order calls
abbrev pub trigger_of : Order → ℕ
trigger_of x = trigger_code x.trigger

abbrev pub call_of : Order → ℕ
call_of x = x.calls

-- a start as a row has it: no value matters
abbrev pub called_by : Option ℕ → ℕ
called_by s = start_code s

-- ---- what they require: each value that is read is there and in the range of tones, and each number fits its table, so that nothing overflows

pub record FitValue (values : List ℤ) (k : ℕ) : Type 0 where
  pub within : k < length values
  pub small : nat_abs (value_in values k) ≤ farthest_tone

pub record FitTerm (values : List ℤ) (t : Term) : Type 0 where
  pub factor : t.factor ≤ greatest_factor
  pub of : FitValue values t.of

pub record Summable (values : List ℤ) (ts : List Term) : Type 0 where
  pub few : length ts ≤ most_terms
  pub each : Each (FitTerm values) ts

abbrev pub FitSystemPosition : List ℤ → Option ℕ → Type 0
FitSystemPosition values None = Unit
FitSystemPosition values (Some k) = FitValue values k

abbrev pub FitPosition : List ℤ → Position → Type 0
FitPosition values mute = Unit
FitPosition values (kept ts) = Summable values ts
FitPosition values (named k ts) = FitValue values k × Summable values ts

pub record FitOrder (o : Order) : Type 0 where
  pub trigger : trigger_of o < 2 ^ 16
  pub calls : o.calls < 2 ^ 16

pub record FitLogic (x : Trigger) (s : Option ℕ) (os : List Order) : Type 0 where
  pub trigger : trigger_code x < 2 ^ 16
  pub start : called_by s < 2 ^ 31
  pub orders : Each FitOrder os

abbrev pub FitKey : HarmonyKey → Type 0
FitKey k = k.key ≤ most_harmony_key

abbrev pub FitParts : List ℤ → Declaration → Type 0
FitParts values (ratio p q) = Unit
FitParts values (root a b) = Unit
FitParts values (sequence ts) = Unit
FitParts values (frequency f) = Unit
FitParts values (from k ts) = Unit
FitParts values (system a l ts) = (a < 2 ^ 8) × Each (FitSystemPosition values) l
FitParts values (anchor m) = amount_number m < 2 ^ 16
FitParts values (width m) = amount_number m < 2 ^ 16
FitParts values (fresh_period ts) = Summable values ts
FitParts values (onward_period ts) = Summable values ts
FitParts values (tones l) = Each (FitPosition values) l
FitParts values pattern = Unit
FitParts values (logic x s os) = FitLogic x s os
FitParts values (harmony ks) = Each FitKey ks

-- a declaration can be written after so many rows, tones, changes and orders
pub record Writable (values : List ℤ) (used : Counts) (d : Declaration) : Type 0 where
  pub rows : used.rows < most_rows
  pub value : FitValue values used.rows
  pub parts : FitParts values d
  pub tones : used.tones + length (tones_of (value_in values) d) ≤ most_tones
  pub changes : used.changes + length (changes_of (value_in values) d) ≤ most_changes
  pub orders : used.orders + length (orders_of d) ≤ most_orders

-- ---- what they leave

-- two tables before and after a list was put into them from one place on
pub record Stored {A B C : Type 0} (f : A → B) (g : A → C) (xs : List A) (at : ℕ) (bs : List B) (cs : List C) (bs' : List B) (cs' : List C) : Type 0 where
  pub first : bs' ≡ sets bs at (map f xs)
  pub second : cs' ≡ sets cs at (map g xs)

-- and the place after it
pub record Appended {A B C : Type 0} (f : A → B) (g : A → C) (xs : List A) (at : ℕ) (bs : List B) (cs : List C) (end : ℕ) (bs' : List B) (cs' : List C) : Type 0 where
  pub count : end ≡ at + length xs
  pub stored : Stored f g xs at bs cs bs' cs'

-- the row of a declaration after so many
abbrev pub row_after : (ℕ → ℤ) → Counts → Declaration → Row
row_after value used d = row_of value used.rows used.tones used.changes used.orders d

-- the row of a declaration with no list and no sum of its own; the others have an interval's
abbrev pub plain_row : ℤ → Declaration → Row
plain_row z (ratio p q) = row.Interval (record { 0 = z })
plain_row z (root a b) = row.Interval (record { 0 = z })
plain_row z (sequence ts) = row.Interval (record { 0 = z })
plain_row z (frequency f) = row.Tone (record { 0 = z })
plain_row z (from k ts) = row.Tone (record { 0 = z })
plain_row z (system a l ts) = row.Interval (record { 0 = z })
plain_row z (anchor m) = row.Retuning (Anchor m) 0 0
plain_row z (width m) = row.Retuning (Width m) 0 0
plain_row z (fresh_period ts) = row.Interval (record { 0 = z })
plain_row z (onward_period ts) = row.Interval (record { 0 = z })
plain_row z (tones l) = row.Interval (record { 0 = z })
plain_row z pattern = row.Pattern
plain_row z (logic x s os) = row.Interval (record { 0 = z })
plain_row z (harmony ks) = row.Interval (record { 0 = z })

-- the tables of tones, changes and orders
pub record Lists : Type 0 where
  pub sounding : List ℕ
  pub tones : List ℤ
  pub kinds : List ℕ
  pub changes : List ℤ
  pub triggers : List ℕ
  pub calls : List ℕ

-- with those of a declaration stored after so many
abbrev pub listed : (ℕ → ℤ) → Counts → Declaration → Lists → Lists
listed value used d l = record {
  sounding = sets l.sounding used.tones (map sounding_of (tones_of value d));
  tones = sets l.tones used.tones (map pitch_of (tones_of value d));
  kinds = sets l.kinds used.changes (map change_code (changes_of value d));
  changes = sets l.changes used.changes (map change_number (changes_of value d));
  triggers = sets l.triggers used.orders (map trigger_of (orders_of d));
  calls = sets l.calls used.orders (map call_of (orders_of d));
}

-- a row, and the tables before and after what belongs to it was stored
pub record Rowed (value : ℕ → ℤ) (used : Counts) (d : Declaration) (before : Lists) (r : Row) (after : Lists) : Type 0 where
  pub row : r ≡ row_after value used d
  pub lists : after ≡ listed value used d before

-- how many there are then: a row more, with so many tones, changes and orders
abbrev pub one_more : Counts → ℕ → ℕ → ℕ → Counts
one_more used t c o = record { rows = used.rows + 1; tones = t; changes = c; orders = o }

-- as the row says
abbrev pub counted_by : Counts → Row → Counts
counted_by used row.Unused = one_more used used.tones used.changes used.orders
counted_by used (row.Interval d) = one_more used used.tones used.changes used.orders
counted_by used (row.Tone p) = one_more used used.tones used.changes used.orders
counted_by used (row.System a P m n) = one_more used n used.changes used.orders
counted_by used (row.Retuning (Anchor x) m n) = one_more used used.tones used.changes used.orders
counted_by used (row.Retuning (Width x) m n) = one_more used used.tones used.changes used.orders
counted_by used (row.Retuning (Period x) m n) = one_more used used.tones used.changes used.orders
counted_by used (row.Retuning Tones m n) = one_more used used.tones n used.orders
counted_by used (row.Logic x s m n) = one_more used used.tones used.changes n
counted_by used (row.Harmony y z) = one_more used used.tones used.changes used.orders
counted_by used row.Pattern = one_more used used.tones used.changes used.orders

-- as the declaration says
abbrev pub counted : (ℕ → ℤ) → Counts → Declaration → Counts
counted value used d =
    one_more used (used.tones + length (tones_of value d)) (used.changes + length (changes_of value d)) (used.orders + length (orders_of d))

-- all that a declaration adds: how many there are then, its row, and what belongs to it
pub record Added (value : ℕ → ℤ) (used : Counts) (d : Declaration) (rows : List ℤ) (before : Lists) (r : Counts) (rows' : List ℤ) (after : Lists) : Type 0 where
  pub count : r ≡ counted value used d
  pub row : rows' ≡ sets rows (row_width * used.rows) (written (numbers_of (row_after value used d)))
  pub lists : after ≡ listed value used d before

-- ---- over all tables

-- those of tones, changes and orders
abbrev pub lists_of : Tables → Lists
lists_of t = record { sounding = t.sounding; tones = t.tones; kinds = t.kinds; changes = t.changes; triggers = t.triggers; calls = t.calls }

pub record RowedIn (value : ℕ → ℤ) (used : Counts) (d : Declaration) (before : Tables) (r : Row) (after : Tables) : Type 0 where
  pub rowed : Rowed value used d (lists_of before) r (lists_of after)
  pub rows : after.rows ≡ before.rows

abbrev pub AddedIn : (ℕ → ℤ) → Counts → Declaration → Tables → Counts → Tables → Type 0
AddedIn value used d before r after = Added value used d before.rows (lists_of before) r after.rows (lists_of after)
