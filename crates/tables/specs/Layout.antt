-- The tables that a text is read into. Rows have one declaration each, in the order of the text, and behind them (Document 02, 1/13) come those of calls
-- whose numbers are written in; tones are those of tone systems, changes those of tones retunings, orders those of logics, each list in the order of the
-- text, and a row says from where to where its own stand.
use Rattle.std.specs.Prelude.{◌≡◌, Bool, cond, ◌&&◌, List, [], ◌∷◌, ◌++◌, ℕ, zero, suc, ◌+◌, ◌-◌, ◌*◌, ◌/◌, ◌%◌, ◌^◌, eqb, ℤ, pos, length, get_or, take, drop, replicate}
use Rattle.std.proofs.Math.Seq.{slice}
use Rattle.integers.specs.Parts.{up}
use Rattle.tuning.specs.declared.Operator.TheVariants.{Plus, Minus, Times, Divide}
use Rattle.tuning.specs.declared.Amount.{Amount}
use Rattle.tuning.specs.declared.Amount.TheVariants.{Kept, Absolute, Relative}
use Rattle.tuning.specs.declared.PeriodChange.{PeriodChange}
use Rattle.tuning.specs.declared.PeriodChange.TheVariants.{Fresh, Onward}
use Rattle.tuning.specs.declared.ToneChange.{ToneChange}
use Rattle.tuning.specs.declared.ToneChange.TheVariants.{Mute, Move, Set}
use Rattle.tuning.specs.declared.Tone.{Tone as SoundingTone}
use Rattle.tuning.specs.declared.Tone.TheVariants.{Muted, At}
use Rattle.tuning.specs.declared.Retuning.{Retuning as RetuningForm}
use Rattle.tuning.specs.declared.Retuning.TheVariants.{Anchor, Width, Period, Tones}
use Rattle.tables.specs.declared.Counts.{Counts}
use Rattle.limits.specs.Limits.{most_systems, most_retunings, most_positions, most_harmony_key}
pub use Rattle.limits.specs.Limits.{most_rows, most_orders}
pub use Rattle.tuning.specs.Capped.{farthest_sum}
use Rattle.tables.specs.declared.Numbers.{Numbers}
use Rattle.tables.specs.declared.Row.{Row}
use Rattle.tables.specs.declared.Row.TheVariants.{Unused, Interval, Tone, System, Retuning, Logic, Harmony, Pattern}

-- what is read: rows of five numbers; for each tone of a tone system whether it sounds and its pitch; for each change of a tones retuning its kind
-- and its interval or pitch; for each order its trigger and the number of the declaration that it calls; and how many there are of each
pub record Tables : Type 0 where
  pub rows : List ℤ
  pub sounding : List ℕ
  pub tones : List ℤ
  pub kinds : List ℕ
  pub changes : List ℤ
  pub triggers : List ℕ
  pub calls : List ℕ
  pub counts : List ℕ

-- ---- full sizes: so many positions of tone systems and of tones retunings, and orders as a text may have; and so many rows (`most_rows`): one for each
-- declaration and, Document 02, 1/13, one for each call whose numbers are written in

abbrev pub row_width : ℕ
row_width = 5

abbrev pub most_tones : ℕ
most_tones = most_systems * most_positions

abbrev pub most_changes : ℕ
most_changes = most_retunings * most_positions

-- the number of rows, of tones, of changes and of orders
abbrev pub counts_size : ℕ
counts_size = 4

-- every table is of full size
abbrev pub full_size : Tables → Bool
full_size t =
    eqb (length t.rows) (row_width * most_rows) && eqb (length t.sounding) most_tones && eqb (length t.tones) most_tones
    && eqb (length t.kinds) most_changes && eqb (length t.changes) most_changes && eqb (length t.triggers) most_orders
    && eqb (length t.calls) most_orders && eqb (length t.counts) counts_size

-- ---- what is lent: two slices, of which the tables are sections

-- so many elements from a place on, as `&slice[at..at + size]` has them
abbrev pub section : {A : Type 0} → ℕ → ℕ → List A → List A
section at size l = take size (drop at l)

-- numbers: rows, tones, changes
abbrev pub tones_at : ℕ
tones_at = row_width * most_rows

abbrev pub changes_at : ℕ
changes_at = tones_at + most_tones

abbrev pub all_numbers : ℕ
all_numbers = changes_at + most_changes

-- codes: counts, sounding, kinds, orders
abbrev pub sounding_at : ℕ
sounding_at = counts_size

abbrev pub kinds_at : ℕ
kinds_at = sounding_at + most_tones

abbrev pub orders_at : ℕ
orders_at = kinds_at + most_changes

-- an order is a row of two codes: its trigger, and the number of the declaration that it calls
abbrev pub order_width : ℕ
order_width = 2

abbrev pub all_codes : ℕ
all_codes = orders_at + order_width * most_orders

-- of each order the k-th code
unfoldable pub column : ℕ → List ℕ → List ℕ
column k [] = []
column zero (x ∷ l) = x ∷ column (order_width - 1) l
column (suc k) (x ∷ l) = column k l

abbrev pub triggers_in : List ℕ → List ℕ
triggers_in = column 0

abbrev pub calls_in : List ℕ → List ℕ
calls_in = column 1

-- the last section goes to the slice's end, so that nothing that is lent is left out
unfoldable pub tables_in : List ℤ → List ℕ → Tables
tables_in numbers codes =
    record {
      rows = section 0 tones_at numbers;
      sounding = section sounding_at most_tones codes;
      tones = section tones_at most_tones numbers;
      kinds = section kinds_at most_changes codes;
      changes = drop changes_at numbers;
      triggers = triggers_in (drop orders_at codes);
      calls = calls_in (drop orders_at codes);
      counts = section 0 counts_size codes;
    }

-- orders put together again from their triggers and what they call
unfoldable pub woven : List ℕ → List ℕ → List ℕ
woven [] ks = []
woven (c ∷ cs) [] = c ∷ []
woven (c ∷ cs) (k ∷ ks) = c ∷ k ∷ woven cs ks

-- so the slices come back from the tables, whatever their lengths: an equation of tables is one of all that is lent
unfoldable pub NothingLeftOut : Type 0
NothingLeftOut =
    (numbers : List ℤ) (codes : List ℕ)
    → let t = tables_in numbers codes in
    (t.rows ++ (t.tones ++ t.changes) ≡ numbers) × (t.counts ++ (t.sounding ++ (t.kinds ++ woven t.triggers t.calls)) ≡ codes)

-- ---- a trigger: "Its bare name is a trigger beside `KEY letter`" (a harmony's: Document 02, 5/13)

-- a letter's capital, or 256 and the number of the harmony's declaration
abbrev pub harmony_base : ℕ
harmony_base = 256

-- ---- how many rows, tones, changes and orders are used

abbrev pub counts_of : List ℕ → Counts
counts_of l = record { rows = get_or l 0 0; tones = get_or l 1 0; changes = get_or l 2 0; orders = get_or l 3 0 }

abbrev pub used : Tables → Counts
used t = counts_of t.counts

abbrev pub row_count : Tables → ℕ
row_count t = (used t).rows

abbrev pub tone_count : Tables → ℕ
tone_count t = (used t).tones

abbrev pub change_count : Tables → ℕ
change_count t = (used t).changes

abbrev pub order_count : Tables → ℕ
order_count t = (used t).orders

-- ---- a row's five numbers: its form, two numbers of its own, and from where to where what belongs to it stands (a harmony's are four of its own)

abbrev pub numbers : ℕ → ℤ → ℤ → ℕ → ℕ → Numbers
numbers f a b m n = record { form = f; first = a; second = b; from = m; to = n }

-- the forms of rows
abbrev pub unused_form : ℕ
unused_form = 0

abbrev pub interval_form : ℕ
interval_form = 1

abbrev pub tone_form : ℕ
tone_form = 2

abbrev pub system_form : ℕ
system_form = 3

abbrev pub anchor_form : ℕ
anchor_form = 4

abbrev pub width_form : ℕ
width_form = 5

abbrev pub period_form : ℕ
period_form = 6

abbrev pub tones_form : ℕ
tones_form = 7

abbrev pub logic_form : ℕ
logic_form = 8

abbrev pub harmony_form : ℕ
harmony_form = 9

-- a retuning whose n is a placeholder (Document 02, 1/13): no call refers to it, each has a row of its own with its numbers written in
abbrev pub pattern_form : ℕ
pattern_form = 10

-- an anchor or width: a code for `@`, for a number n, or for `@` with an operator and n; and n
abbrev pub kept_code : ℕ
kept_code = 0

abbrev pub absolute_code : ℕ
absolute_code = 1

abbrev pub plus_code : ℕ
plus_code = 2

abbrev pub minus_code : ℕ
minus_code = 3

abbrev pub times_code : ℕ
times_code = 4

abbrev pub divide_code : ℕ
divide_code = 5

abbrev pub amount_code : Amount → ℕ
amount_code Kept = kept_code
amount_code (Absolute n) = absolute_code
amount_code (Relative Plus n) = plus_code
amount_code (Relative Minus n) = minus_code
amount_code (Relative Times n) = times_code
amount_code (Relative Divide n) = divide_code

abbrev pub amount_number : Amount → ℕ
amount_number Kept = 0
amount_number (Absolute n) = n
amount_number (Relative o n) = n

abbrev pub amount_of : ℕ → ℕ → Amount
amount_of code n =
    cond (eqb code kept_code) Kept
    (cond (eqb code absolute_code) (Absolute n)
    (cond (eqb code plus_code) (Relative Plus n)
    (cond (eqb code minus_code) (Relative Minus n)
    (cond (eqb code times_code) (Relative Times n) (Relative Divide n)))))

-- a period: a code for a new one or for an interval onto the old one, and the interval
abbrev pub fresh_code : ℕ
fresh_code = 0

abbrev pub onward_code : ℕ
onward_code = 1

abbrev pub period_code : PeriodChange → ℕ
period_code (Fresh d) = fresh_code
period_code (Onward d) = onward_code

abbrev pub period_sum : PeriodChange → ℤ
period_sum (Fresh d) = d.0
period_sum (Onward d) = d.0

abbrev pub period_of : ℕ → ℤ → PeriodChange
period_of code d = cond (eqb code fresh_code) (Fresh (record { 0 = d })) (Onward (record { 0 = d }))

-- a harmony: the set of its unstarred key numbers, and the set of all that it names ("a star before a number means that it may be held or not");
-- bit k is for number k, so that sets of numbers 0 to 59 are below 2 to the 60
abbrev pub all_sets : ℕ
all_sets = 2 ^ (most_harmony_key + 1)

-- a set as two numbers: its lower thirty bits, and the others
abbrev pub half_set : ℕ
half_set = 1_073_741_824

-- ---- a row as numbers, and numbers as a row

abbrev pub retuning_numbers : RetuningForm → ℕ → ℕ → Numbers
retuning_numbers (Anchor m) from to = numbers anchor_form (pos (amount_code m)) (pos (amount_number m)) from to
retuning_numbers (Width m) from to = numbers width_form (pos (amount_code m)) (pos (amount_number m)) from to
retuning_numbers (Period m) from to = numbers period_form (pos (period_code m)) (period_sum m) from to
retuning_numbers Tones from to = numbers tones_form (pos 0) (pos 0) from to

abbrev pub numbers_of : Row → Numbers
numbers_of Unused = numbers unused_form (pos 0) (pos 0) 0 0
numbers_of (Interval d) = numbers interval_form d.0 (pos 0) 0 0
numbers_of (Tone p) = numbers tone_form p.0 (pos 0) 0 0
numbers_of (System a P from to) = numbers system_form (pos a.0) P.0 from to
numbers_of (Retuning r from to) = retuning_numbers r from to
numbers_of (Logic c s from to) = numbers logic_form (pos c) (pos s) from to
numbers_of (Harmony needed named) = numbers harmony_form (pos (needed % half_set)) (pos (needed / half_set)) (named % half_set) (named / half_set)
numbers_of Pattern = numbers pattern_form (pos 0) (pos 0) 0 0

unfoldable pub row_of : Numbers → Row
row_of r =
    let a = r.first in
    let b = r.second in
    let m = r.from in
    let n = r.to in
    cond (eqb r.form interval_form) (Interval (record { 0 = a }))
    (cond (eqb r.form tone_form) (Tone (record { 0 = a }))
    (cond (eqb r.form system_form) (System (record { 0 = up a }) (record { 0 = b }) m n)
    (cond (eqb r.form anchor_form) (Retuning (Anchor (amount_of (up a) (up b))) m n)
    (cond (eqb r.form width_form) (Retuning (Width (amount_of (up a) (up b))) m n)
    (cond (eqb r.form period_form) (Retuning (Period (period_of (up a) b)) m n)
    (cond (eqb r.form tones_form) (Retuning Tones m n)
    (cond (eqb r.form logic_form) (Logic (up a) (up b) m n)
    (cond (eqb r.form harmony_form) (Harmony (up a + up b * half_set) (m + n * half_set))
    (cond (eqb r.form pattern_form) Pattern Unused)))))))))

-- the numbers of a row in the table, one after the other, and those of many rows
abbrev pub written : Numbers → List ℤ
written r = pos r.form ∷ r.first ∷ r.second ∷ pos r.from ∷ pos r.to ∷ []

unfoldable pub written_all : List Row → List ℤ
written_all [] = []
written_all (r ∷ rs) = written (numbers_of r) ++ written_all rs

-- the k-th number of row i
abbrev pub number_at : List ℤ → ℕ → ℕ → ℤ
number_at rows i k = get_or rows (row_width * i + k) (pos 0)

abbrev pub read_at : List ℤ → ℕ → Numbers
read_at rows i =
    numbers (up (number_at rows i 0)) (number_at rows i 1) (number_at rows i 2) (up (number_at rows i 3)) (up (number_at rows i 4))

-- the row of declaration i
abbrev pub row_at : Tables → ℕ → Row
row_at t i = row_of (read_at t.rows i)

-- a row as triggers see it: a logic, with its trigger, its start and from where to where its orders stand, or none
pub data AsLogic : Type 0 where
  no_logic_holds : AsLogic
  a_logic : ℕ → ℕ → ℕ → ℕ → AsLogic

abbrev pub as_logic : Row → AsLogic
as_logic Unused = no_logic_holds
as_logic (Interval d) = no_logic_holds
as_logic (Tone p) = no_logic_holds
as_logic (System a P from to) = no_logic_holds
as_logic (Retuning r from to) = no_logic_holds
as_logic (Logic c s from to) = a_logic c s from to
as_logic (Harmony needed named) = no_logic_holds
as_logic Pattern = no_logic_holds

-- a row as held keys see it: a harmony, with its unstarred key numbers and all that it names, or none
pub data AsHarmony : Type 0 where
  no_harmony : AsHarmony
  a_harmony : ℕ → ℕ → AsHarmony

abbrev pub as_harmony : Row → AsHarmony
as_harmony Unused = no_harmony
as_harmony (Interval d) = no_harmony
as_harmony (Tone p) = no_harmony
as_harmony (System a P from to) = no_harmony
as_harmony (Retuning r from to) = no_harmony
as_harmony (Logic c s from to) = no_harmony
as_harmony (Harmony needed named) = a_harmony needed named
as_harmony Pattern = no_harmony

-- ---- tones and changes

-- a tone: whether it sounds, and its pitch; a muted one is zeros
abbrev pub muted_code : ℕ
muted_code = 0

abbrev pub sounds_code : ℕ
sounds_code = 1

abbrev pub sounding_of : SoundingTone → ℕ
sounding_of Muted = muted_code
sounding_of (At p) = sounds_code

abbrev pub pitch_of : SoundingTone → ℤ
pitch_of Muted = pos 0
pitch_of (At p) = p.0

abbrev pub tone_of : ℕ → ℤ → SoundingTone
tone_of sounds z = cond (eqb sounds muted_code) Muted (At (record { 0 = z }))

-- a change: that it mutes, moves by an interval, or sets a pitch; and the interval or pitch
abbrev pub mute_code : ℕ
mute_code = 0

abbrev pub move_code : ℕ
move_code = 1

abbrev pub set_code : ℕ
set_code = 2

abbrev pub change_code : ToneChange → ℕ
change_code Mute = mute_code
change_code (Move d) = move_code
change_code (Set p) = set_code

abbrev pub change_number : ToneChange → ℤ
change_number Mute = pos 0
change_number (Move d) = d.0
change_number (Set p) = p.0

abbrev pub change_of : ℕ → ℤ → ToneChange
change_of code z = cond (eqb code mute_code) Mute (cond (eqb code move_code) (Move (record { 0 = z })) (Set (record { 0 = z })))

-- a list of kinds and a list of numbers as one list
unfoldable pub joined : {A : Type 0} → (ℕ → ℤ → A) → List ℕ → List ℤ → List A
joined f [] zs = []
joined f (k ∷ ks) [] = []
joined f (k ∷ ks) (z ∷ zs) = f k z ∷ joined f ks zs

-- what stands from one place to another of the two
abbrev pub joined_from : {A : Type 0} → (ℕ → ℤ → A) → List ℕ → List ℤ → ℕ → ℕ → List A
joined_from f ks zs from to = joined f (slice from to ks) (slice from to zs)

abbrev pub tones_from : Tables → ℕ → ℕ → List SoundingTone
tones_from t from to = joined_from tone_of t.sounding t.tones from to

abbrev pub changes_from : Tables → ℕ → ℕ → List ToneChange
changes_from t from to = joined_from change_of t.kinds t.changes from to

-- ---- a list with zeros after it, to the full size

abbrev pub full : {A : Type 0} → A → ℕ → List A → List A
full nought size l = l ++ replicate (size - length l) nought
