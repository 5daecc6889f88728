-- Which tables are valid: "a table's .. number out of range, or a reference beyond its count", "Unused places of tables .. are zero, else 23". Ranges and
-- counts are those of "Numbers allowed". A row is judged by the declaration that it stands for (`row_at`).
use Rattle.std.specs.Prelude.{Bool, true, false, cond, ◌&&◌, ◌||◌, List, [], ◌∷◌, ℕ, zero, suc, ◌+◌, ◌-◌, ◌*◌, leb, ltb, eqb, ℤ, pos, neg_ℤ, get_or, take, drop}
use Rattle.limits.specs.Limits.{most_amount, most_positions, most_intervals, most_tone_names, most_systems, most_retunings, most_calls, most_logics, most_harmonies, first_letter, last_letter}
use Rattle.tuning.specs.Desk.{between, is_anchor, is_period, is_tone}
use Rattle.tuning.specs.declared.Operator.TheVariants.{Plus, Minus, Times, Divide}
use Rattle.tuning.specs.declared.Amount.{Amount}
use Rattle.tuning.specs.declared.Amount.TheVariants.{Kept, Absolute, Relative}
use Rattle.tuning.specs.declared.Tone.{Tone as SoundingTone}
use Rattle.tuning.specs.declared.Tone.TheVariants.{Muted, At}
use Rattle.tuning.specs.declared.ToneChange.{ToneChange}
use Rattle.tuning.specs.declared.ToneChange.TheVariants.{Mute, Move, Set}
use Rattle.tuning.specs.declared.Retuning.{Retuning as RetuningForm}
use Rattle.tuning.specs.declared.Retuning.TheVariants.{Anchor, Width, Period, Tones}
use Rattle.tables.specs.declared.Counts.{Counts}
use Rattle.tables.specs.declared.Row.{Row}
use Rattle.tables.specs.declared.Row.TheVariants.{Unused, Interval, Tone, System, Retuning, Logic, Harmony, Pattern}
use Rattle.tables.specs.Layout.{Tables, number_at, most_rows, row_width, most_tones, most_changes, most_orders, farthest_sum, full_size, used, row_count, read_at, numbers_of, row_of, row_at, AsHarmony, no_harmony, a_harmony, as_harmony, harmony_base, all_sets, period_sum, sounding_of, pitch_of, tone_of, change_code, change_number, change_of}
use Rattle.validity.specs.declared.Kinds.{Kinds}
use Rattle.validity.specs.declared.Ends.{Ends}

-- there is room for so many
abbrev pub counts_right : Counts → Bool
counts_right c = leb c.rows most_rows && leb c.tones most_tones && leb c.changes most_changes && leb c.orders most_orders

-- ---- numbers

abbrev pub same : ℤ → ℤ → Bool
same y z = between y y z

-- a sum of terms, as a table holds it
abbrev pub is_sum : ℤ → Bool
is_sum z = between (neg_ℤ (pos farthest_sum)) (pos farthest_sum) z

-- "n in anchor and width retunings: whole, 0 to 9,999"; an anchor knows only `+` and `-`. Document 01's "after `/` from 1" is asked of what is written: document
-- 02, 1/13, "only a zero handed to `/` waits for the call", so a row may have it.
abbrev pub is_anchor_amount : Amount → Bool
is_anchor_amount Kept = true
is_anchor_amount (Absolute n) = leb n most_amount
is_anchor_amount (Relative Plus n) = leb n most_amount
is_anchor_amount (Relative Minus n) = leb n most_amount
is_anchor_amount (Relative Times n) = false
is_anchor_amount (Relative Divide n) = false

abbrev pub is_width_amount : Amount → Bool
is_width_amount Kept = true
is_width_amount (Absolute n) = leb n most_amount
is_width_amount (Relative Plus n) = leb n most_amount
is_width_amount (Relative Minus n) = leb n most_amount
is_width_amount (Relative Times n) = leb n most_amount
is_width_amount (Relative Divide n) = leb n most_amount

-- A to Z, as a frame names a letter: "a letter 41 to 5A"
abbrev pub is_capital : ℕ → Bool
is_capital c = leb first_letter c && leb c last_letter

-- ---- references: "A called name means the retuning of that name, else the tone system, else (orders only) the logic"

-- what a call of a row's declaration does. (Document 02, 1/13: a retuning whose n is a placeholder is called by the rows in which it is filled in.)
pub data CalledAs : Type 0 where
  nothing_called retunes activates : CalledAs

abbrev pub called_as : Row → CalledAs
called_as Unused = nothing_called
called_as (Interval d) = nothing_called
called_as (Tone p) = nothing_called
called_as (System a P from to) = retunes
called_as (Retuning r from to) = retunes
called_as (Logic c s from to) = activates
called_as (Harmony needed named) = nothing_called
called_as Pattern = nothing_called

abbrev pub does_retune : CalledAs → Bool
does_retune nothing_called = false
does_retune retunes = true
does_retune activates = false

abbrev pub does_activate : CalledAs → Bool
does_activate nothing_called = false
does_activate retunes = false
does_activate activates = true

abbrev pub is_logic : Row → Bool
is_logic r = does_activate (called_as r)

-- what a start may call, and what an order may
abbrev pub is_system_or_retuning : Row → Bool
is_system_or_retuning r = does_retune (called_as r)

abbrev pub is_called : Row → Bool
is_called r = is_system_or_retuning r || is_logic r

-- declaration i is within the count of rows, and such a one
abbrev pub refers_to : (Row → Bool) → Tables → ℕ → Bool
refers_to is t i = ltb i (row_count t) && is (row_at t i)

-- "start is a tone system or retuning name or nothing": 0, or 1 more than the number of the declaration
abbrev pub is_start : Tables → ℕ → Bool
is_start t zero = true
is_start t (suc k) = refers_to is_system_or_retuning t k

-- ---- triggers: "Its bare name is a trigger beside `KEY letter`, in logics and orders" (a harmony's: Document 02, 5/13)

abbrev pub some_harmony : AsHarmony → Bool
some_harmony no_harmony = false
some_harmony (a_harmony needed named) = true

abbrev pub is_harmony : Row → Bool
is_harmony r = some_harmony (as_harmony r)

-- a letter, or 256 and the number of a harmony's declaration
abbrev pub is_trigger : Tables → ℕ → Bool
is_trigger t c = is_capital c || (leb harmony_base c && refers_to is_harmony t (c - harmony_base))

-- ---- rows

-- what belongs to a row stands from one place to another: from `least` to `most` of them
abbrev pub is_part : ℕ → ℕ → ℕ → ℕ → Bool
is_part least most from to = leb (from + least) to && leb to (from + most)

-- nothing belongs to it
abbrev pub no_part : ℕ → ℕ → Bool
no_part from to = eqb from 0 && eqb to 0

abbrev pub retuning_right : RetuningForm → ℕ → ℕ → Bool
retuning_right (Anchor m) from to = is_anchor_amount m && no_part from to
retuning_right (Width m) from to = is_width_amount m && no_part from to
retuning_right (Period m) from to = is_sum (period_sum m) && no_part from to
retuning_right Tones from to = is_part 1 most_positions from to

-- the numbers of a declaration are in their ranges; those of a harmony: "key numbers from 0 to 59"; a retuning whose n is a placeholder has none
unfoldable pub declaration_right : Tables → Row → Bool
declaration_right t Unused = false
declaration_right t (Interval d) = is_tone d.0
declaration_right t (Tone p) = is_tone p.0
declaration_right t (System a P from to) = is_anchor (pos a.0) && is_period P.0 && is_part 1 most_positions from to
declaration_right t (Retuning r from to) = retuning_right r from to
declaration_right t (Logic c s from to) = is_trigger t c && is_start t s && is_part 0 most_orders from to
declaration_right t (Harmony needed named) = ltb needed all_sets && ltb named all_sets
declaration_right t Pattern = true

-- the five numbers of row i are those of the declaration that it stands for: one that the declaration does not use is zero
unfoldable pub is_own : List ℤ → ℕ → Bool
is_own rows i =
    let n = numbers_of (row_of (read_at rows i)) in
    same (pos n.form) (number_at rows i 0) && same n.first (number_at rows i 1) && same n.second (number_at rows i 2)
    && same (pos n.from) (number_at rows i 3) && same (pos n.to) (number_at rows i 4)

-- n rows from row i on
unfoldable pub rows_right : Tables → ℕ → ℕ → Bool
rows_right t i zero = true
rows_right t i (suc n) = is_own t.rows i && declaration_right t (row_at t i) && rows_right t (suc i) n

-- their declarations
unfoldable pub declarations : List ℤ → ℕ → ℕ → List Row
declarations rows i zero = []
declarations rows i (suc n) = row_of (read_at rows i) ∷ declarations rows (suc i) n

-- ---- how many there are of each kind

abbrev pub kinds : ℕ → ℕ → ℕ → ℕ → ℕ → ℕ → Kinds
kinds i t s r l h = record { intervals = i; tones = t; systems = s; retunings = r; logics = l; harmonies = h }

abbrev pub one_more : Kinds → Row → Kinds
one_more k Unused = k
one_more k (Interval d) = kinds (suc k.intervals) k.tones k.systems k.retunings k.logics k.harmonies
one_more k (Tone p) = kinds k.intervals (suc k.tones) k.systems k.retunings k.logics k.harmonies
one_more k (System a P from to) = kinds k.intervals k.tones (suc k.systems) k.retunings k.logics k.harmonies
one_more k (Retuning r from to) = kinds k.intervals k.tones k.systems (suc k.retunings) k.logics k.harmonies
one_more k (Logic c s from to) = kinds k.intervals k.tones k.systems k.retunings (suc k.logics) k.harmonies
one_more k (Harmony needed named) = kinds k.intervals k.tones k.systems k.retunings k.logics (suc k.harmonies)
one_more k Pattern = kinds k.intervals k.tones k.systems (suc k.retunings) k.logics k.harmonies

unfoldable pub kinds_from : Kinds → List Row → Kinds
kinds_from k [] = k
kinds_from k (r ∷ rs) = kinds_from (one_more k r) rs

-- "intervals, tones: 256 each", "tone systems, logics: 32 each", "retunings: 128", and document 02, 1/13, one more for each call, with its numbers written in;
-- "at most 64 harmonies"
abbrev pub kinds_right : Kinds → Bool
kinds_right k =
    leb k.intervals most_intervals && leb k.tones most_tone_names && leb k.systems most_systems && leb k.retunings (most_retunings + most_calls)
    && leb k.logics most_logics && leb k.harmonies most_harmonies

-- ---- tones, changes and orders stand one row's after the other's, and no row uses those of another

-- what belongs to a row
pub data Belonging : Type 0 where
  nothing : Belonging
  tones changes orders : ℕ → ℕ → Belonging

abbrev pub belonging : Row → Belonging
belonging Unused = nothing
belonging (Interval d) = nothing
belonging (Tone p) = nothing
belonging (System a P from to) = tones from to
belonging (Retuning (Anchor m) from to) = nothing
belonging (Retuning (Width m) from to) = nothing
belonging (Retuning (Period m) from to) = nothing
belonging (Retuning Tones from to) = changes from to
belonging (Logic c s from to) = orders from to
belonging (Harmony needed named) = nothing
belonging Pattern = nothing

-- where the tones, changes and orders of some rows end
abbrev pub ends : ℕ → ℕ → ℕ → Ends
ends t c o = record { tones = t; changes = c; orders = o }

-- what belongs to the next row begins there
abbrev pub follows : Ends → Belonging → Bool
follows e nothing = true
follows e (tones from to) = eqb from e.tones
follows e (changes from to) = eqb from e.changes
follows e (orders from to) = eqb from e.orders

abbrev pub ends_after : Ends → Belonging → Ends
ends_after e nothing = e
ends_after e (tones from to) = ends to e.changes e.orders
ends_after e (changes from to) = ends e.tones to e.orders
ends_after e (orders from to) = ends e.tones e.changes to

-- and the last row's end at the counts
abbrev pub ends_right : Counts → Ends → Bool
ends_right c e = eqb e.tones c.tones && eqb e.changes c.changes && eqb e.orders c.orders

unfoldable pub parts_follow : Counts → Ends → List Row → Bool
parts_follow c e [] = ends_right c e
parts_follow c e (r ∷ rs) = follows e (belonging r) && parts_follow c (ends_after e (belonging r)) rs

-- ---- orders: n of them from order i on

unfoldable pub orders_right : Tables → ℕ → ℕ → Bool
orders_right t i zero = true
orders_right t i (suc n) = is_trigger t (get_or t.triggers i 0) && refers_to is_called t (get_or t.calls i 0) && orders_right t (suc i) n

-- ---- tones and changes: the used ones in their ranges, with the numbers that they have, and the others zeros

abbrev pub sound_right : SoundingTone → Bool
sound_right Muted = true
sound_right (At p) = is_tone p.0

abbrev pub tone_right : ℕ → ℤ → Bool
tone_right k z = let x = tone_of k z in eqb k (sounding_of x) && same (pitch_of x) z && sound_right x

abbrev pub move_right : ToneChange → Bool
move_right Mute = true
move_right (Move d) = is_sum d.0
move_right (Set p) = is_sum p.0

abbrev pub change_right : ℕ → ℤ → Bool
change_right k z = let x = change_of k z in eqb k (change_code x) && same (change_number x) z && move_right x

unfoldable pub each_right : (ℕ → ℤ → Bool) → List ℕ → List ℤ → Bool
each_right ok [] zs = true
each_right ok (k ∷ ks) [] = false
each_right ok (k ∷ ks) (z ∷ zs) = ok k z && each_right ok ks zs

unfoldable pub all_zero : List ℤ → Bool
all_zero [] = true
all_zero (z ∷ zs) = same (pos 0) z && all_zero zs

unfoldable pub all_nought : List ℕ → Bool
all_nought [] = true
all_nought (k ∷ ks) = eqb k 0 && all_nought ks

abbrev pub list_right : (ℕ → ℤ → Bool) → ℕ → List ℕ → List ℤ → Bool
list_right ok n ks zs = each_right ok (take n ks) (take n zs) && all_nought (drop n ks) && all_zero (drop n zs)

-- ---- all of it

unfoldable pub valid_tables : Tables → Bool
valid_tables t =
    let c = used t in
    let rs = declarations t.rows 0 c.rows in
    cond (full_size t)
    (counts_right c && rows_right t 0 c.rows && kinds_right (kinds_from (kinds 0 0 0 0 0 0) rs) && parts_follow c (ends 0 0 0) rs
    && all_zero (drop (row_width * c.rows) t.rows) && list_right tone_right c.tones t.sounding t.tones
    && list_right change_right c.changes t.kinds t.changes && orders_right t 0 c.orders && all_nought (drop c.orders t.triggers)
    && all_nought (drop c.orders t.calls))
    false
