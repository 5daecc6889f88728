-- What the contracts of private functions and of those who call cite: no part of the rules. `fast_same` of proofs/Same.antt: the test as the code makes it
-- comes to the same as `valid_tables`. `row_valid` of proofs/Laws.antt: what the rows of valid tables are to those who call them.
use Rattle.std.specs.Prelude.{◌≡◌, Bool, true, false, cond, not, ◌&&◌, ◌||◌, List, [], ◌∷◌, ℕ, zero, suc, ◌+◌, ◌-◌, ◌*◌, leb, ltb, eqb, ℤ, pos, get_or, take, drop}
use Rattle.std.specs.Int.Signed.{le_z}
use Rattle.integers.specs.Parts.{up}
use Rattle.limits.specs.Limits.{most_amount, first_letter, last_letter}
use Rattle.tuning.specs.Desk.{between, is_anchor, is_period, is_tone}
use Rattle.tuning.specs.State.{places, coded, valid_state}
use Rattle.tables.specs.declared.Counts.{Counts}
use Rattle.tables.specs.declared.Numbers.{Numbers}
use Rattle.tables.specs.Layout.{Tables, number_at, row_width, most_orders, full_size, used, read_at, tones_from, interval_form, tone_form, system_form, anchor_form, width_form, period_form, tones_form, logic_form, harmony_form, pattern_form, harmony_base, half_set, kept_code, minus_code, divide_code, fresh_code, onward_code, sounds_code, set_code}
use Rattle.tables.specs.Values.{system, Part}
use Rattle.validity.specs.declared.Kinds.{Kinds}
use Rattle.validity.specs.declared.Ends.{Ends}
use Rattle.validity.specs.Valid.{same, is_sum, is_part, no_part, kinds, kinds_right, ends, ends_right, all_zero, all_nought, counts_right}

-- ---- the test as the code makes it, by the codes of forms and kinds

abbrev pub is_zero : ℤ → Bool
is_zero z = same (pos 0) z

abbrev pub is_letter_code : ℤ → Bool
is_letter_code c = between (pos first_letter) (pos last_letter) c

-- n of an anchor or width, whose code is at most `last`
abbrev pub is_amount : ℕ → ℤ → ℤ → Bool
is_amount last code n =
    between (pos kept_code) (pos last) code && between (pos 0) (pos most_amount) n
    && (not (le_z code (pos kept_code)) || le_z n (pos 0))

-- what belongs to a row begins at `start`
abbrev pub is_part_at : ℕ → ℕ → ℕ → ℕ → ℕ → Bool
is_part_at least most start from to = is_part least most from to && eqb from start

-- declaration i is one of the first `count` rows, and has a form from `low` to `high`
abbrev pub is_form : List ℤ → ℕ → ℕ → ℕ → ℕ → Bool
is_form rows count low high i = ltb i count && leb low (read_at rows i).form && leb (read_at rows i).form high

-- system_form is followed by the forms of retunings, and those by logic_form
abbrev pub is_start_code : List ℤ → ℕ → ℤ → Bool
is_start_code rows count s = is_zero s || (le_z (pos 1) s && is_form rows count system_form tones_form (up s - 1))

-- a letter, or the declaration of a harmony
abbrev pub is_trigger_code : List ℤ → ℕ → ℤ → Bool
is_trigger_code rows count c = is_letter_code c || (le_z (pos harmony_base) c && is_form rows count harmony_form harmony_form (up c - harmony_base))

-- thirty bits of a harmony's set
abbrev pub most_half : ℕ
most_half = half_set - 1

abbrev pub is_half : ℤ → Bool
is_half z = between (pos 0) (pos most_half) z

-- the numbers of a harmony
abbrev pub are_halves : Numbers → Bool
are_halves r = is_half r.first && is_half r.second && leb r.from most_half && leb r.to most_half

-- a row after rows that end at e
unfoldable pub fast_row : List ℤ → ℕ → Ends → Numbers → Bool
fast_row rows count e r =
    let a = r.first in
    let b = r.second in
    let m = r.from in
    let n = r.to in
    cond (eqb r.form interval_form) (is_tone a && is_zero b && no_part m n)
    (cond (eqb r.form tone_form) (is_tone a && is_zero b && no_part m n)
    (cond (eqb r.form system_form) (is_anchor a && is_period b && is_part_at 1 places e.tones m n)
    (cond (eqb r.form anchor_form) (is_amount minus_code a b && no_part m n)
    (cond (eqb r.form width_form) (is_amount divide_code a b && no_part m n)
    (cond (eqb r.form period_form) (between (pos fresh_code) (pos onward_code) a && is_sum b && no_part m n)
    (cond (eqb r.form tones_form) (is_zero a && is_zero b && is_part_at 1 places e.changes m n)
    (cond (eqb r.form logic_form) (is_trigger_code rows count a && is_start_code rows count b && is_part_at 0 most_orders e.orders m n)
    (cond (eqb r.form harmony_form) (are_halves r)
    (cond (eqb r.form pattern_form) (is_zero a && is_zero b && no_part m n) false)))))))))

-- the form and the bounds are no negative numbers
abbrev pub has_naturals : List ℤ → ℕ → Bool
has_naturals rows i = le_z (pos 0) (number_at rows i 0) && le_z (pos 0) (number_at rows i 3) && le_z (pos 0) (number_at rows i 4)

-- row i is an interval or a tone
abbrev pub is_value : List ℤ → ℕ → Bool
is_value rows i = between (pos interval_form) (pos tone_form) (number_at rows i 0)

-- and its other numbers are those of one
abbrev pub value_right : List ℤ → ℕ → Bool
value_right rows i = is_tone (number_at rows i 1) && is_zero (number_at rows i 2) && is_zero (number_at rows i 3) && is_zero (number_at rows i 4)

-- one more of a form
unfoldable pub kinds_with : Kinds → ℕ → Kinds
kinds_with k form =
    cond (eqb form interval_form) (kinds (suc k.intervals) k.tones k.systems k.retunings k.logics k.harmonies)
    (cond (eqb form tone_form) (kinds k.intervals (suc k.tones) k.systems k.retunings k.logics k.harmonies)
    (cond (eqb form system_form) (kinds k.intervals k.tones (suc k.systems) k.retunings k.logics k.harmonies)
    (cond (eqb form logic_form) (kinds k.intervals k.tones k.systems k.retunings (suc k.logics) k.harmonies)
    (cond (eqb form harmony_form) (kinds k.intervals k.tones k.systems k.retunings k.logics (suc k.harmonies))
    (cond ((leb anchor_form form && leb form tones_form) || eqb form pattern_form) (kinds k.intervals k.tones k.systems (suc k.retunings) k.logics k.harmonies) k)))))

-- how many rows are no intervals
abbrev pub others : Kinds → ℕ
others k = k.tones + k.systems + k.retunings + k.logics + k.harmonies

-- the kinds of n rows, of which these are no intervals
abbrev pub kinds_among : Kinds → ℕ → Kinds
kinds_among k n = kinds (n - others k) k.tones k.systems k.retunings k.logics k.harmonies

-- where a row's own end
unfoldable pub ends_with : Ends → ℕ → ℕ → Ends
ends_with e form to =
    cond (eqb form system_form) (ends to e.changes e.orders)
    (cond (eqb form tones_form) (ends e.tones to e.orders)
    (cond (eqb form logic_form) (ends e.tones e.changes to) e))

-- n rows from row i on, after rows of the kinds k that end at e
unfoldable pub fast_rows : List ℤ → Counts → Kinds → Ends → ℕ → ℕ → Bool
fast_rows rows c k e i zero = kinds_right k && ends_right c e
fast_rows rows c k e i (suc n) =
    has_naturals rows i && fast_row rows c.rows e (read_at rows i)
    && fast_rows rows c (kinds_with k (read_at rows i).form) (ends_with e (read_at rows i).form (read_at rows i).to) (suc i) n

unfoldable pub fast_orders : List ℤ → ℕ → List ℕ → List ℕ → ℕ → ℕ → Bool
fast_orders rows count triggers calls i zero = true
fast_orders rows count triggers calls i (suc n) =
    is_trigger_code rows count (pos (get_or triggers i 0)) && is_form rows count system_form logic_form (get_or calls i 0) && fast_orders rows count triggers calls (suc i) n

-- a kind up to `last` and a number in its range, zero where the kind is 0
unfoldable pub fast_each : ℕ → (ℤ → Bool) → List ℕ → List ℤ → Bool
fast_each last ok [] zs = true
fast_each last ok (k ∷ ks) [] = false
fast_each last ok (k ∷ ks) (z ∷ zs) = leb k last && ok z && (not (eqb k 0) || is_zero z) && fast_each last ok ks zs

abbrev pub fast_list : ℕ → (ℤ → Bool) → ℕ → List ℕ → List ℤ → Bool
fast_list last ok n ks zs = fast_each last ok (take n ks) (take n zs) && all_nought (drop n ks) && all_zero (drop n zs)

unfoldable pub fast_tables : Tables → Bool
fast_tables t =
    let c = used t in
    cond (full_size t)
    (counts_right c && fast_rows t.rows c (kinds 0 0 0 0 0 0) (ends 0 0 0) 0 c.rows && all_zero (drop (row_width * c.rows) t.rows)
    && fast_list sounds_code is_tone c.tones t.sounding t.tones && fast_list set_code is_sum c.changes t.kinds t.changes
    && fast_orders t.rows c.rows t.triggers t.calls 0 c.orders && all_nought (drop c.orders t.triggers)
    && all_nought (drop c.orders t.calls))
    false

-- ---- the rows of valid tables, to those who call them

-- a tone system's row: its tones stand in the tables, and it is a valid state
pub record ValidSystem (t : Tables) (anchor : ℕ) (period : ℤ) (from to : ℕ) : Type 0 where
  pub part : Part t.sounding t.tones from to
  pub state : valid_state (coded (system anchor (tones_from t from to) period)) ≡ true

-- a retuning's row: its changes stand in the tables
abbrev pub ValidRetuning : Tables → ℕ → ℕ → Type 0
ValidRetuning t from to = Part t.kinds t.changes from to
