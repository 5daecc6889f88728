-- The tables of a program: the row of each declaration, in the order of the text, with its tones, changes and orders after those of the rows before.
use Rattle.std.specs.Prelude.{List, [], ◌∷◌, ◌++◌, map, ℕ, suc, ◌+◌, ◌*◌, ℤ, pos, ◌+ℤ◌, ◌*ℤ◌, length, Option, Some, None}
use Rattle.values.specs.Values.{Term, weight}
use Rattle.tuning.specs.declared.ToneChange.{ToneChange}
use Rattle.tuning.specs.declared.ToneChange.TheVariants.{Mute, Move, Set}
use Rattle.tuning.specs.declared.Tone.{Tone}
use Rattle.tuning.specs.declared.Tone.TheVariants.{Muted, At}
use Rattle.tuning.specs.declared.PeriodChange.TheVariants.{Fresh, Onward}
use Rattle.tuning.specs.declared.Retuning.TheVariants.{Anchor, Width, Period, Tones}
use Rattle.tuning.specs.Capped.{capped}
use Rattle.tables.specs.declared.Row.{Row}
use Rattle.tables.specs.declared.Row.TheVariants as row
use Rattle.tables.specs.Layout.{most_rows, row_width, most_tones, most_changes, most_orders, harmony_base, written_all, full, sounding_of, pitch_of, change_code, change_number}
use Rattle.tables.specs.Layout as layout
use Rattle.program.specs.Program.{Declaration, ratio, root, sequence, frequency, from, system, anchor, width, fresh_period, onward_period, tones, pattern, logic, harmony, Program, Position, mute, kept, named, Trigger, by_letter, by_harmony, Order}
use Rattle.program.specs.Meaning.{value_of}
use Rattle.harmonies.specs.Harmonies.{harmony_of}

-- "Sequences add factor times measure"
abbrev pub sum_of : (ℕ → ℤ) → List Term → ℤ
sum_of value [] = pos 0
sum_of value (t ∷ ts) = value t.of *ℤ weight t +ℤ sum_of value ts

-- a logic's start: 0 for none, else one more than the number of what it calls
abbrev pub start_code : Option ℕ → ℕ
start_code None = 0
start_code (Some k) = suc k

-- a trigger's code in the tables: a letter's capital, or 256 and the number of the harmony's declaration
abbrev pub trigger_code : Trigger → ℕ
trigger_code (by_letter c) = c
trigger_code (by_harmony k) = harmony_base + k

module _ (value : ℕ → ℤ) where
  -- a table holds a sum capped: no answer changes by that (`CallsOfText` of the crate exact)
  abbrev pub sum : List Term → ℤ
  sum ts = capped (sum_of value ts)

  -- the tones of a tone system
  abbrev pub tone_of : Option ℕ → Tone
  tone_of None = Muted
  tone_of (Some k) = At (record { 0 = value k })

  abbrev pub tones_of : Declaration → List Tone
  tones_of (ratio p q) = []
  tones_of (root a b) = []
  tones_of (sequence ts) = []
  tones_of (frequency f) = []
  tones_of (from k ts) = []
  tones_of (system a l ts) = map tone_of l
  tones_of (anchor m) = []
  tones_of (width m) = []
  tones_of (fresh_period ts) = []
  tones_of (onward_period ts) = []
  tones_of (tones l) = []
  tones_of (logic c s os) = []
  tones_of pattern = []
  tones_of (harmony ks) = []

  -- the changes of a tones retuning
  abbrev pub change_of : Position → ToneChange
  change_of mute = Mute
  change_of (kept ts) = Move (record { 0 = sum ts })
  change_of (named k ts) = Set (record { 0 = capped (value k +ℤ sum_of value ts) })

  abbrev pub changes_of : Declaration → List ToneChange
  changes_of (ratio p q) = []
  changes_of (root a b) = []
  changes_of (sequence ts) = []
  changes_of (frequency f) = []
  changes_of (from k ts) = []
  changes_of (system a l ts) = []
  changes_of (anchor m) = []
  changes_of (width m) = []
  changes_of (fresh_period ts) = []
  changes_of (onward_period ts) = []
  changes_of (tones l) = map change_of l
  changes_of (logic c s os) = []
  changes_of pattern = []
  changes_of (harmony ks) = []

  -- the row of declaration i, before which so many tones, changes and orders stand
  abbrev pub row_of : ℕ → ℕ → ℕ → ℕ → Declaration → Row
  row_of i t c o (ratio p q) = row.Interval (record { 0 = value i })
  row_of i t c o (root a b) = row.Interval (record { 0 = value i })
  row_of i t c o (sequence ts) = row.Interval (record { 0 = value i })
  row_of i t c o (frequency f) = row.Tone (record { 0 = value i })
  row_of i t c o (from k ts) = row.Tone (record { 0 = value i })
  row_of i t c o (system a l ts) = row.System (record { 0 = a }) (record { 0 = value i }) t (t + length l)
  row_of i t c o (anchor m) = row.Retuning (Anchor m) 0 0
  row_of i t c o (width m) = row.Retuning (Width m) 0 0
  row_of i t c o (fresh_period ts) = row.Retuning (Period (Fresh (record { 0 = sum ts }))) 0 0
  row_of i t c o (onward_period ts) = row.Retuning (Period (Onward (record { 0 = sum ts }))) 0 0
  row_of i t c o (tones l) = row.Retuning Tones c (c + length l)
  row_of i t c o pattern = row.Pattern
  row_of i t c o (logic x s os) = row.Logic (trigger_code x) (start_code s) o (o + length os)
  row_of i t c o (harmony ks) = let y = harmony_of ks in row.Harmony y.needed y.named

abbrev pub orders_of : Declaration → List Order
orders_of (ratio p q) = []
orders_of (root a b) = []
orders_of (sequence ts) = []
orders_of (frequency f) = []
orders_of (from k ts) = []
orders_of (system a l ts) = []
orders_of (anchor m) = []
orders_of (width m) = []
orders_of (fresh_period ts) = []
orders_of (onward_period ts) = []
orders_of (tones l) = []
orders_of (logic c s os) = os
orders_of pattern = []
orders_of (harmony ks) = []

-- ---- the lists of all declarations

-- what is filled, not padded yet
pub record Filled : Type 0 where
  pub rows : List Row
  pub tones : List Tone
  pub changes : List ToneChange
  pub orders : List Order

unfoldable pub filled_from : (ℕ → ℤ) → ℕ → ℕ → ℕ → ℕ → Program → Filled
filled_from value i t c o [] = record { rows = []; tones = []; changes = []; orders = [] }
filled_from value i t c o (d ∷ ds) =
    let ts = tones_of value d.is in
    let cs = changes_of value d.is in
    let os = orders_of d.is in
    let rest = filled_from value (suc i) (t + length ts) (c + length cs) (o + length os) ds in
    record { rows = row_of value i t c o d.is ∷ rest.rows; tones = ts ++ rest.tones; changes = cs ++ rest.changes; orders = os ++ rest.orders }

abbrev pub laid_out : Filled → layout.Tables
laid_out f = record {
  rows = full (pos 0) (row_width * most_rows) (written_all f.rows);
  sounding = full 0 most_tones (map sounding_of f.tones);
  tones = full (pos 0) most_tones (map pitch_of f.tones);
  kinds = full 0 most_changes (map change_code f.changes);
  changes = full (pos 0) most_changes (map change_number f.changes);
  triggers = full 0 most_orders (map (λ (x : Order). trigger_code x.trigger) f.orders);
  calls = full 0 most_orders (map (λ (x : Order). x.calls) f.orders);
  counts = length f.rows ∷ length f.tones ∷ length f.changes ∷ length f.orders ∷ [];
}

-- the tables of an accepted text
unfoldable pub tables_of : Program → layout.Tables
tables_of p = laid_out (filled_from (value_of p) 0 0 0 0 p)
