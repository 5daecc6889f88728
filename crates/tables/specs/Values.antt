-- What is made of the tables for a call, as the code holds it.
use Rattle.std.specs.Prelude.{List, map, ◌≡◌, ℕ, ◌+◌, ◌≤◌, ◌<◌, ◌^◌, ℤ, length}
use Rattle.std.specs.Int.{w32}
use Rattle.std.proofs.Common.{SFits}
use Rattle.integers.specs.Parts.{up}
use Rattle.tuning.specs.Tuning.{Tuning}
use Rattle.tuning.specs.Desk.{cents}
use Rattle.tuning.specs.State.{places, heard}
use Rattle.tuning.specs.declared.Tone.{Tone}
use Rattle.tuning.specs.declared.ToneChange.{ToneChange}
use Rattle.tuning.specs.declared.ToneChange.TheVariants.{Mute}
use Rattle.tuning.specs.declared.ToneChanges.{ToneChanges}
use Rattle.tables.specs.declared.Counts.{Counts}
use Rattle.tables.specs.declared.Numbers.{Numbers}
use Rattle.tables.specs.Layout.{system_form, anchor_form, width_form, logic_form, all_numbers, all_codes, full}

-- a tone system: anchor, tones and period
abbrev pub system : ℕ → List Tone → ℤ → Tuning cents
system anchor tones period = record { anchor = anchor; tones = map heard tones; period = period }

-- the positions of a tones retuning; those after them are unused
abbrev pub listed : List ToneChange → ToneChanges
listed l = record { count = length l; positions = full Mute places l }

-- ---- what the contracts require

-- the numbers of a row fit the fields of the row
pub record FieldsFit (r : Numbers) : Type 0 where
  pub anchor : r.form ≡ system_form → up r.first < 2 ^ 8
  pub anchor_by : r.form ≡ anchor_form → up r.second < 2 ^ 16
  pub width_by : r.form ≡ width_form → up r.second < 2 ^ 16
  pub trigger : r.form ≡ logic_form → up r.first < 2 ^ 16

-- the numbers of a row fit the table
pub record NumbersFit (r : Numbers) : Type 0 where
  pub second : SFits w32 r.second
  pub from : r.from < 2 ^ 31
  pub to : r.to < 2 ^ 31

-- both slices that are lent are of full size
pub record Slices (numbers : List ℤ) (codes : List ℕ) : Type 0 where
  pub all_numbers_case : length numbers ≡ all_numbers
  pub all_codes_case : length codes ≡ all_codes

-- how many there are of each fits the codes
pub record CountsFit (c : Counts) : Type 0 where
  pub rows : c.rows < 2 ^ 16
  pub tones : c.tones < 2 ^ 16
  pub changes : c.changes < 2 ^ 16
  pub orders : c.orders < 2 ^ 16

-- from one place to another of a list of kinds and a list of numbers, as many as a list of positions has room for
pub record Part (ks : List ℕ) (zs : List ℤ) (from to : ℕ) : Type 0 where
  pub order : from ≤ to
  pub most : to ≤ from + places
  pub kinds : to ≤ length ks
  pub numbers : to ≤ length zs
