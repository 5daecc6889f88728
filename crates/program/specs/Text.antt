-- What a text is read as: its number and place, or what it declares. Document 01: "Reading goes symbol by symbol ..
-- Then the earliest 5, the earliest 6, the earliest 7, the earliest 8."; document 02, 1/13: "24, after 6 and before 7".
use Rattle.std.specs.Prelude.{List, ℕ, zero, suc, get_or, Result, Ok, Err}
use Rattle.status.specs.Status.{depends_on_itself, value_out_of_range}
use Rattle.values.specs.declared.Fault.{Fault}
use Rattle.values.specs.declared.Fault.TheVariants.{Circular, OutOfRange}
use Rattle.grammar.specs.Reading.{read_items}
use Rattle.names.specs.Names.{Meant, meanings}
use Rattle.placeholders.specs.Filling.{settled}
use Rattle.program.specs.Program.{Program, program_of}
use Rattle.program.specs.Meaning.{nothing, valued}

pub data Verdict : Type 0 where
  refused : ℕ → ℕ → Verdict
  accepted : Program → Verdict

abbrev pub place_of : Program → ℕ → ℕ
place_of p i = (get_or p i nothing).place

-- 7 and 8 at the declared name
abbrev pub by_value : Program → Result Unit Fault → Verdict
by_value p (Err (Circular i)) = refused depends_on_itself (place_of p i)
by_value p (Err (OutOfRange i)) = refused value_out_of_range (place_of p i)
by_value p (Ok _) = accepted p

abbrev pub if_zero : ℕ → ℕ → Verdict → Verdict
if_zero zero place v = v
if_zero (suc n) place v = refused (suc n) place

-- 7 and 8, of items whose calls are filled in
abbrev pub by_settling : Meant → Verdict
by_settling m = if_zero m.number m.place (by_value (program_of m.items) (valued (program_of m.items)))

-- 24, of items whose names are resolved
abbrev pub by_meaning : List ℕ → Meant → Verdict
by_meaning text m = if_zero m.number m.place (by_settling (settled text m.items))

unfoldable pub read_text : List ℕ → Verdict
read_text text =
    let r = read_items text in
    if_zero r.number r.place (by_meaning text (meanings text r.items))
