-- A value that is of none of some variants is of one of the others. Assumes nothing.
use mathlib.Core.Path.{◌≡◌, refl}
use Prim.Native.Nat.{ℕ}
use types.Run.{OneOf, hit}
use denote.Enum.Declared.{tag_of}
use Rattle.cents.specs.declared.KeyNumber.{KeyNumber}
use Rattle.cents.specs.declared.Interval.{Interval as Size}
use Rattle.tuning.specs.declared.Retuning.{Retuning as Change}
use Rattle.frames.specs.declared.Way.{Way}
use Rattle.frames.specs.declared.Decoded.{Decoded}
use Rattle.frames.specs.declared.Decoded.TheVariants as frame
use Rattle.frames.specs.contracts.Decoded as frames
use Rattle.frames.proofs.LetterRows.{no_row}
use Rattle.tables.specs.declared.Row.{Row as TableRow}
use Rattle.tables.specs.declared.Row.TheVariants as row
use Rattle.tables.specs.contracts.Row as rows
use Rattle.protocol.proofs.Ways.{no_letter, no_move}
use Rattle.protocol.proofs.Calls.{uncalled}
use Rattle.protocol.proofs.Struck.{no_logic}

-- a frame that is no row of letters
pub row_else : (f : Decoded) → ((house count : ℕ) → f ≡ frame.LetterRow house count → ⊥) → OneOf no_row (tag_of frames.the_type f)
row_else frame.Bad h = hit no_row 0 tt
row_else (frame.Letter a b) h = hit no_row 1 tt
row_else (frame.Key a b) h = hit no_row 2 tt
row_else (frame.Dump a) h = hit no_row 3 tt
row_else (frame.Move a b c) h = hit no_row 4 tt
row_else (frame.LetterRow a b) h = absurd (h a b refl)

-- one that is no letter
pub letter_else : (f : Decoded) → ((house letter : ℕ) → f ≡ frame.Letter house letter → ⊥) → OneOf no_letter (tag_of frames.the_type f)
letter_else frame.Bad h = hit no_letter 0 tt
letter_else (frame.Letter a b) h = absurd (h a b refl)
letter_else (frame.Key a b) h = hit no_letter 2 tt
letter_else (frame.Dump a) h = hit no_letter 3 tt
letter_else (frame.Move a b c) h = hit no_letter 4 tt
letter_else (frame.LetterRow a b) h = hit no_letter 5 tt

-- one that moves no key
pub move_else : (f : Decoded) → ((way : Way) (house : ℕ) (key : KeyNumber) → f ≡ frame.Move way house key → ⊥) → OneOf no_move (tag_of frames.the_type f)
move_else frame.Bad h = hit no_move 0 tt
move_else (frame.Letter a b) h = hit no_move 1 tt
move_else (frame.Key a b) h = hit no_move 2 tt
move_else (frame.Dump a) h = hit no_move 3 tt
move_else (frame.Move a b c) h = absurd (h a b c refl)
move_else (frame.LetterRow a b) h = hit no_move 5 tt

-- a row that is no logic
pub logic_else : (r : TableRow) → ((c s from to : ℕ) → r ≡ row.Logic c s from to → ⊥) → OneOf no_logic (tag_of rows.the_type r)
logic_else row.Unused h = hit no_logic 0 tt
logic_else (row.Interval a) h = hit no_logic 1 tt
logic_else (row.Tone a) h = hit no_logic 2 tt
logic_else (row.System a b c d) h = hit no_logic 3 tt
logic_else (row.Retuning a b c) h = hit no_logic 4 tt
logic_else (row.Logic a b c d) h = absurd (h a b c d refl)
logic_else (row.Harmony a b) h = hit no_logic 6 tt
logic_else row.Pattern h = hit no_logic 7 tt

-- a row that is neither a tone system nor a retuning
pub call_else : (r : TableRow) → ((a : KeyNumber) (p : Size) (from to : ℕ) → r ≡ row.System a p from to → ⊥) → ((x : Change) (from to : ℕ) → r ≡ row.Retuning x from to → ⊥)
    → OneOf uncalled (tag_of rows.the_type r)
call_else row.Unused h g = hit uncalled 0 tt
call_else (row.Interval a) h g = hit uncalled 1 tt
call_else (row.Tone a) h g = hit uncalled 2 tt
call_else (row.System a b c d) h g = absurd (h a b c d refl)
call_else (row.Retuning a b c) h g = absurd (g a b c refl)
call_else (row.Logic a b c d) h g = hit uncalled 5 tt
call_else (row.Harmony a b) h g = hit uncalled 6 tt
call_else row.Pattern h g = hit uncalled 7 tt
