-- Texts and what they are read as: one for each of the numbers 2 to 9 and 24 at least.
use Rattle.std.specs.Prelude.{List, [], ◌∷◌}
use Rattle.status.specs.Status.{no_symbol, symbol_not_allowed, number_out_of_range, name_twice, name_not_declared, depends_on_itself, value_out_of_range, item_too_many, placeholder_wrong}
use Rattle.cents.specs.Sums.{Row, ◌gives◌}
use Rattle.ascii.specs.Ascii.{bytes}
use Rattle.program.specs.Text.{refused, accepted, read_text}

unfoldable pub verdicts : List Row
verdicts =
    -- "an empty one too"
    (read_text (bytes "") gives accepted [])
    -- 2 at a number that lacks digits
    ∷ (read_text (bytes "INTERVAL a = 3. b") gives refused no_symbol 13)
    -- 2 at an unfinished comment
    ∷ (read_text (bytes "INTERVAL a = 2 : 1 \"b") gives refused no_symbol 19)
    -- 3 at the symbol after a first number that is not judged
    ∷ (read_text (bytes "INTERVAL a = 99999999 + b") gives refused symbol_not_allowed 22)
    -- 3 at the `]` of a tone system's `[ ]`
    ∷ (read_text (bytes "TONESYSTEM T = 60 [ ] O") gives refused symbol_not_allowed 20)
    -- 3 at the end of the text
    ∷ (read_text (bytes "RETUNING A = [ ]") gives refused symbol_not_allowed 16)
    -- 4 at a number out of range
    ∷ (read_text (bytes "TONESYSTEM T = 128 [") gives refused number_out_of_range 15)
    -- 4 at a first number, once a name follows
    ∷ (read_text (bytes "INTERVAL a = 2.5 b") gives refused number_out_of_range 13)
    -- 5 at the second
    ∷ (read_text (bytes "INTERVAL a = 2 : 1 a = 3 : 2") gives refused name_twice 19)
    -- 6 at the use, even 0 times
    ∷ (read_text (bytes "INTERVAL a = 0 b") gives refused name_not_declared 15)
    -- 7 at what lies on a cycle, not at what leads to it
    ∷ (read_text (bytes "INTERVAL x = a a = b b = a") gives refused depends_on_itself 15)
    -- 8 at what is out of range
    ∷ (read_text (bytes "INTERVAL o = 2 : 1 p = 999 o") gives refused value_out_of_range 19)
    -- 8 at what uses it 0 times, where that is earlier
    ∷ (read_text (bytes "INTERVAL o = 2 : 1 q = 0 p p = 999 o") gives refused value_out_of_range 19)
    -- document 02, 5/13: 3 for empty braces, and for a comma without a number
    ∷ (read_text (bytes "HARMONY C = { }") gives refused symbol_not_allowed 14)
    ∷ (read_text (bytes "HARMONY C = { 0, }") gives refused symbol_not_allowed 17)
    -- 3 at the second number, with a star or without
    ∷ (read_text (bytes "HARMONY C = { 0, 4, 0 }") gives refused symbol_not_allowed 20)
    ∷ (read_text (bytes "HARMONY C = { 0, 4, *4 }") gives refused symbol_not_allowed 21)
    -- 4 above 59, or for a point
    ∷ (read_text (bytes "HARMONY C = { 60 }") gives refused number_out_of_range 14)
    ∷ (read_text (bytes "HARMONY C = { 0, 0.0 }") gives refused number_out_of_range 17)
    -- 5, and 6 at a trigger
    ∷ (read_text (bytes "HARMONIE C = { 0, 4 } C = { 1 }") gives refused name_twice 22)
    ∷ (read_text (bytes "LOGIC L C = x [ D -> y ]") gives refused name_not_declared 8)
    -- 3 where a trigger lacks
    ∷ (read_text (bytes "HARMONY C = { 0 } LOGIC L = [ ]") gives refused symbol_not_allowed 26)
    -- document 02, 1/13: 24 at a placeholder that is not named; without brackets none is
    ∷ (read_text (bytes "RETUNING a = x [ ]") gives refused placeholder_wrong 13)
    -- 24 at the second, where one is named twice; capitals count as small
    ∷ (read_text (bytes "RETUNING a ( y, Y ) = y [ ]") gives refused placeholder_wrong 16)
    -- 24 at the called name, where the count is wrong: too few, too many, and for a logic, which takes none
    ∷ (read_text (bytes "RETUNING a ( x ) = x [ ] LOGIC L KEY L = a [ ]") gives refused placeholder_wrong 41)
    ∷ (read_text (bytes "RETUNING a = 60 [ ] LOGIC L KEY L = a ( 1 ) [ ]") gives refused placeholder_wrong 36)
    ∷ (read_text (bytes "LOGIC L KEY L = [ KEY A -> L ( 1 ) ]") gives refused placeholder_wrong 27)
    -- 3 for bad brackets
    ∷ (read_text (bytes "RETUNING a ( ) = 60 [ ]") gives refused symbol_not_allowed 13)
    ∷ (read_text (bytes "RETUNING a ( x, ) = x [ ]") gives refused symbol_not_allowed 16)
    ∷ (read_text (bytes "TONE a ( x ) = 440") gives refused symbol_not_allowed 7)
    ∷ (read_text (bytes "RETUNING a ( x ) = x + 1 [ ]") gives refused symbol_not_allowed 21)
    -- 9 at a fifth name or number
    ∷ (read_text (bytes "RETUNING a ( v, w, x, y, z ) = x [ ]") gives refused item_too_many 25)
    ∷ (read_text (bytes "RETUNING a ( x ) = x [ ] LOGIC L KEY L = a ( 1, 2, 3, 4, 5 ) [ ]") gives refused item_too_many 57)
    -- 4 where a fifth number is out of range, too: at one place the lower number
    ∷ (read_text (bytes "RETUNING a ( x ) = x [ ] LOGIC L KEY L = a ( 1, 2, 3, 4, 10000 ) [ ]") gives refused number_out_of_range 57)
    -- "24, after 6 and before 7"
    ∷ (read_text (bytes "RETUNING a = x [ ] INTERVAL b = c") gives refused name_not_declared 32)
    ∷ (read_text (bytes "RETUNING a = x [ ] INTERVAL b = b") gives refused placeholder_wrong 13)
    -- a written 0 after `/` is out of range, as before
    ∷ (read_text (bytes "RETUNING a ( x ) = [ << @ / 0 >> ]") gives refused number_out_of_range 28)
    ∷ []
