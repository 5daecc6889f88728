-- Worked examples of the definitions, each computed.
use mathlib.Core.Path.{◌≡◌, refl}
use mathlib.Core.Bool.{false}
use mathlib.Core.List.{[], ◌∷◌}
use Rattle.symbols.specs.declared.MarkKind.TheVariants.{Minus, WidthOpen, Arrow}
use Rattle.symbols.specs.declared.Symbol.TheVariants.{Bad, End, Name, Number, Mark}
use Rattle.std.specs.Prelude.{None, Some}
use Rattle.symbols.specs.declared.words.Word.TheVariants.{Plain, Retuning, Harmony, Unused}
use Rattle.ascii.specs.Ascii.{byte, bytes}
use Rattle.symbols.specs.Bytes.{is_blank, is_digit, is_hex_digit, is_capital, is_letter, in_name, small, same, take_while}
use Rattle.symbols.specs.Symbols.{marks, mark_in, mark_or, mark_at, run_end, digits_to, pointed, decimal_at, hex_at, symbol_at, symbol_from, next_symbol, after, cut, symbols_from, symbols}
use Rattle.symbols.specs.Names.{spelled, name_at, letter_of}
use Rattle.symbols.specs.Words.{words, word_in, word_of}

-- all that the examples compute with
unfoldable opened : Unit {0}
unfolding is_blank is_digit is_hex_digit is_capital is_letter in_name small take_while marks mark_in mark_or mark_at run_end digits_to pointed decimal_at hex_at symbol_at symbol_from next_symbol after cut symbols_from symbols spelled name_at same letter_of words word_in word_of
opened = tt

-- "The longest possible symbol is taken, so `3Octave` is a number and a name"
number_and_name : symbols (bytes "3Octave") ≡ Number 0 1 ∷ Name 1 7 ∷ End 7 ∷ []
unfolding opened
number_and_name = refl

letters_after_digits : symbols (bytes "3e5 #3Fifth") ≡ Number 0 1 ∷ Name 1 3 ∷ Number 4 7 ∷ Name 7 11 ∷ End 11 ∷ []
unfolding opened
letters_after_digits = refl

arrow : symbols (bytes "->- >") ≡ Mark Arrow 0 2 ∷ Mark Minus 2 3 ∷ Bad 4 ∷ []
unfolding opened
arrow = refl

pairs_only : symbols (bytes "<<<") ≡ Mark WidthOpen 0 2 ∷ Bad 2 ∷ []
unfolding opened
pairs_only = refl

-- "number lacking digits; place of the symbol"
point_lacks_digits : symbols (bytes "a 3.") ≡ Name 0 1 ∷ Bad 2 ∷ []
unfolding opened
point_lacks_digits = refl

hash_lacks_digits : symbols (bytes "# F") ≡ Bad 0 ∷ []
unfolding opened
hash_lacks_digits = refl

one_point : symbols (bytes "3.5.5") ≡ Number 0 3 ∷ Bad 3 ∷ []
unfolding opened
one_point = refl

no_point_after_hash : symbols (bytes "#F.5") ≡ Number 0 2 ∷ Bad 2 ∷ []
unfolding opened
no_point_after_hash = refl

-- "comments of any bytes between two `"` part symbols"
comments_part : symbols (bytes "Oc\"x\"tave") ≡ Name 0 2 ∷ Name 5 9 ∷ End 9 ∷ []
unfolding opened
comments_part = refl

-- "unfinished comment; place of the symbol"
open_comment : symbols (bytes "a \"\" \"b c") ≡ Name 0 1 ∷ Bad 5 ∷ []
unfolding opened
open_comment = refl

blanks : symbols (bytes " \t\u{b}\n\u{c}\r") ≡ End 6 ∷ []
unfolding opened
blanks = refl

-- "capitals count as small"; `_` and `'` are letters
capitals_as_small : name_at (bytes "Fifth e'_1 E'_1") 6 ≡ name_at (bytes "Fifth e'_1 E'_1") 11
unfolding opened
capitals_as_small = refl

longer_name : same (name_at (bytes "ab abc") 0) (name_at (bytes "ab abc") 3) ≡ false
unfolding opened
longer_name = refl

word : word_of (spelled (bytes "Umstimmung")) ≡ Retuning
unfolding opened
word = refl

harmony_word : word_of (spelled (bytes "Harmonie")) ≡ Harmony
unfolding opened
harmony_word = refl

unused_word : word_of (spelled (bytes "pattern")) ≡ Unused
unfolding opened
unused_word = refl

no_word : word_of (spelled (bytes "HARMONY_ANALYSIS")) ≡ Plain
unfolding opened
no_word = refl

letter : letter_of (bytes "m") ≡ Some (byte "M")
unfolding opened
letter = refl

no_letter_holds : letter_of (bytes "_") ≡ None
unfolding opened
no_letter_holds = refl
