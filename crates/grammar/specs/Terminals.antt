-- The rule for a terminal; and of a symbol of the text, its terminal and its place.
use Rattle.std.specs.Prelude.{Bool, true, false, List, [], ◌∷◌, ℕ, eqb, Option, Some, None, unwrap_or}
use Rattle.std.proofs.Math.Seq.{slice}
use Rattle.symbols.specs.declared.Symbol.{Symbol}
use Rattle.symbols.specs.declared.Symbol.TheVariants as symbol
use Rattle.symbols.specs.declared.MarkKind.{MarkKind}
use Rattle.symbols.specs.declared.MarkKind.TheVariants as mark
use Rattle.symbols.specs.declared.words.Word.{Word}
use Rattle.symbols.specs.declared.words.Word.TheVariants as word
use Rattle.symbols.specs.Words.{word_of}
use Rattle.symbols.specs.Names.{spelled, letter_of}
use Rattle.grammar.specs.declared.Span.{Span}
use Rattle.grammar.specs.Syntax.{Terminal, interval, tone, tonesystem, retuning, logic, key, root, harmony, unused, letter, name, number, equals, colon, plus, minus, times, divide, opening, closing, comma, at, brace_open, brace_close, bracket_open, bracket_close, width_open, width_close, arrow, end, nothing, Rule}

-- a number tells two terminals apart (`terminal_back` of proofs/Numbered.antt: no two share one)
abbrev pub terminal_number : Terminal → ℕ
terminal_number interval = 0
terminal_number tone = 1
terminal_number tonesystem = 2
terminal_number retuning = 3
terminal_number logic = 4
terminal_number key = 5
terminal_number root = 6
terminal_number harmony = 7
terminal_number unused = 8
terminal_number letter = 9
terminal_number name = 10
terminal_number number = 11
terminal_number equals = 12
terminal_number colon = 13
terminal_number plus = 14
terminal_number minus = 15
terminal_number times = 16
terminal_number divide = 17
terminal_number opening = 18
terminal_number closing = 19
terminal_number comma = 20
terminal_number at = 21
terminal_number brace_open = 22
terminal_number brace_close = 23
terminal_number bracket_open = 24
terminal_number bracket_close = 25
terminal_number width_open = 26
terminal_number width_close = 27
terminal_number arrow = 28
terminal_number end = 29
terminal_number nothing = 30

abbrev pub same_terminal : Terminal → Terminal → Bool
same_terminal t u = eqb (terminal_number t) (terminal_number u)

-- a place where no symbol begins
abbrev pub is_nothing : Terminal → Bool
is_nothing t = same_terminal t nothing

-- the rule for a terminal, if there is one
unfoldable pub picked : List Rule → Terminal → Option Rule
picked [] t = None
picked (r ∷ rs) t = elim (same_terminal t r.symbol) [ true ↦ Some r | false ↦ picked rs t ]

-- ---- the terminal of a symbol

abbrev pub of_word : Word → Terminal
of_word word.Interval = interval
of_word word.Tone = tone
of_word word.ToneSystem = tonesystem
of_word word.Retuning = retuning
of_word word.Logic = logic
of_word word.Key = key
of_word word.Root = root
of_word word.Harmony = harmony
of_word word.Unused = unused
of_word word.Plain = name

-- "A letter is a one-letter name from a to z."; no reserved word is one
abbrev pub of_letter : Option ℕ → Word → Terminal
of_letter (Some c) w = letter
of_letter None w = of_word w

abbrev pub of_name : List ℕ → Terminal
of_name letters = of_letter (letter_of letters) (word_of (spelled letters))

abbrev pub of_mark : MarkKind → Terminal
of_mark mark.Equals = equals
of_mark mark.Colon = colon
of_mark mark.Plus = plus
of_mark mark.Minus = minus
of_mark mark.Times = times
of_mark mark.Divide = divide
of_mark mark.Open = opening
of_mark mark.Close = closing
of_mark mark.Comma = comma
of_mark mark.At = at
of_mark mark.BraceOpen = brace_open
of_mark mark.BraceClose = brace_close
of_mark mark.BracketOpen = bracket_open
of_mark mark.BracketClose = bracket_close
of_mark mark.WidthOpen = width_open
of_mark mark.WidthClose = width_close
of_mark mark.Arrow = arrow

unfoldable pub terminal_of : List ℕ → Symbol → Terminal
terminal_of text (symbol.Name a b) = of_name (slice a b text)
terminal_of text (symbol.Number a b) = number
terminal_of text (symbol.Mark k a b) = of_mark k
terminal_of text (symbol.End a) = end
terminal_of text (symbol.Bad a) = nothing

-- a symbol's place, and the place after it
abbrev pub start_of : Symbol → ℕ
start_of (symbol.Name a b) = a
start_of (symbol.Number a b) = a
start_of (symbol.Mark k a b) = a
start_of (symbol.End a) = a
start_of (symbol.Bad a) = a

abbrev pub end_of : Symbol → ℕ
end_of (symbol.Name a b) = b
end_of (symbol.Number a b) = b
end_of (symbol.Mark k a b) = b
end_of (symbol.End a) = a
end_of (symbol.Bad a) = a

abbrev pub span_of : Symbol → Span
span_of y = record { start = start_of y; end = end_of y }

-- the letter that a one-letter name is, as a capital
abbrev pub letter_at : List ℕ → Span → ℕ
letter_at text x = unwrap_or (letter_of (slice x.start x.end text)) 0
