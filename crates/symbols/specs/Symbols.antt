-- Symbols of the text (document 01): the bytes cut into placed symbols, or the place where none begins.
use Rattle.std.specs.Prelude.{ℕ, zero, suc, ◌+◌, List, [], ◌∷◌, Bool, true, false, cond, length, take, drop, ltb, eqb, Option, None, Some}
use Prim.Native.String.{String}
use Rattle.symbols.specs.declared.MarkKind.{MarkKind}
use Rattle.symbols.specs.declared.MarkKind.TheVariants.{Equals, Colon, Plus, Minus, Times, Divide, Open, Close, Comma, At, BraceOpen, BraceClose, BracketOpen, BracketClose, WidthOpen, WidthClose, Arrow}
use Rattle.symbols.specs.declared.Symbol.{Symbol}
use Rattle.symbols.specs.declared.Symbol.TheVariants.{Bad, End, Name, Number, Mark}
use Rattle.ascii.specs.Ascii.{bytes}
use Rattle.symbols.specs.Bytes.{same, quote, point, hash, is_blank, is_digit, is_hex_digit, is_letter, in_name, take_while}

-- "Marks: `= : + - * / [ ] , @ << >> ->`"; document 02, 5/13: "by key numbers from 0 to 59 in braces"; 1/13: "placeholder names in brackets"
unfoldable pub marks : List (String × MarkKind)
marks =
    ("=", Equals)
    ∷ (":", Colon)
    ∷ ("+", Plus)
    ∷ ("-", Minus)
    ∷ ("*", Times)
    ∷ ("/", Divide)
    ∷ ("[", Open)
    ∷ ("]", Close)
    ∷ (",", Comma)
    ∷ ("@", At)
    ∷ ("{", BraceOpen)
    ∷ ("}", BraceClose)
    ∷ ("(", BracketOpen)
    ∷ (")", BracketClose)
    ∷ ("<<", WidthOpen)
    ∷ (">>", WidthClose)
    ∷ ("->", Arrow)
    ∷ []

-- which of some marks these bytes are
unfoldable pub mark_in : List (String × MarkKind) → List ℕ → Option MarkKind
mark_in [] word = None
mark_in (m ∷ more) word = cond (same word (bytes m.0)) (Some m.1) (mark_in more word)

-- the mark that `word`, the bytes from `at` on, is, or else another symbol
unfoldable pub mark_or : ℕ → List ℕ → Symbol → Symbol
mark_or at word other = elim (mark_in marks word) [ None ↦ other | Some kind ↦ Mark kind at (at + length word) ]

-- a mark of two bytes before one of one; `rest` is the text from `at` on
unfoldable pub mark_at : ℕ → List ℕ → Symbol
mark_at at rest = mark_or at (take 2 rest) (mark_or at (take 1 rest) (Bad at))

-- the place after the bytes of a kind that `rest`, the text from `at` on, begins with
unfoldable pub run_end : (ℕ → Bool) → ℕ → List ℕ → ℕ
run_end p at rest = at + length (take_while p rest)

-- "at least one digit": a number from `at` whose last digits stand from `first` to `end`
unfoldable pub digits_to : ℕ → ℕ → ℕ → Symbol
digits_to at first end = cond (ltb first end) (Number at end) (Bad at)

-- "optionally a point and at least one digit", after decimal digits from `at` to `end`
unfoldable pub pointed : ℕ → ℕ → List ℕ → Symbol
pointed at end [] = Number at end
pointed at end (b ∷ rest) = cond (eqb b point) (digits_to at (end + 1) (run_end is_digit (end + 1) rest)) (Number at end)

unfoldable pub decimal_at : ℕ → List ℕ → Symbol
decimal_at at rest = pointed at (run_end is_digit at rest) (drop (length (take_while is_digit rest)) rest)

-- "or `#` and at least one hexadecimal digit, no point"; `rest` follows the `#` at `at`
unfoldable pub hex_at : ℕ → List ℕ → Symbol
hex_at at rest = digits_to at (at + 1) (run_end is_hex_digit (at + 1) rest)

-- "The longest possible symbol is taken"
unfoldable pub symbol_at : ℕ → ℕ → List ℕ → Symbol
symbol_at at b rest =
    cond (is_letter b) (Name at (run_end in_name at (b ∷ rest)))
    (cond (is_digit b) (decimal_at at (b ∷ rest))
    (cond (eqb b hash) (hex_at at rest)
    (mark_at at (b ∷ rest))))

-- "Blanks .. and comments of any bytes between two `"` (byte 34) part symbols"
unfoldable mutual
  -- the first symbol of `rest`, the text from `at` on
  pub symbol_from : ℕ → List ℕ → Symbol
  symbol_from at [] = End at
  symbol_from at (b ∷ rest) =
      elim (is_blank b) [
        | true ↦ symbol_from (at + 1) rest
        | false ↦ elim (eqb b quote) [ true ↦ after_comment at (at + 1) rest | false ↦ symbol_at at b rest ]
      ]

  -- the same within a comment that began at `start`: "unfinished comment; place of the symbol"
  pub after_comment : ℕ → ℕ → List ℕ → Symbol
  after_comment start at [] = Bad start
  after_comment start at (b ∷ rest) =
      elim (eqb b quote) [ true ↦ symbol_from (at + 1) rest | false ↦ after_comment start (at + 1) rest ]

unfoldable pub next_symbol : List ℕ → ℕ → Symbol
next_symbol text at = symbol_from at (drop at text)

-- where the text goes on after a symbol: nowhere at its end, and where no symbol begins
unfoldable pub after : Symbol → Option ℕ
after (Bad place) = None
after (End place) = None
after (Name start end) = Some end
after (Number start end) = Some end
after (Mark kind start end) = Some end

-- the symbols from `at` on, at most so many
unfoldable pub cut : ℕ → List ℕ → ℕ → List Symbol
cut zero text at = []
cut (suc most) text at = next_symbol text at ∷ elim (after (next_symbol text at)) [ None ↦ [] | Some end ↦ cut most text end ]

-- the symbols from `at` on, to the end of the text or to the place where none begins; a text has no more than its bytes, and
-- the last one (`symbols_next` of proofs/Progress.antt: each is `next_symbol` from where the one before it ends)
unfoldable pub symbols_from : List ℕ → ℕ → List Symbol
symbols_from text at = cut (length text + 1) text at

-- the whole text cut into symbols
unfoldable pub symbols : List ℕ → List Symbol
symbols text = symbols_from text 0
