-- Terminals and nodes come back from their numbers: no two share one. So no word and no mark is taken for a letter, or for the text's end.
use mathlib.Core.Bool.{Bool, true, false, cond}
use mathlib.Core.Path.{◌≡◌, refl, subst}
use lib.Dec.{T}
use Rattle.symbols.specs.declared.MarkKind.{MarkKind}
use Rattle.symbols.specs.declared.MarkKind.TheVariants as mark
use Rattle.symbols.specs.declared.words.Word.{Word}
use Rattle.symbols.specs.declared.words.Word.TheVariants as word
use Rattle.grammar.specs.Syntax.{Terminal, interval, tone, tonesystem, retuning, logic, key, root, harmony, unused, letter, name, number, equals, colon, plus, minus, times, divide, opening, closing, comma, at, brace_open, brace_close, bracket_open, bracket_close, width_open, width_close, arrow, end, nothing, Node, Begin, Finish, IntervalName, IntervalEquals, IntervalBody, IntervalKind, SecondPart, RootRadicand, IntervalSign, IntervalTerm, IntervalTermName, IntervalNext, ToneName, ToneEquals, ToneBody, ToneSign, ToneTerm, ToneTermName, ToneNext, SystemName, SystemEquals, SystemAnchor, SystemOpen, SystemFirst, SystemPosition, SystemComma, SystemPeriod, SystemSign, SystemTerm, SystemTermName, RetuningName, RetuningEquals, RetuningBody, RetuningInside, RetuningNext, AnchorOperator, AnchorPlusNumber, AnchorMinusNumber, AnchorOpen, AnchorClose, WidthBody, WidthOperator, WidthPlusNumber, WidthMinusNumber, WidthTimesNumber, WidthOverNumber, WidthClose, WidthBracket, PeriodBody, PeriodSign, PeriodTerm, PeriodTermName, TonesSign, TonesTerm, TonesTermName, TonesPosition, LogicName, LogicTrigger, LogicLetter, LogicEquals, LogicStart, LogicOpen, OrderTrigger, OrderLetter, OrderArrow, OrderName, LogicNext, HarmonyName, HarmonyEquals, HarmonyOpen, HarmonyKey, HarmonyStarred, HarmonyComma, HarmonyNext, PlaceholderName, PlaceholderComma, PlaceholderEquals, StartNumber, StartComma, StartOpen, OrderCalled, OrderNumber, OrderComma}
use Rattle.grammar.specs.Terminals.{terminal_number, same_terminal, of_word, of_mark}
use Rattle.grammar.specs.Moves.{node_number, node_at, terminal_at}

pub terminal_back : (t : Terminal) → terminal_at (terminal_number t) ≡ t
terminal_back interval = refl
terminal_back tone = refl
terminal_back tonesystem = refl
terminal_back retuning = refl
terminal_back logic = refl
terminal_back key = refl
terminal_back root = refl
terminal_back harmony = refl
terminal_back unused = refl
terminal_back letter = refl
terminal_back name = refl
terminal_back number = refl
terminal_back equals = refl
terminal_back colon = refl
terminal_back plus = refl
terminal_back minus = refl
terminal_back times = refl
terminal_back divide = refl
terminal_back opening = refl
terminal_back closing = refl
terminal_back comma = refl
terminal_back at = refl
terminal_back brace_open = refl
terminal_back brace_close = refl
terminal_back bracket_open = refl
terminal_back bracket_close = refl
terminal_back width_open = refl
terminal_back width_close = refl
terminal_back arrow = refl
terminal_back end = refl
terminal_back nothing = refl

pub node_back : (n : Node) → node_at (node_number n) ≡ n
node_back Begin = refl
node_back Finish = refl
node_back IntervalName = refl
node_back IntervalEquals = refl
node_back IntervalBody = refl
node_back IntervalKind = refl
node_back SecondPart = refl
node_back RootRadicand = refl
node_back IntervalSign = refl
node_back IntervalTerm = refl
node_back IntervalTermName = refl
node_back IntervalNext = refl
node_back ToneName = refl
node_back ToneEquals = refl
node_back ToneBody = refl
node_back ToneSign = refl
node_back ToneTerm = refl
node_back ToneTermName = refl
node_back ToneNext = refl
node_back SystemName = refl
node_back SystemEquals = refl
node_back SystemAnchor = refl
node_back SystemOpen = refl
node_back SystemFirst = refl
node_back SystemPosition = refl
node_back SystemComma = refl
node_back SystemPeriod = refl
node_back SystemSign = refl
node_back SystemTerm = refl
node_back SystemTermName = refl
node_back RetuningName = refl
node_back RetuningEquals = refl
node_back RetuningBody = refl
node_back RetuningInside = refl
node_back RetuningNext = refl
node_back AnchorOperator = refl
node_back AnchorPlusNumber = refl
node_back AnchorMinusNumber = refl
node_back AnchorOpen = refl
node_back AnchorClose = refl
node_back WidthBody = refl
node_back WidthOperator = refl
node_back WidthPlusNumber = refl
node_back WidthMinusNumber = refl
node_back WidthTimesNumber = refl
node_back WidthOverNumber = refl
node_back WidthClose = refl
node_back WidthBracket = refl
node_back PeriodBody = refl
node_back PeriodSign = refl
node_back PeriodTerm = refl
node_back PeriodTermName = refl
node_back TonesSign = refl
node_back TonesTerm = refl
node_back TonesTermName = refl
node_back TonesPosition = refl
node_back LogicName = refl
node_back LogicTrigger = refl
node_back LogicLetter = refl
node_back LogicEquals = refl
node_back LogicStart = refl
node_back LogicOpen = refl
node_back OrderTrigger = refl
node_back OrderLetter = refl
node_back OrderArrow = refl
node_back OrderName = refl
node_back LogicNext = refl
node_back HarmonyName = refl
node_back HarmonyEquals = refl
node_back HarmonyOpen = refl
node_back HarmonyKey = refl
node_back HarmonyStarred = refl
node_back HarmonyComma = refl
node_back HarmonyNext = refl
node_back PlaceholderName = refl
node_back PlaceholderComma = refl
node_back PlaceholderEquals = refl
node_back StartNumber = refl
node_back StartComma = refl
node_back StartOpen = refl
node_back OrderCalled = refl
node_back OrderNumber = refl
node_back OrderComma = refl

-- ---- words and marks

abbrev is_apart : Terminal → Bool
is_apart t = cond (same_terminal t letter) false (cond (same_terminal t end) false true)

apart : (t : Terminal) → T (is_apart t) → (t ≡ letter → ⊥) × (t ≡ end → ⊥)
apart t h = (λ e. subst (λ (u : Terminal). T (is_apart u)) e h, λ e. subst (λ (u : Terminal). T (is_apart u)) e h)

word_test : (w : Word) → T (is_apart (of_word w))
word_test word.Interval = tt
word_test word.Tone = tt
word_test word.ToneSystem = tt
word_test word.Retuning = tt
word_test word.Logic = tt
word_test word.Key = tt
word_test word.Root = tt
word_test word.Harmony = tt
word_test word.Unused = tt
word_test word.Plain = tt

pub word_apart : (w : Word) → (of_word w ≡ letter → ⊥) × (of_word w ≡ end → ⊥)
word_apart w = apart (of_word w) (word_test w)

mark_test : (k : MarkKind) → T (is_apart (of_mark k))
mark_test mark.Equals = tt
mark_test mark.Colon = tt
mark_test mark.Plus = tt
mark_test mark.Minus = tt
mark_test mark.Times = tt
mark_test mark.Divide = tt
mark_test mark.Open = tt
mark_test mark.Close = tt
mark_test mark.Comma = tt
mark_test mark.At = tt
mark_test mark.BraceOpen = tt
mark_test mark.BraceClose = tt
mark_test mark.BracketOpen = tt
mark_test mark.BracketClose = tt
mark_test mark.WidthOpen = tt
mark_test mark.WidthClose = tt
mark_test mark.Arrow = tt

pub mark_apart : (k : MarkKind) → (of_mark k ≡ letter → ⊥) × (of_mark k ≡ end → ⊥)
mark_apart k = apart (of_mark k) (mark_test k)
