-- The syntax of a text as diagrams: for each node the symbols that may follow, the node that each leads to, and what it does.
-- Document 01, "Declarations"; 001, the syntax diagrams; document 02, 5/13 and 1/13.
use Rattle.std.specs.Prelude.{true, false, List, [], ◌∷◌, ◌++◌}
use Rattle.grammar.specs.declared.Kind.{Kind}
use Rattle.grammar.specs.declared.Kind.TheVariants.{Interval, Tone, System, Retuning, Logic, Harmony}
use Rattle.grammar.specs.declared.Action.{Action}
use Rattle.grammar.specs.declared.Action.TheVariants.{Pass, Declare, Hold, Held, Number, Sign, Name, Mark, Letter, CountOrder}
use Rattle.grammar.specs.declared.Form.{Form}
use Rattle.grammar.specs.declared.Form.TheVariants.{AnchorTo, AnchorUp, AnchorDown, WidthTo, WidthUp, WidthDown, WidthTimes, WidthOver}
use Rattle.grammar.specs.declared.NumberUse.TheVariants.{RatioFirst, RatioSecond, Degree, Radicand, FirstFactor, Factor, Frequency, AnchorKey, Amount, Key, StarredKey, Argument}
use Rattle.grammar.specs.declared.NameUse.TheVariants.{Term, Base, Position, Start as CalledAtStart, Order, Trigger, CountedTrigger, Placeholder, Amount as NamedAmount}
use Rattle.grammar.specs.declared.MarkUse.TheVariants.{MutedPosition, KeptPosition, KeptAnchor, KeptWidth, Period, Onward, Star}
-- the kinds of symbols that the syntax tells apart: reserved words, a one-letter name, any other name, numbers, marks, the text's end.
-- `unused` are the reserved words of no use here, `nothing` is a place where no symbol begins.
pub use Rattle.grammar.specs.declared.terminals.Terminal.{Terminal}
pub use Rattle.grammar.specs.declared.terminals.Terminal.TheVariants.{Interval as interval, Tone as tone, ToneSystem as tonesystem, Retuning as retuning, Logic as logic, Key as key, Root as root, Harmony as harmony, Unused as unused, Letter as letter, Name as name, Number as number, Equals as equals, Colon as colon, Plus as plus, Minus as minus, Times as times, Divide as divide, Opening as opening, Closing as closing, Comma as comma, At as at, BraceOpen as brace_open, BraceClose as brace_close, BracketOpen as bracket_open, BracketClose as bracket_close, WidthOpen as width_open, WidthClose as width_close, Arrow as arrow, End as end, Nothing as nothing}

-- the nodes of the diagrams, each named by what comes next: `IntervalKind` by the symbol that tells which kind of interval it is, `IntervalNext` by the next
-- declaration or block. `Begin` is where a text begins, `Finish` where it is read whole.
pub data Node : Type 0 where
  Begin Finish : Node
  IntervalName IntervalEquals IntervalBody IntervalKind SecondPart RootRadicand IntervalSign IntervalTerm IntervalTermName IntervalNext : Node
  ToneName ToneEquals ToneBody ToneSign ToneTerm ToneTermName ToneNext : Node
  SystemName SystemEquals SystemAnchor SystemOpen SystemFirst SystemPosition SystemComma SystemPeriod SystemSign SystemTerm SystemTermName : Node
  RetuningName RetuningEquals RetuningBody RetuningInside RetuningNext : Node
  AnchorOperator AnchorPlusNumber AnchorMinusNumber AnchorOpen AnchorClose : Node
  WidthBody WidthOperator WidthPlusNumber WidthMinusNumber WidthTimesNumber WidthOverNumber WidthClose WidthBracket : Node
  PeriodBody PeriodSign PeriodTerm PeriodTermName : Node
  TonesSign TonesTerm TonesTermName TonesPosition : Node
  LogicName LogicTrigger LogicLetter LogicEquals LogicStart LogicOpen OrderTrigger OrderLetter OrderArrow OrderName LogicNext : Node
  HarmonyName HarmonyEquals HarmonyOpen HarmonyKey HarmonyStarred HarmonyComma HarmonyNext : Node
  PlaceholderName PlaceholderComma PlaceholderEquals StartNumber StartComma StartOpen OrderCalled OrderNumber OrderComma : Node

-- in a node, a symbol that is allowed, the next node, and what is done
pub record Rule : Type 0 where
  pub symbol : Terminal
  pub next : Node
  pub action : Action

abbrev pub on : Terminal → Node → Action → Rule
on t n a = record { symbol = t; next = n; action = a }

-- any name, of one letter or more
abbrev pub on_name : Node → Action → List Rule
on_name n a = on letter n a ∷ on name n a ∷ []

-- "A text is any sequence of blocks, an empty one too: a kind word and one or more declarations `name = ..`."
abbrev pub blocks : List Rule
blocks = on interval IntervalName Pass ∷ on tone ToneName Pass ∷ on tonesystem SystemName Pass ∷ on retuning RetuningName Pass ∷ on logic LogicName Pass ∷ on harmony HarmonyName Pass ∷ on end Finish Pass ∷ []

-- after a whole declaration: the next one of its block, the next block, or the end
abbrev pub declarations : Kind → Node → List Rule
declarations k n = on_name n (Declare k) ++ blocks

-- "a sequence: terms joined by `+` or `-`, each an optional whole factor and an interval name. No sign leads."
-- a term: its factor leads to one node, its name to another
abbrev pub term : Node → Node → List Rule
term factor named = on number factor (Number Factor) ∷ on_name named (Name Term)

-- the signs that begin a further term; `Sign true` is a minus
abbrev pub signs : Node → List Rule
signs n = on plus n (Sign false) ∷ on minus n (Sign true) ∷ []

-- n of an anchor or width retuning: a number or, document 02, 1/13, a placeholder's name, "usable where n stands in anchor and width retunings"
abbrev pub amount : Form → Node → List Rule
amount f n = on number n (Number (Amount f)) ∷ on_name n (Name (NamedAmount f))

-- an order begins with its trigger, or the orders end
abbrev pub next_order : List Rule
next_order = on key OrderLetter CountOrder ∷ on_name OrderArrow (Name CountedTrigger) ++ on closing LogicNext Pass ∷ []

-- the rules of each node. Its last rule leads outward: along last rules a text comes to its end from every node (`live` of proofs/Live.antt).
unfoldable pub rules : Node → List Rule
rules Begin = blocks
rules Finish = []
-- INTERVAL name = ..      "`p : q`, or `A ROOT B`, or a sequence"
rules IntervalName = on_name IntervalEquals (Declare Interval)
rules IntervalEquals = on equals IntervalBody Pass ∷ []
rules IntervalBody = on number IntervalKind Hold ∷ on_name IntervalSign (Name Term)
rules IntervalKind = on colon SecondPart (Held RatioFirst) ∷ on root RootRadicand (Held Degree) ∷ on_name IntervalSign (Held FirstFactor)
rules SecondPart = on number IntervalNext (Number RatioSecond) ∷ []
rules RootRadicand = on number IntervalNext (Number Radicand) ∷ []
rules IntervalSign = signs IntervalTerm ++ declarations Interval IntervalEquals
rules IntervalTerm = term IntervalTermName IntervalSign
rules IntervalTermName = on_name IntervalSign (Name Term)
rules IntervalNext = declarations Interval IntervalEquals
-- TONE name = ..          "a frequency in hertz, or a tone name followed by any number of signed terms"
rules ToneName = on_name ToneEquals (Declare Tone)
rules ToneEquals = on equals ToneBody Pass ∷ []
rules ToneBody = on number ToneNext (Number Frequency) ∷ on_name ToneSign (Name Base)
rules ToneSign = signs ToneTerm ++ declarations Tone ToneEquals
rules ToneTerm = term ToneTermName ToneSign
rules ToneTermName = on_name ToneSign (Name Term)
rules ToneNext = declarations Tone ToneEquals
-- TONESYSTEM name = ..    "anchor key, `[` positions parted by commas, each a tone name or nothing `]`, period as a sequence.
--                         Nothing means a muted position. `[ ]` alone is refused here"
rules SystemName = on_name SystemEquals (Declare System)
rules SystemEquals = on equals SystemAnchor Pass ∷ []
rules SystemAnchor = on number SystemOpen (Number AnchorKey) ∷ []
rules SystemOpen = on opening SystemFirst Pass ∷ []
rules SystemFirst = on comma SystemPosition (Mark MutedPosition) ∷ on_name SystemComma (Name Position)
rules SystemPosition = on comma SystemPosition (Mark MutedPosition) ∷ on closing SystemPeriod (Mark MutedPosition) ∷ on_name SystemComma (Name Position)
rules SystemComma = on comma SystemPosition Pass ∷ on closing SystemPeriod Pass ∷ []
rules SystemPeriod = term SystemTermName SystemSign
rules SystemSign = signs SystemTerm ++ declarations System SystemEquals
rules SystemTerm = term SystemTermName SystemSign
rules SystemTermName = on_name SystemSign (Name Term)
-- RETUNING name = ..
rules RetuningName = on_name RetuningEquals (Declare Retuning)
rules RetuningEquals = on bracket_open PlaceholderName Pass ∷ on equals RetuningBody Pass ∷ []
rules RetuningBody = amount AnchorTo AnchorOpen ++ on at AnchorOperator Pass ∷ on opening RetuningInside Pass ∷ []
rules RetuningInside =
    on width_open WidthBody Pass ∷ on closing PeriodBody (Mark Period) ∷ on comma TonesPosition (Mark MutedPosition)
    ∷ on at TonesSign (Mark KeptPosition) ∷ on_name TonesSign (Name Position)
rules RetuningNext = declarations Retuning RetuningEquals
-- document 02, 1/13: "with one to four placeholder names in brackets after any retuning's name, parted by commas"
rules PlaceholderName = on_name PlaceholderComma (Name Placeholder)
rules PlaceholderComma = on comma PlaceholderName Pass ∷ on bracket_close PlaceholderEquals Pass ∷ []
rules PlaceholderEquals = on equals RetuningBody Pass ∷ []
-- "Anchor: `n [ ]`, `@ [ ]`, `@ + n [ ]`, `@ - n [ ]`."
rules AnchorOperator = on opening AnchorClose (Mark KeptAnchor) ∷ on plus AnchorPlusNumber Pass ∷ on minus AnchorMinusNumber Pass ∷ []
rules AnchorPlusNumber = amount AnchorUp AnchorOpen
rules AnchorMinusNumber = amount AnchorDown AnchorOpen
rules AnchorOpen = on opening AnchorClose Pass ∷ []
rules AnchorClose = on closing RetuningNext Pass ∷ []
-- "Width: `[ << n >> ]`, `@` or `@` with `+ - * /` and n inside."
rules WidthBody = amount WidthTo WidthClose ++ on at WidthOperator Pass ∷ []
rules WidthOperator =
    on width_close WidthBracket (Mark KeptWidth) ∷ on plus WidthPlusNumber Pass ∷ on minus WidthMinusNumber Pass ∷ on times WidthTimesNumber Pass
    ∷ on divide WidthOverNumber Pass ∷ []
rules WidthPlusNumber = amount WidthUp WidthClose
rules WidthMinusNumber = amount WidthDown WidthClose
rules WidthTimesNumber = amount WidthTimes WidthClose
rules WidthOverNumber = amount WidthOver WidthClose
rules WidthClose = on width_close WidthBracket Pass ∷ []
rules WidthBracket = on closing RetuningNext Pass ∷ []
-- "Period: `[ ]` then a sequence, or `@` with any signed terms."
rules PeriodBody = on at PeriodSign (Mark Onward) ∷ term PeriodTermName PeriodSign
rules PeriodSign = signs PeriodTerm ++ declarations Retuning RetuningEquals
rules PeriodTerm = term PeriodTermName PeriodSign
rules PeriodTermName = on_name PeriodSign (Name Term)
-- "Tones: `[` positions `]`, each nothing, or `@` or a tone name, with signed terms."
rules TonesSign = signs TonesTerm ++ on comma TonesPosition Pass ∷ on closing RetuningNext Pass ∷ []
rules TonesTerm = term TonesTermName TonesSign
rules TonesTermName = on_name TonesSign (Name Term)
rules TonesPosition =
    on comma TonesPosition (Mark MutedPosition) ∷ on closing RetuningNext (Mark MutedPosition) ∷ on at TonesSign (Mark KeptPosition)
    ∷ on_name TonesSign (Name Position)
-- LOGIC ..                "`name KEY letter = start [ orders ]`; start is a tone system or retuning name or nothing;
--                         orders, if any, are each `KEY letter -> name`. A letter is a one-letter name from a to z."
--                         Document 02, 5/13, of a harmony: "Its bare name is a trigger beside `KEY letter`, in logics and orders"
rules LogicName = on_name LogicTrigger (Declare Logic)
rules LogicTrigger = on key LogicLetter Pass ∷ on_name LogicEquals (Name Trigger)
rules LogicLetter = on letter LogicEquals Letter ∷ []
rules LogicEquals = on equals LogicStart Pass ∷ []
rules LogicStart = on opening OrderTrigger Pass ∷ on_name LogicOpen (Name CalledAtStart)
rules LogicOpen = on bracket_open StartNumber Pass ∷ on opening OrderTrigger Pass ∷ []
rules OrderTrigger = next_order
rules OrderLetter = on letter OrderArrow Letter ∷ []
rules OrderArrow = on arrow OrderName Pass ∷ []
rules OrderName = on_name OrderCalled (Name Order)
rules LogicNext = declarations Logic LogicTrigger
-- document 02, 1/13: "calls from orders and logic starts giving as many whole numbers from 0 to 9,999"
rules StartNumber = on number StartComma (Number Argument) ∷ []
rules StartComma = on comma StartNumber Pass ∷ on bracket_close StartOpen Pass ∷ []
rules StartOpen = on opening OrderTrigger Pass ∷ []
rules OrderCalled = on bracket_open OrderNumber Pass ∷ next_order
rules OrderNumber = on number OrderComma (Number Argument) ∷ []
rules OrderComma = on comma OrderNumber Pass ∷ on bracket_close OrderTrigger Pass ∷ []
-- HARMONY name = ..       document 02, 5/13: "A harmony is declared, as `HARMONY C = { 0, 4, *7 }` (or HARMONIE), by key numbers from 0 to 59 in braces;
--                         a star before a number means that it may be held or not."
rules HarmonyName = on_name HarmonyEquals (Declare Harmony)
rules HarmonyEquals = on equals HarmonyOpen Pass ∷ []
rules HarmonyOpen = on brace_open HarmonyKey Pass ∷ []
rules HarmonyKey = on times HarmonyStarred (Mark Star) ∷ on number HarmonyComma (Number Key) ∷ []
rules HarmonyStarred = on number HarmonyComma (Number StarredKey) ∷ []
rules HarmonyComma = on comma HarmonyKey Pass ∷ on brace_close HarmonyNext Pass ∷ []
rules HarmonyNext = declarations Harmony HarmonyEquals
