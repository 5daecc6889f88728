-- The numbers of nodes, terminals and actions in the code's tables, and the moves: for the contracts of private functions.
use Rattle.std.specs.Prelude.{Bool, true, false, cond, List, [], ◌∷◌, ◌≡◌, ℕ, zero, suc, ◌+◌, ◌*◌, ◌/◌, ◌%◌, eqb, get_or, Option, Some, None}
use Rattle.grammar.specs.declared.Kind.{Kind}
use Rattle.grammar.specs.declared.Kind.TheVariants.{Interval, Tone, System, Retuning, Logic, Order as AnOrder, Harmony}
use Rattle.grammar.specs.declared.Form.TheVariants.{AnchorTo, AnchorUp, AnchorDown, WidthTo, WidthUp, WidthDown, WidthTimes, WidthOver}
use Rattle.grammar.specs.declared.NumberUse.{NumberUse}
use Rattle.grammar.specs.declared.NumberUse.TheVariants.{RatioFirst, RatioSecond, Degree, Radicand, FirstFactor, Factor, Frequency, AnchorKey, Amount, Key, StarredKey, Argument}
use Rattle.grammar.specs.declared.NameUse.{NameUse}
use Rattle.grammar.specs.declared.NameUse.TheVariants.{Term, Base, Position, Start, Order, Trigger, CountedTrigger, Placeholder, Amount as NamedAmount}
use Rattle.grammar.specs.declared.MarkUse.{MarkUse}
use Rattle.grammar.specs.declared.MarkUse.TheVariants.{MutedPosition, KeptPosition, KeptAnchor, KeptWidth, Period, Onward, Star}
use Rattle.grammar.specs.declared.Action.{Action}
use Rattle.grammar.specs.declared.Action.TheVariants.{Pass, Declare, Hold, Held, Number, Sign, Name, Mark, Letter, CountOrder}
use Rattle.grammar.specs.Syntax.{Terminal, interval, tone, tonesystem, retuning, logic, key, root, harmony, unused, letter, name, number, equals, colon, plus, minus, times, divide, opening, closing, comma, at, brace_open, brace_close, bracket_open, bracket_close, width_open, width_close, arrow, end, nothing, Node, Begin, Finish, IntervalName, IntervalEquals, IntervalBody, IntervalKind, SecondPart, RootRadicand, IntervalSign, IntervalTerm, IntervalTermName, IntervalNext, ToneName, ToneEquals, ToneBody, ToneSign, ToneTerm, ToneTermName, ToneNext, SystemName, SystemEquals, SystemAnchor, SystemOpen, SystemFirst, SystemPosition, SystemComma, SystemPeriod, SystemSign, SystemTerm, SystemTermName, RetuningName, RetuningEquals, RetuningBody, RetuningInside, RetuningNext, AnchorOperator, AnchorPlusNumber, AnchorMinusNumber, AnchorOpen, AnchorClose, WidthBody, WidthOperator, WidthPlusNumber, WidthMinusNumber, WidthTimesNumber, WidthOverNumber, WidthClose, WidthBracket, PeriodBody, PeriodSign, PeriodTerm, PeriodTermName, TonesSign, TonesTerm, TonesTermName, TonesPosition, LogicName, LogicTrigger, LogicLetter, LogicEquals, LogicStart, LogicOpen, OrderTrigger, OrderLetter, OrderArrow, OrderName, LogicNext, HarmonyName, HarmonyEquals, HarmonyOpen, HarmonyKey, HarmonyStarred, HarmonyComma, HarmonyNext, PlaceholderName, PlaceholderComma, PlaceholderEquals, StartNumber, StartComma, StartOpen, OrderCalled, OrderNumber, OrderComma, Rule, rules}
use Rattle.grammar.specs.Terminals.{terminal_number, picked}
use Rattle.grammar.specs.Items.{form_number}

-- ---- nodes and terminals

-- a number tells two nodes apart (`node_back` of proofs/Numbered.antt: no two share one)
abbrev pub node_number : Node → ℕ
node_number Begin = 0
node_number Finish = 1
node_number IntervalName = 2
node_number IntervalEquals = 3
node_number IntervalBody = 4
node_number IntervalKind = 5
node_number SecondPart = 6
node_number RootRadicand = 7
node_number IntervalSign = 8
node_number IntervalTerm = 9
node_number IntervalTermName = 10
node_number IntervalNext = 11
node_number ToneName = 12
node_number ToneEquals = 13
node_number ToneBody = 14
node_number ToneSign = 15
node_number ToneTerm = 16
node_number ToneTermName = 17
node_number ToneNext = 18
node_number SystemName = 19
node_number SystemEquals = 20
node_number SystemAnchor = 21
node_number SystemOpen = 22
node_number SystemFirst = 23
node_number SystemPosition = 24
node_number SystemComma = 25
node_number SystemPeriod = 26
node_number SystemSign = 27
node_number SystemTerm = 28
node_number SystemTermName = 29
node_number RetuningName = 30
node_number RetuningEquals = 31
node_number RetuningBody = 32
node_number RetuningInside = 33
node_number RetuningNext = 34
node_number AnchorOperator = 35
node_number AnchorPlusNumber = 36
node_number AnchorMinusNumber = 37
node_number AnchorOpen = 38
node_number AnchorClose = 39
node_number WidthBody = 40
node_number WidthOperator = 41
node_number WidthPlusNumber = 42
node_number WidthMinusNumber = 43
node_number WidthTimesNumber = 44
node_number WidthOverNumber = 45
node_number WidthClose = 46
node_number WidthBracket = 47
node_number PeriodBody = 48
node_number PeriodSign = 49
node_number PeriodTerm = 50
node_number PeriodTermName = 51
node_number TonesSign = 52
node_number TonesTerm = 53
node_number TonesTermName = 54
node_number TonesPosition = 55
node_number LogicName = 56
node_number LogicTrigger = 57
node_number LogicLetter = 58
node_number LogicEquals = 59
node_number LogicStart = 60
node_number LogicOpen = 61
node_number OrderTrigger = 62
node_number OrderLetter = 63
node_number OrderArrow = 64
node_number OrderName = 65
node_number LogicNext = 66
node_number HarmonyName = 67
node_number HarmonyEquals = 68
node_number HarmonyOpen = 69
node_number HarmonyKey = 70
node_number HarmonyStarred = 71
node_number HarmonyComma = 72
node_number HarmonyNext = 73
node_number PlaceholderName = 74
node_number PlaceholderComma = 75
node_number PlaceholderEquals = 76
node_number StartNumber = 77
node_number StartComma = 78
node_number StartOpen = 79
node_number OrderCalled = 80
node_number OrderNumber = 81
node_number OrderComma = 82

-- the nodes in the order of their numbers; past them nothing follows
abbrev pub nodes : List Node
nodes =
    Begin ∷ Finish ∷ IntervalName ∷ IntervalEquals ∷ IntervalBody ∷ IntervalKind ∷
    SecondPart ∷ RootRadicand ∷ IntervalSign ∷ IntervalTerm ∷ IntervalTermName ∷ IntervalNext ∷
    ToneName ∷ ToneEquals ∷ ToneBody ∷ ToneSign ∷ ToneTerm ∷ ToneTermName ∷
    ToneNext ∷ SystemName ∷ SystemEquals ∷ SystemAnchor ∷ SystemOpen ∷ SystemFirst ∷
    SystemPosition ∷ SystemComma ∷ SystemPeriod ∷ SystemSign ∷ SystemTerm ∷ SystemTermName ∷
    RetuningName ∷ RetuningEquals ∷ RetuningBody ∷ RetuningInside ∷ RetuningNext ∷ AnchorOperator ∷
    AnchorPlusNumber ∷ AnchorMinusNumber ∷ AnchorOpen ∷ AnchorClose ∷ WidthBody ∷ WidthOperator ∷
    WidthPlusNumber ∷ WidthMinusNumber ∷ WidthTimesNumber ∷ WidthOverNumber ∷ WidthClose ∷ WidthBracket ∷
    PeriodBody ∷ PeriodSign ∷ PeriodTerm ∷ PeriodTermName ∷ TonesSign ∷ TonesTerm ∷
    TonesTermName ∷ TonesPosition ∷ LogicName ∷ LogicTrigger ∷ LogicLetter ∷ LogicEquals ∷
    LogicStart ∷ LogicOpen ∷ OrderTrigger ∷ OrderLetter ∷ OrderArrow ∷ OrderName ∷
    LogicNext ∷ HarmonyName ∷ HarmonyEquals ∷ HarmonyOpen ∷ HarmonyKey ∷ HarmonyStarred ∷
    HarmonyComma ∷ HarmonyNext ∷
    PlaceholderName ∷ PlaceholderComma ∷ PlaceholderEquals ∷ StartNumber ∷ StartComma ∷ StartOpen ∷ OrderCalled ∷ OrderNumber ∷ OrderComma ∷ []

abbrev pub node_at : ℕ → Node
node_at n = get_or nodes n Finish

-- the terminals in the order of their numbers; past them is none that a rule is for
abbrev pub terminals : List Terminal
terminals =
    interval ∷ tone ∷ tonesystem ∷ retuning ∷ logic ∷ key ∷ root ∷ harmony ∷ unused ∷ letter ∷ name ∷ number ∷ equals ∷ colon ∷ plus ∷ minus
    ∷ times ∷ divide ∷ opening ∷ closing ∷ comma ∷ at ∷ brace_open ∷ brace_close ∷ bracket_open ∷ bracket_close ∷ width_open ∷ width_close ∷ arrow ∷ end ∷ nothing ∷ []

abbrev pub terminal_at : ℕ → Terminal
terminal_at t = get_or terminals t nothing

-- ---- actions

abbrev pub kinds : List Kind
kinds = Interval ∷ Tone ∷ System ∷ Retuning ∷ Logic ∷ AnOrder ∷ Harmony ∷ []

abbrev pub number_uses : List NumberUse
number_uses =
    RatioFirst ∷ RatioSecond ∷ Degree ∷ Radicand ∷ FirstFactor ∷ Factor ∷ Frequency ∷ AnchorKey ∷ Amount AnchorTo ∷ Amount AnchorUp
    ∷ Amount AnchorDown ∷ Amount WidthTo ∷ Amount WidthUp ∷ Amount WidthDown ∷ Amount WidthTimes ∷ Amount WidthOver ∷ Key ∷ StarredKey ∷ Argument ∷ []

abbrev pub name_uses : List NameUse
name_uses =
    Term ∷ Base ∷ Position ∷ Start ∷ Order ∷ Trigger ∷ CountedTrigger ∷ Placeholder ∷ NamedAmount AnchorTo ∷ NamedAmount AnchorUp
    ∷ NamedAmount AnchorDown ∷ NamedAmount WidthTo ∷ NamedAmount WidthUp ∷ NamedAmount WidthDown ∷ NamedAmount WidthTimes
    ∷ NamedAmount WidthOver ∷ []

abbrev pub mark_uses : List MarkUse
mark_uses = MutedPosition ∷ KeptPosition ∷ KeptAnchor ∷ KeptWidth ∷ Period ∷ Onward ∷ Star ∷ []

abbrev pub plain_actions : List Action
plain_actions = Pass ∷ Hold ∷ CountOrder ∷ Sign false ∷ Sign true ∷ Letter ∷ []

-- an action by its number: 32 for each class, and its place there
abbrev pub class_size : ℕ
class_size = 32

unfoldable pub action_at : ℕ → Action
action_at n =
    let i = n % class_size in
    let class = n / class_size in
    cond (eqb class 1) (Declare (get_or kinds i Interval))
    (cond (eqb class 2) (Held (get_or number_uses i RatioFirst))
    (cond (eqb class 3) (Number (get_or number_uses i RatioFirst))
    (cond (eqb class 4) (Name (get_or name_uses i Term))
    (cond (eqb class 5) (Mark (get_or mark_uses i MutedPosition))
    (get_or plain_actions i Pass)))))

-- ---- and the number of an action

abbrev pub kind_number : Kind → ℕ
kind_number Interval = 0
kind_number Tone = 1
kind_number System = 2
kind_number Retuning = 3
kind_number Logic = 4
kind_number AnOrder = 5
kind_number Harmony = 6

abbrev pub number_use_number : NumberUse → ℕ
number_use_number RatioFirst = 0
number_use_number RatioSecond = 1
number_use_number Degree = 2
number_use_number Radicand = 3
number_use_number FirstFactor = 4
number_use_number Factor = 5
number_use_number Frequency = 6
number_use_number AnchorKey = 7
number_use_number (Amount f) = 8 + form_number f
number_use_number Key = 16
number_use_number StarredKey = 17
number_use_number Argument = 18

abbrev pub name_use_number : NameUse → ℕ
name_use_number Term = 0
name_use_number Base = 1
name_use_number Position = 2
name_use_number Start = 3
name_use_number Order = 4
name_use_number Trigger = 5
name_use_number CountedTrigger = 6
name_use_number Placeholder = 7
name_use_number (NamedAmount f) = 8 + form_number f

abbrev pub mark_use_number : MarkUse → ℕ
mark_use_number MutedPosition = 0
mark_use_number KeptPosition = 1
mark_use_number KeptAnchor = 2
mark_use_number KeptWidth = 3
mark_use_number Period = 4
mark_use_number Onward = 5
mark_use_number Star = 6

abbrev pub sign_number : Bool → ℕ
sign_number false = 3
sign_number true = 4

abbrev pub action_number : Action → ℕ
action_number Pass = 0
action_number Hold = 1
action_number CountOrder = 2
action_number (Sign m) = sign_number m
action_number Letter = 5
action_number (Declare k) = 32 + kind_number k
action_number (Held u) = 64 + number_use_number u
action_number (Number u) = 96 + number_use_number u
action_number (Name u) = 128 + name_use_number u
action_number (Mark u) = 160 + mark_use_number u

-- ---- a move: a rule's action and its next node's number

abbrev pub Move : Type 0
Move = Action × ℕ

abbrev pub move_by : Option Rule → Option Move
move_by None = None
move_by (Some r) = Some (r.action, node_number r.next)

-- at the numbers of a node and of a terminal
unfoldable pub move_of : ℕ → ℕ → Option Move
move_of node terminal = move_by (picked (rules (node_at node)) (terminal_at terminal))

-- the numbers stand for the names: the move there is that of the rule which is picked by name (`moves_by_name` of proofs/Diagrams.antt)
abbrev pub MovesByName : Type 0
MovesByName = (n : Node) (t : Terminal) → move_of (node_number n) (terminal_number t) ≡ move_by (picked (rules n) t)

-- ---- the code's two tables: for each node (row) and terminal (column) the next node's number and the action's, 0 where there is no rule

abbrev pub node_count : ℕ
node_count = 83

abbrev pub terminal_count : ℕ
terminal_count = 31

abbrev pub next_by : Option Rule → ℕ
next_by None = 0
next_by (Some r) = node_number r.next

abbrev pub action_by : Option Rule → ℕ
action_by None = 0
action_by (Some r) = action_number r.action

abbrev pub next_entry : ℕ → ℕ
next_entry i = next_by (picked (rules (node_at (i / terminal_count))) (terminal_at (i % terminal_count)))

abbrev pub action_entry : ℕ → ℕ
action_entry i = action_by (picked (rules (node_at (i / terminal_count))) (terminal_at (i % terminal_count)))

-- the n entries that f gives from i on
abbrev pub tabulate : (ℕ → ℕ) → ℕ → ℕ → List ℕ
tabulate f i zero = []
tabulate f i (suc n) = f i ∷ tabulate f (suc i) n

unfoldable pub next_table : List ℕ
next_table = tabulate next_entry 0 (node_count * terminal_count)

unfoldable pub action_table : List ℕ
action_table = tabulate action_entry 0 (node_count * terminal_count)

-- what is lent as the tables of moves
pub record Moves (next acts : List ℕ) : Type 0 where
  pub nodes : next ≡ next_table
  pub actions : acts ≡ action_table
