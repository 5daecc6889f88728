-- Reading a text symbol by symbol into items: document 01, "Declarations", "Numbers allowed", and the numbers 2, 3, 4 and 9; document 02, 5/13 and 1/13.
use Rattle.std.specs.Prelude.{◌≡◌, Bool, true, false, cond, List, [], ◌∷◌, ℕ, ◌+◌, leb, length, Option, Some, None, Result, Ok, Err}
use Rattle.std.proofs.Math.Seq.{slice}
use Rattle.status.specs.declared.Reason.{Reason}
use Rattle.status.specs.declared.Reason.TheVariants.{SymbolNotAllowed, NumberOutOfRange, ItemTooMany}
use Rattle.status.specs.declared.Refusal.{Refusal}
use Rattle.status.specs.Reasons.{number_of}
use Rattle.status.specs.Status.{done, text_too_long, no_symbol, symbol_not_allowed}
use Rattle.numerals.specs.Numbers.{decimal_of, whole_of}
use Rattle.grammar.specs.declared.Kind.{Kind}
use Rattle.grammar.specs.declared.Kind.TheVariants.{Interval, Tone, System, Retuning, Logic, Order as AnOrder, Harmony}
use Rattle.grammar.specs.declared.Form.{Form}
use Rattle.grammar.specs.declared.Form.TheVariants.{AnchorTo, AnchorUp, AnchorDown, WidthTo, WidthUp, WidthDown, WidthTimes, WidthOver}
use Rattle.grammar.specs.declared.NumberUse.{NumberUse}
use Rattle.grammar.specs.declared.NumberUse.TheVariants.{RatioFirst, RatioSecond, Degree, Radicand, FirstFactor, Factor, Frequency, AnchorKey, Amount, Key, StarredKey, Argument}
use Rattle.grammar.specs.declared.NumberRange.{NumberRange}
use Rattle.grammar.specs.declared.NumberRange.TheVariants.{Decimal, Whole}
use Rattle.grammar.specs.declared.NameUse.{NameUse}
use Rattle.grammar.specs.declared.NameUse.TheVariants.{Term, Base, Position, Start, Order, Trigger, CountedTrigger, Placeholder, Amount as NamedAmount}
use Rattle.grammar.specs.declared.MarkUse.{MarkUse}
use Rattle.grammar.specs.declared.MarkUse.TheVariants.{MutedPosition, KeptPosition, KeptAnchor, KeptWidth, Period, Onward, Star}
use Rattle.grammar.specs.declared.Action.{Action}
use Rattle.grammar.specs.declared.Action.TheVariants.{Pass, Declare, Hold, Held, Number, Sign, Name, Mark, Letter, CountOrder}
use Rattle.grammar.specs.declared.Item.{Item}
use Rattle.grammar.specs.declared.Item.TheVariants as item
use Rattle.grammar.specs.declared.Counts.{Counts}
use Rattle.grammar.specs.declared.FirstNumber.{FirstNumber}
use Rattle.grammar.specs.declared.NextTerm.{NextTerm}
use Rattle.grammar.specs.declared.Progress.{Progress}
use Rattle.grammar.specs.declared.Span.{Span}
use Rattle.grammar.specs.declared.Stopped.{Stopped}
use Rattle.symbols.specs.Symbols.{symbols}
use Rattle.symbols.specs.declared.Symbol.{Symbol}
use Rattle.grammar.specs.Syntax.{Terminal, Node, Begin, Rule, rules}
use Rattle.sets.specs.Sets.{has, added}
use Rattle.limits.specs.Limits.{least_degree, most_degree, most_factor, most_anchor, most_amount, least_divisor, most_intervals, most_tone_names, most_systems, most_logics, most_retunings, most_orders, most_harmonies, most_harmony_key, most_harmony_keys, most_placeholders}
pub use Rattle.limits.specs.Limits.{most_bytes, most_terms, most_positions}
use Rattle.grammar.specs.Terminals.{terminal_of, start_of, span_of, is_nothing, picked, letter_at}

-- ---- "Numbers allowed"

-- "n in anchor and width retunings: whole, 0 to 9,999; after `/` from 1"
abbrev pub allowed_amount : Form → NumberRange
allowed_amount AnchorTo = Whole 0 most_amount
allowed_amount AnchorUp = Whole 0 most_amount
allowed_amount AnchorDown = Whole 0 most_amount
allowed_amount WidthTo = Whole 0 most_amount
allowed_amount WidthUp = Whole 0 most_amount
allowed_amount WidthDown = Whole 0 most_amount
allowed_amount WidthTimes = Whole 0 most_amount
allowed_amount WidthOver = Whole least_divisor most_amount

-- a number by its use: "ratio parts, radicand, frequency .. at most four places", "root degree: whole, 1 to 65,535", "factor: whole, 0 to 999",
-- "anchor in a tone system: whole, 0 to 127"; of a harmony "key numbers from 0 to 59"; of a call "whole numbers from 0 to 9,999"
abbrev pub allowed : NumberUse → NumberRange
allowed RatioFirst = Decimal
allowed RatioSecond = Decimal
allowed Radicand = Decimal
allowed Frequency = Decimal
allowed Degree = Whole least_degree most_degree
allowed FirstFactor = Whole 0 most_factor
allowed Factor = Whole 0 most_factor
allowed AnchorKey = Whole 0 most_anchor
allowed (Amount f) = allowed_amount f
allowed Key = Whole 0 most_harmony_key
allowed StarredKey = Whole 0 most_harmony_key
allowed Argument = Whole 0 most_amount

-- the value of the number that these bytes write, if it is in a range
abbrev pub number_in : NumberRange → List ℕ → Option ℕ
number_in Decimal bytes = decimal_of bytes
number_in (Whole low high) bytes = whole_of low high bytes

abbrev pub judged : NumberUse → List ℕ → Option ℕ
judged u bytes = number_in (allowed u) bytes

-- "intervals, tones: 256 each; tone systems, logics: 32 each; retunings: 128; orders in all logics together: 512"; "at most 64 harmonies"
abbrev pub limit : Kind → ℕ
limit Interval = most_intervals
limit Tone = most_tone_names
limit System = most_systems
limit Retuning = most_retunings
limit Logic = most_logics
limit AnOrder = most_orders
limit Harmony = most_harmonies

-- ---- progress, with one part changed

abbrev pub so_far : Kind → Counts → ℕ
so_far Interval c = c.intervals
so_far Tone c = c.tones
so_far System c = c.systems
so_far Retuning c = c.retunings
so_far Logic c = c.logics
so_far AnOrder c = c.orders
so_far Harmony c = c.harmonies

abbrev pub one_more : Kind → Counts → Counts
one_more Interval c = record { intervals = c.intervals + 1; tones = c.tones; systems = c.systems; retunings = c.retunings; logics = c.logics; orders = c.orders; harmonies = c.harmonies }
one_more Tone c = record { intervals = c.intervals; tones = c.tones + 1; systems = c.systems; retunings = c.retunings; logics = c.logics; orders = c.orders; harmonies = c.harmonies }
one_more System c = record { intervals = c.intervals; tones = c.tones; systems = c.systems + 1; retunings = c.retunings; logics = c.logics; orders = c.orders; harmonies = c.harmonies }
one_more Retuning c = record { intervals = c.intervals; tones = c.tones; systems = c.systems; retunings = c.retunings + 1; logics = c.logics; orders = c.orders; harmonies = c.harmonies }
one_more Logic c = record { intervals = c.intervals; tones = c.tones; systems = c.systems; retunings = c.retunings; logics = c.logics + 1; orders = c.orders; harmonies = c.harmonies }
one_more AnOrder c = record { intervals = c.intervals; tones = c.tones; systems = c.systems; retunings = c.retunings; logics = c.logics; orders = c.orders + 1; harmonies = c.harmonies }
one_more Harmony c = record { intervals = c.intervals; tones = c.tones; systems = c.systems; retunings = c.retunings; logics = c.logics; orders = c.orders; harmonies = c.harmonies + 1 }

abbrev pub with_first : FirstNumber → Progress → Progress
with_first n s = record { first = n; term = s.term; positions = s.positions; keys = s.keys; bracketed = s.bracketed; counts = s.counts }

abbrev pub with_term : NextTerm → Progress → Progress
with_term t s = record { first = s.first; term = t; positions = s.positions; keys = s.keys; bracketed = s.bracketed; counts = s.counts }

abbrev pub with_positions : ℕ → Progress → Progress
with_positions n s = record { first = s.first; term = s.term; positions = n; keys = s.keys; bracketed = s.bracketed; counts = s.counts }

-- the key numbers that the harmony under way has named so far, as a set
abbrev pub with_keys : ℕ → Progress → Progress
with_keys k s = record { first = s.first; term = s.term; positions = s.positions; keys = k; bracketed = s.bracketed; counts = s.counts }

-- how many names or numbers the brackets under way have so far
abbrev pub with_bracketed : ℕ → Progress → Progress
with_bracketed n s = record { first = s.first; term = s.term; positions = s.positions; keys = s.keys; bracketed = n; counts = s.counts }

abbrev pub with_counts : Counts → Progress → Progress
with_counts c s = record { first = s.first; term = s.term; positions = s.positions; keys = s.keys; bracketed = s.bracketed; counts = c }

-- an interval's first number: held from its place to the place after it, then judged
abbrev pub held_first : Span → Progress → Progress
held_first x s = with_first (record { start = x.start; end = x.end; value = 0 }) s

abbrev pub judged_first : ℕ → Progress → Progress
judged_first v s = with_first (record { start = s.first.start; end = s.first.end; value = v }) s

-- the term after n others, with its sign and its factor
abbrev pub next_term : Bool → ℕ → ℕ → Progress → Progress
next_term m v n s = with_term (record { minus = m; factor = v; before = n }) s

-- no term yet: a plus and the factor 1, unless the text says otherwise
abbrev pub no_term : Progress → Progress
no_term s = next_term false 1 0 s

-- ---- what each action does at the symbol x

-- a refusal, or what reading keeps from then on, perhaps with an item
abbrev pub Outcome : Type 0
Outcome = Result (Progress × Option Item) Refusal

abbrev pub refusal : Reason → ℕ → Refusal
refusal r p = record { reason = r; place = p }

-- "one more item than allowed; its first symbol"
abbrev pub unless_full : ℕ → ℕ → Span → Outcome → Outcome
unless_full most n x o = cond (leb most n) (Err (refusal ItemTooMany x.start)) o

-- a declaration begins with its name; there is no term, no position, no key and no placeholder yet
abbrev pub counted : Progress → Kind → Item → Span → Outcome
counted s k i x =
    unless_full (limit k) (so_far k s.counts) x (Ok (with_counts (one_more k s.counts) (with_bracketed 0 (with_keys 0 (with_positions 0 (no_term s)))), Some i))

-- an order begins with KEY, or with the name of its harmony
abbrev pub order_counted : Progress → Span → Outcome → Outcome
order_counted s x o = unless_full (limit AnOrder) (so_far AnOrder s.counts) x o

abbrev pub with_order : Progress → Progress
with_order s = with_counts (one_more AnOrder s.counts) s

-- a sign belongs to its term
abbrev pub signed : Progress → Bool → Span → Outcome
signed s m x = unless_full most_terms s.term.before x (Ok (next_term m 1 s.term.before s, None))

abbrev pub term_item : Bool → ℕ → ℕ → Item
term_item true factor place = item.Subtract factor place
term_item false factor place = item.Add factor place

-- a term ends with its interval's name
abbrev pub termed : Progress → ℕ → Span → Outcome
termed s factor x = Ok (next_term false 1 (s.term.before + 1) s, Some (term_item s.term.minus factor x.start))

-- a position of a list, with no terms yet; "(empty: the mark after)"
abbrev pub positioned : Progress → Item → Span → Outcome
positioned s i x = unless_full most_positions s.positions x (Ok (with_positions (s.positions + 1) (no_term s), Some i))

-- a key of a harmony: "at most 64 harmonies of at most 60 keys"
abbrev pub key_counted : Progress → Span → Outcome → Outcome
key_counted s x o = unless_full most_harmony_keys s.positions x o

abbrev pub with_key : ℕ → Progress → Progress
with_key v s = with_keys (added s.keys v) (with_positions (s.positions + 1) s)

-- "3 also for .. a number named twice"; its number begins a key, unless a star does
abbrev pub key_named : Progress → ℕ → Item → Span → Outcome
key_named s v i x = cond (has s.keys v) (Err (refusal SymbolNotAllowed x.start)) (key_counted s x (Ok (with_key v s, Some i)))

-- document 02, 1/13: a placeholder's name, or a number that a call gives: "9 for a fifth name or number"
abbrev pub in_brackets : Progress → Item → Span → Outcome
in_brackets s i x = unless_full most_placeholders s.bracketed x (Ok (with_bracketed (s.bracketed + 1) s, Some i))

-- what is called, by the place of its name, which stays in the item where its meaning is put for the other; it gives no number yet
abbrev pub called : Progress → Item → Outcome
called s i = Ok (with_bracketed 0 s, Some i)

abbrev pub named : Progress → NameUse → Span → Outcome
named s Term x = termed s s.term.factor x
named s Base x = Ok (s, Some (item.Base x.start))
named s Position x = positioned s (item.TonePosition x.start) x
named s Start x = called s (item.Start x.start x.start)
named s Order x = called s (item.Order x.start x.start)
named s Trigger x = Ok (s, Some (item.Trigger x.start))
named s CountedTrigger x = order_counted s x (Ok (with_order s, Some (item.Trigger x.start)))
named s Placeholder x = in_brackets s (item.Placeholder x.start) x
named s (NamedAmount f) x = Ok (s, Some (item.AmountName f x.start))

abbrev pub marked : Progress → MarkUse → Span → Outcome
marked s MutedPosition x = positioned s item.MutedPosition x
marked s KeptPosition x = positioned s item.KeptPosition x
marked s KeptAnchor x = Ok (s, Some item.AnchorKept)
marked s KeptWidth x = Ok (s, Some item.WidthKept)
marked s Period x = Ok (s, Some item.Period)
marked s Onward x = Ok (s, Some item.Onward)
marked s Star x = key_counted s x (Ok (s, None))

-- a number of which the value is allowed, at the symbol x
abbrev pub used : Progress → NumberUse → ℕ → Span → Outcome
used s RatioFirst v x = Ok (judged_first v s, None)
used s RatioSecond v x = Ok (s, Some (item.Ratio s.first.value v))
used s Degree v x = Ok (judged_first v s, None)
used s Radicand v x = Ok (s, Some (item.Root s.first.value v))
used s FirstFactor v x = termed s v x
used s Factor v x = Ok (next_term s.term.minus v s.term.before s, None)
used s Frequency v x = Ok (s, Some (item.Frequency v))
used s AnchorKey v x = Ok (s, Some (item.AnchorKey v))
used s (Amount f) v x = Ok (s, Some (item.Amount f v))
used s Key v x = key_named s v (item.Key v) x
used s StarredKey v x = key_named s v (item.StarredKey v) x
used s Argument v x = in_brackets s (item.Argument v) x

-- "number out of range, too many places, or a point where whole is asked; its place": the number from `start` to `end`
abbrev pub if_allowed : Progress → NumberUse → ℕ → Span → Option ℕ → Outcome
if_allowed s u start x None = Err (refusal NumberOutOfRange start)
if_allowed s u start x (Some v) = used s u v x

abbrev pub numbered : List ℕ → Progress → NumberUse → ℕ → ℕ → Span → Outcome
numbered text s u start end x = if_allowed s u start x (judged u (slice start end text))

-- what is done at the symbol x
unfoldable pub acted : List ℕ → Progress → Action → Span → Outcome
acted text s Pass x = Ok (s, None)
acted text s (Declare k) x = counted s k (item.Declared k x.start) x
acted text s Hold x = Ok (held_first x s, None)
acted text s (Held u) x = numbered text s u s.first.start s.first.end x
acted text s (Number u) x = numbered text s u x.start x.end x
acted text s (Sign m) x = signed s m x
acted text s (Name u) x = named s u x
acted text s (Mark u) x = marked s u x
acted text s Letter x = Ok (s, Some (item.Letter (letter_at text x)))
acted text s CountOrder x = order_counted s x (Ok (with_order s, None))

-- ---- one symbol

-- where reading stands: at a node of the diagrams, with what it keeps of the symbols before
pub record Standing : Type 0 where
  pub node : Node
  pub kept : Progress

abbrev pub standing : Node → Progress → Standing
standing n s = record { node = n; kept = s }

-- what a symbol leads to: a refusal's number and place, or where reading stands after it, perhaps with an item
pub data Moved : Type 0 where
  refuse : ℕ → ℕ → Moved
  go : Standing → Moved
  give : Standing → Item → Moved

abbrev pub goes_to : Standing → Option Item → Moved
goes_to s None = go s
goes_to s (Some i) = give s i

-- after what is done, the next node
abbrev pub then_at : Node → Outcome → Moved
then_at n (Ok kept) = goes_to (standing n kept.0) kept.1
then_at n (Err e) = refuse (number_of e.reason) e.place

-- where there is no rule: "symbol that no continuation allows; its place", or 2 where there is no symbol
abbrev pub not_allowed : Terminal → ℕ
not_allowed t = cond (is_nothing t) no_symbol symbol_not_allowed

abbrev pub by_rule : List ℕ → Progress → Symbol → Option Rule → Moved
by_rule text s y None = refuse (not_allowed (terminal_of text y)) (start_of y)
by_rule text s y (Some r) = then_at r.next (acted text s r.action (span_of y))

unfoldable pub stepped : List ℕ → Standing → Symbol → Moved
stepped text s y = by_rule text s.kept y (picked (rules s.node) (terminal_of text y))

-- ---- a whole text

-- what is read: the items, and the refusal's number and place, or 0 and 0
pub record Read : Type 0 where
  pub items : List Item
  pub number : ℕ
  pub place : ℕ

abbrev pub begun : Standing
begun = record {
  node = Begin;
  kept = record {
    first = record { start = 0; end = 0; value = 0 };
    term = record { minus = false; factor = 1; before = 0 };
    positions = 0;
    keys = 0;
    bracketed = 0;
    counts = record { intervals = 0; tones = 0; systems = 0; retunings = 0; logics = 0; orders = 0; harmonies = 0 };
  };
}

abbrev pub with : Item → Read → Read
with i r = record { items = i ∷ r.items; number = r.number; place = r.place }

abbrev pub refused_at : ℕ → ℕ → Read
refused_at n p = record { items = []; number = n; place = p }

-- nothing is left to read
abbrev pub read_whole : Read
read_whole = record { items = []; number = done; place = 0 }

-- the rest of the symbols. The last of them is the text's end, which leads to `Finish`, and no other symbol does (`finish_at_end`, `end_at_finish` of
-- proofs/Diagrams.antt), or a place where no symbol begins, which is refused (`none_at_nothing`).
unfoldable pub read_from : List ℕ → Standing → List Symbol → Read
read_from text s [] = read_whole
read_from text s (y ∷ ys) =
    elim (stepped text s y) [ refuse n p ↦ refused_at n p | go t ↦ read_from text t ys | give t i ↦ with i (read_from text t ys) ]

unfoldable pub read_items : List ℕ → Read
read_items text = cond (leb (length text) most_bytes) (read_from text begun (symbols text)) (refused_at text_too_long 0)

-- as a call answers it: how many items there are, and, where it ends before the text does, the refusal
abbrev pub Answered : Read → Result ℕ Stopped → Type 0
Answered r (Ok count) = (count ≡ length r.items) × (r.number ≡ done) × (r.place ≡ 0)
Answered r (Err e) = (e.count ≡ length r.items) × (r.number ≡ number_of e.refusal.reason) × (r.place ≡ e.refusal.place)
