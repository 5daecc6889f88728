-- The items that a text is read into are declarable: the declared names are no more than a text may have, and stand in it.
-- Assumes nothing.
use Prim.Native.Nat.{ℕ, zero, suc, ◌+◌, ◌≤◌, ◌<◌}
use mathlib.Core.Bool.{Bool, true, false, cond}
use mathlib.Core.List.{List, [], ◌∷◌, ◌++◌}
use Rattle.status.specs.declared.Reason.TheVariants.{SymbolNotAllowed, ItemTooMany}
use Rattle.std.specs.Prelude.{Option, Some, None, Ok, Err}
use mathlib.Core.Path.{◌≡◌, refl}
use native.Mathlib.Omega.{arith}
use borrow.Author.Tests.{leb-true, leb-false}
use lib.Dec.{T, leb}
use lib.ListN.{length, length-append}
use lib.Seq.{slice}
use Rattle.limits.specs.Limits.{most_harmony_keys, most_placeholders}
use Rattle.sets.specs.Sets.{has}
use Rattle.status.specs.Status.{text_too_long}
use Rattle.symbols.specs.declared.Symbol.{Symbol}
use Rattle.symbols.specs.declared.Symbol.TheVariants as symbol
use Rattle.symbols.specs.Symbols.{next_symbol, after, cut, symbols_from, symbols}
use Rattle.symbols.proofs.Progress.{Placed as StandsFrom, next_placed, after_within}
use Rattle.grammar.specs.declared.Kind.{Kind}
use Rattle.grammar.specs.declared.Kind.TheVariants.{Interval, Tone, System, Retuning, Logic, Order as AnOrder, Harmony}
use Rattle.grammar.specs.declared.NumberUse.{NumberUse}
use Rattle.grammar.specs.declared.NumberUse.TheVariants.{RatioFirst, RatioSecond, Degree, Radicand, FirstFactor, Factor, Frequency, AnchorKey, Amount, Key, StarredKey, Argument}
use Rattle.grammar.specs.declared.NameUse.TheVariants.{Term, Base, Position, Start, Order, Trigger, CountedTrigger, Placeholder, Amount as NamedAmount}
use Rattle.grammar.specs.declared.MarkUse.TheVariants.{MutedPosition, KeptPosition, KeptAnchor, KeptWidth, Period, Onward, Star}
use Rattle.grammar.specs.declared.Action.{Action}
use Rattle.grammar.specs.declared.Action.TheVariants.{Pass, Declare, Hold, Held, Number, Sign, Name, Mark, Letter, CountOrder}
use Rattle.grammar.specs.declared.Item.{Item}
use Rattle.grammar.specs.declared.Item.TheVariants as item
use Rattle.grammar.specs.declared.Counts.{Counts}
use Rattle.grammar.specs.declared.Progress.{Progress}
use Rattle.grammar.specs.declared.Span.{Span}
use Rattle.grammar.specs.declared.terminals.Terminal.{Terminal}
use Rattle.grammar.specs.Syntax.{Node, Rule, rules}
use Rattle.grammar.specs.Terminals.{picked, terminal_of, start_of, span_of}
use Rattle.grammar.specs.Reading.{Outcome, refusal, Read, limit, so_far, one_more, most_terms, most_positions, next_term, with_counts, with_positions, with_keys, with_key, with_bracketed, in_brackets, no_term, unless_full, key_counted, key_named, order_counted, counted, term_item, termed, positioned, used, judged, if_allowed, numbered, acted, Standing, Moved, then_at, by_rule, stepped, begun, with, refused_at, read_from, most_bytes, read_items}
use Rattle.grammar.specs.Reading as reading
use Rattle.grammar.proofs.Table.{each}
use Rattle.grammar.proofs.Diagrams.{at_each, picked_of}
use Rattle.names.specs.Parts.{Part, declares, gives, uses, says, part}
use Rattle.names.specs.Names.{Named, named_by, declared}
use Rattle.names.specs.Inner.{InText, most_declarations, Declarable}

-- ---- the counts

total : Counts → ℕ
total c = c.intervals + c.tones + c.systems + c.retunings + c.logics + c.harmonies

-- no count of declarations is over its limit
record Limited (c : Counts) : Type 0 where
  intervals : c.intervals ≤ limit Interval
  tones : c.tones ≤ limit Tone
  systems : c.systems ≤ limit System
  retunings : c.retunings ≤ limit Retuning
  logics : c.logics ≤ limit Logic
  harmonies : c.harmonies ≤ limit Harmony

-- from one count to the next, with the names ds that are declared at the place p
record Counting (c d : Counts) (p : ℕ) (ds : List Named) : Type 0 where
  limits : Limited c → Limited d
  adds : total d ≡ total c + length ds
  places : p ≤ most_bytes → InText ds

same : {c : Counts} {p : ℕ} → Counting c c p []
same = record { limits = λ w. w; adds = omega arith; places = λ _. tt }

-- an order is no declaration
is_name : Kind → Bool
is_name Interval = true
is_name Tone = true
is_name System = true
is_name Retuning = true
is_name Logic = true
is_name AnOrder = false
is_name Harmony = true

one_more_holds : (k : Kind) (c : Counts) (p : ℕ) → T (is_name k) → so_far k c < limit k → Counting c (one_more k c) p (record { kind = k; place = p } ∷ [])
unfolding total is_name
one_more_holds Interval c p t h = record { limits = λ w. omega arith; adds = omega arith; places = λ q. (q, tt) }
one_more_holds Tone c p t h = record { limits = λ w. omega arith; adds = omega arith; places = λ q. (q, tt) }
one_more_holds System c p t h = record { limits = λ w. omega arith; adds = omega arith; places = λ q. (q, tt) }
one_more_holds Retuning c p t h = record { limits = λ w. omega arith; adds = omega arith; places = λ q. (q, tt) }
one_more_holds Logic c p t h = record { limits = λ w. omega arith; adds = omega arith; places = λ q. (q, tt) }
one_more_holds AnOrder c p t h = absurd t
one_more_holds Harmony c p t h = record { limits = λ w. omega arith; adds = omega arith; places = λ q. (q, tt) }

order_apart : {c : Counts} {p : ℕ} → Counting c (one_more AnOrder c) p []
unfolding total
order_apart =
    record { limits = λ w. omega arith; adds = omega arith; places = λ _. tt }

-- ---- what each action counts at the symbol x

abbrev Counts' : Counts → ℕ → Outcome → Type 0
Counts' c p (Err e) = Unit {0}
Counts' c p (Ok (t, None)) = Counting c t.counts p []
Counts' c p (Ok (t, Some i)) = Counting c t.counts p (named_by (part i) [])

full_counts : (c : Counts) (p most n : ℕ) (x : Span) (o : Outcome) → (n < most → Counts' c p o) → Counts' c p (unless_full most n x o)
full_counts c p most n x o h = go (leb most n) refl
  where
    go : (b : Bool) → leb most n ≡ b → Counts' c p (cond b (Err (refusal ItemTooMany x.start)) o)
    go true e = tt
    go false e = h (leb-false most n e)

module _ (s : Progress) (x : Span) where
  abbrev Fine : Outcome → Type 0
  Fine o = Counts' s.counts x.start o

  counted_counts : (k : Kind) → T (is_name k) → Fine (counted s k (item.Declared k x.start) x)
  counted_counts k t =
      full_counts s.counts x.start (limit k) (so_far k s.counts) x
      (Ok (with_counts (one_more k s.counts) (with_bracketed 0 (with_keys 0 (with_positions 0 (no_term s)))), Some (item.Declared k x.start)))
      (one_more_holds k s.counts x.start t)

  term_counts : (f : ℕ) → Fine (termed s f x)
  term_counts f = go s.term.minus
    where
      go : (m : Bool) → Counting s.counts s.counts x.start (named_by (part (term_item m f x.start)) [])
      go true = same
      go false = same

  key_counts : (v : ℕ) (i : Item) → named_by (part i) [] ≡ [] → Fine (key_named s v i x)
  key_counts v i e = go (has s.keys v)
    where
      go : (b : Bool) → Fine (cond b (Err (refusal SymbolNotAllowed x.start)) (key_counted s x (Ok (with_key v s, Some i))))
      go true = tt
      go false = full_counts s.counts x.start most_harmony_keys s.positions x (Ok (with_key v s, Some i)) (λ _. rw e same)

  order_counts : (o : Outcome) → Fine o → Fine (order_counted s x o)
  order_counts o h = full_counts s.counts x.start (limit AnOrder) (so_far AnOrder s.counts) x o (λ _. h)

  bracketed_counts : (i : Item) → named_by (part i) [] ≡ [] → Fine (in_brackets s i x)
  bracketed_counts i e =
      full_counts s.counts x.start most_placeholders s.bracketed x (Ok (with_bracketed (s.bracketed + 1) s, Some i)) (λ _. rw e same)

  used_counts : (u : NumberUse) (v : ℕ) → Fine (used s u v x)
  used_counts RatioFirst v = same
  used_counts RatioSecond v = same
  used_counts Degree v = same
  used_counts Radicand v = same
  used_counts FirstFactor v = term_counts v
  used_counts Factor v = same
  used_counts Frequency v = same
  used_counts AnchorKey v = same
  used_counts (Amount f) v = same
  used_counts Key v = key_counts v _ refl
  used_counts StarredKey v = key_counts v _ refl
  used_counts Argument v = bracketed_counts _ refl

  numbered_counts : (text : List ℕ) (u : NumberUse) (a b : ℕ) → Fine (numbered text s u a b x)
  numbered_counts text u a b = go (judged u (slice a b text))
    where
      go : (v : Option ℕ) → Fine (if_allowed s u a x v)
      go None = tt
      go (Some v) = used_counts u v

  positioned_counts : (i : Item) → named_by (part i) [] ≡ [] → Fine (positioned s i x)
  positioned_counts i e =
      full_counts s.counts x.start most_positions s.positions x (Ok (with_positions (s.positions + 1) (no_term s), Some i)) (λ _. rw e same)

-- an action that declares nothing but names
is_fit : Action → Bool
is_fit Pass = true
is_fit (Declare k) = is_name k
is_fit Hold = true
is_fit (Held u) = true
is_fit (Number u) = true
is_fit (Sign m) = true
is_fit (Name u) = true
is_fit (Mark u) = true
is_fit Letter = true
is_fit CountOrder = true

acted_counts : (text : List ℕ) (s : Progress) (a : Action) (x : Span) → T (is_fit a) → Counts' s.counts x.start (acted text s a x)
unfolding acted is_fit
acted_counts text s Pass x t = same
acted_counts text s (Declare k) x t = counted_counts s x k t
acted_counts text s Hold x t = same
acted_counts text s (Held u) x t = numbered_counts s x text u s.first.start s.first.end
acted_counts text s (Number u) x t = numbered_counts s x text u x.start x.end
acted_counts text s (Sign m) x t =
    full_counts s.counts x.start most_terms s.term.before x (Ok (next_term m 1 s.term.before s, None)) (λ _. same)
acted_counts text s (Name Term) x t = term_counts s x s.term.factor
acted_counts text s (Name Base) x t = same
acted_counts text s (Name Position) x t = positioned_counts s x _ refl
acted_counts text s (Name Start) x t = same
acted_counts text s (Name Order) x t = same
acted_counts text s (Name Trigger) x t = same
acted_counts text s (Name Placeholder) x t = bracketed_counts s x _ refl
acted_counts text s (Name (NamedAmount f)) x t = same
acted_counts text s (Name CountedTrigger) x t = order_counts s x _ order_apart
acted_counts text s (Mark MutedPosition) x t = positioned_counts s x _ refl
acted_counts text s (Mark KeptPosition) x t = positioned_counts s x _ refl
acted_counts text s (Mark KeptAnchor) x t = same
acted_counts text s (Mark KeptWidth) x t = same
acted_counts text s (Mark Period) x t = same
acted_counts text s (Mark Onward) x t = same
acted_counts text s (Mark Star) x t = full_counts s.counts x.start most_harmony_keys s.positions x (Ok (s, None)) (λ _. same)
acted_counts text s Letter x t = same
acted_counts text s CountOrder x t = order_counts s x _ order_apart

-- ---- a step along the diagrams, whose rules declare nothing but names

rule_fit : Rule → Bool
rule_fit r = is_fit r.action

rules_fit : Node → Bool
rules_fit q = each rule_fit (rules q)

fit_rule : (n : Node) (t : Terminal) {r : Rule} → picked (rules n) t ≡ Some r → T (is_fit r.action)
unfolding rules_fit rule_fit rules is_fit is_name
fit_rule n t e = (picked_of rule_fit (rules n) t (at_each rules_fit tt tt n) e).0

-- what a step counts
abbrev StepCounts : Counts → ℕ → Moved → Type 0
StepCounts c p (reading.refuse n q) = Unit {0}
StepCounts c p (reading.go t) = Counting c t.kept.counts p []
StepCounts c p (reading.give t i) = Counting c t.kept.counts p (named_by (part i) [])

step_counts : (text : List ℕ) (s : Standing) (y : Symbol) → StepCounts s.kept.counts (start_of y) (stepped text s y)
unfolding stepped
step_counts text s y = go (picked (rules s.node) (terminal_of text y)) refl
  where
    next : (n : Node) (o : Outcome) → Counts' s.kept.counts (start_of y) o → StepCounts s.kept.counts (start_of y) (then_at n o)
    next n (Err e) h = tt
    next n (Ok (t, None)) h = h
    next n (Ok (t, Some i)) h = h

    go : (o : Option Rule) → picked (rules s.node) (terminal_of text y) ≡ o → StepCounts s.kept.counts (start_of y) (by_rule text s.kept y o)
    go None e = tt
    go (Some r) e =
        next r.next (acted text s.kept r.action (span_of y))
        (acted_counts text s.kept r.action (span_of y) (fit_rule s.node (terminal_of text y) e))

-- ---- a whole text

-- each symbol stands in the text
abbrev Starts : List Symbol → Type 0
Starts [] = Unit {0}
Starts (y ∷ ys) = (start_of y ≤ most_bytes) × Starts ys

cut_starts : (text : List ℕ) → length text ≤ most_bytes → (n at : ℕ) → at ≤ length text → Starts (cut n text at)
unfolding cut
cut_starts text h zero at w = tt
cut_starts text h (suc n) at w =
    (begins (next_symbol text at) (next_placed text at w), on (after (next_symbol text at)) refl (cut_starts text h n))
  where
    begins : (y : Symbol) → StandsFrom text at y → start_of y ≤ most_bytes
    begins (symbol.Bad p) q = omega arith
    begins (symbol.End p) q = omega arith
    begins (symbol.Name a b) q = omega arith
    begins (symbol.Number a b) q = omega arith
    begins (symbol.Mark k a b) q = omega arith

    on : (o : Option ℕ) → after (next_symbol text at) ≡ o → ((e : ℕ) → e ≤ length text → Starts (cut n text e))
        → Starts (elim o [ None ↦ [] | Some end ↦ cut n text end ])
    on None e later = tt
    on (Some end) e later = later end (after_within text at w e).1

names_front : (q : Part) (ds : List Named) → named_by q ds ≡ named_by q [] ++ ds
names_front (declares k p) ds = refl
names_front (gives g a b) ds = refl
names_front (uses u a p) ds = refl
names_front (says m) ds = refl

in_text_both : (ds es : List Named) → InText ds → InText es → InText (ds ++ es)
in_text_both [] es h k = k
in_text_both (d ∷ ds) es h k = (h.0, in_text_both ds es h.1 k)

-- the names that are left to declare
record Left (c : Counts) (ds : List Named) : Type 0 where
  few : total c + length ds ≤ most_declarations
  in_text : InText ds

none_left : (c : Counts) → Limited c → Left c []
unfolding total
none_left c w = record { few = omega arith; in_text = tt }

some_left : {c d : Counts} {p : ℕ} (ds : List Named) {es : List Named} → Counting c d p ds → p ≤ most_bytes → Left d es → Left c (ds ++ es)
some_left ds {es} w h l =
    let a = w.adds in
    let f = l.few in
    record { few = simp length-append (omega arith); in_text = in_text_both ds es (w.places h) l.in_text }

abbrev items_of : Read → List Item
items_of r = r.items

read_left : (text : List ℕ) (ys : List Symbol) (s : Standing) → Starts ys → Limited s.kept.counts
    → Left s.kept.counts (declared (read_from text s ys).items)
unfolding read_from declared
read_left text [] s h w = none_left s.kept.counts w
read_left text (y ∷ ys) s h w = go (stepped text s y) (step_counts text s y) (λ t. read_left text ys t h.1)
  where
    go : (o : Moved) → StepCounts s.kept.counts (start_of y) o
        → ((t : Standing) → Limited t.kept.counts → Left t.kept.counts (declared (read_from text t ys).items))
        → Left s.kept.counts (declared (items_of (elim o [
          | reading.refuse n p ↦ refused_at n p
          | reading.go t ↦ read_from text t ys
          | reading.give t i ↦ with i (read_from text t ys)
        ])))
    go (reading.refuse n p) c later = none_left s.kept.counts w
    go (reading.go t) c later = some_left [] c h.0 (later t (c.limits w))
    go (reading.give t i) c later = rw names_front (some_left (named_by (part i) []) c h.0 (later t (c.limits w)))

pub read_declarable : (text : List ℕ) → Declarable (read_items text).items
unfolding read_items symbols symbols_from declared total
read_declarable text = go (leb (length text) most_bytes) refl
  where
    short : length text ≤ most_bytes → Declarable (read_from text begun (symbols text)).items
    short h =
        let l = read_left text (symbols text) begun (cut_starts text h (length text + 1) 0 (omega arith)) (omega arith) in
        let f = l.few in
        record { few = omega arith; in_text = l.in_text }

    go : (b : Bool) → leb (length text) most_bytes ≡ b → Declarable (cond b (read_from text begun (symbols text)) (refused_at text_too_long 0)).items
    go true e = short (leb-true (length text) most_bytes e)
    go false e = record { few = omega arith; in_text = tt }
