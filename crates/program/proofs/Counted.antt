-- A text has no more declarations of a kind, and no more orders, than are allowed: each is counted before it is given.
-- Assumes nothing.
use mathlib.Core.Path.{◌≡◌, refl, sym, ◌∙◌, ap}
use mathlib.Core.Bool.{Bool, true, false, cond, ◌&&◌}
use mathlib.Core.List.{List}
use Rattle.status.specs.declared.Reason.TheVariants.{SymbolNotAllowed}
use Rattle.status.specs.declared.Refusal.{Refusal}
use Rattle.std.specs.Prelude.{Some, None, Ok, Err}
use Prim.Native.Nat.{ℕ, suc, ◌+◌, ◌-◌, ◌≤◌, ◌<◌}
use native.Mathlib.Omega.{arith}
use borrow.Author.Tests.{eqb-true}
use lib.Dec.{leb, eqb, leb→le}
use Rattle.limits.specs.Limits.{most_harmony_keys, most_placeholders}
use Rattle.sets.specs.Sets.{has}
use Rattle.status.specs.Status.{done}
use Rattle.grammar.specs.declared.Kind.{Kind}
use Rattle.grammar.specs.declared.Kind.TheVariants.{Interval, Tone, System, Retuning, Logic, Order as AnOrder, Harmony}
use Rattle.grammar.specs.declared.NumberUse.{NumberUse}
use Rattle.grammar.specs.declared.NumberUse.TheVariants.{RatioFirst, RatioSecond, Degree, Radicand, FirstFactor, Factor, Frequency, AnchorKey, Amount, Key, StarredKey, Argument}
use Rattle.grammar.specs.declared.NameUse.TheVariants.{Term, Base, Position, Start, Order, Trigger, CountedTrigger, Placeholder, Amount as NamedAmount}
use Rattle.grammar.specs.declared.MarkUse.TheVariants.{MutedPosition, KeptPosition, KeptAnchor, KeptWidth, Period, Onward, Star}
use Rattle.grammar.specs.declared.Action.{Action}
use Rattle.grammar.specs.declared.Action.TheVariants.{Pass, Declare, Hold, Held, Number, Sign, Name, Mark, Letter, CountOrder}
use Rattle.grammar.specs.declared.Item.{Item}
use Rattle.grammar.specs.declared.Item.TheVariants as item
use Rattle.grammar.specs.declared.Counts.{Counts}
use Rattle.grammar.specs.declared.Progress.{Progress}
use Rattle.grammar.specs.declared.Span.{Span}
use Rattle.grammar.specs.declared.terminals.Terminal.{Terminal}
use Rattle.grammar.specs.Syntax.{Node, OrderLetter, OrderName, Rule, rules}
use Rattle.grammar.specs.Terminals.{picked, terminal_of, span_of}
use Rattle.grammar.specs.Moves.{node_number, kind_number, class_size, action_at}
use Rattle.grammar.specs.Reading.{Outcome, refusal, limit, so_far, one_more, most_terms, most_positions, next_term, with_positions, with_key, no_term, unless_full, key_counted, key_named, term_item, termed, positioned, used, numbered, acted, read_items}
use Rattle.grammar.proofs.Table.{each}
use Rattle.grammar.proofs.Diagrams.{at_each, picked_of}
use Rattle.grammar.proofs.ActionNumbers.{action_back}
use Rattle.names.specs.Parts.{part}
use Rattle.names.specs.Names.{Named, named_by, declared}
use Rattle.program.specs.Allowed.{if_kind}
use Rattle.program.proofs.Formed.{names_of, order_part, order_items}
use Rattle.program.proofs.Outcomes.{unless_full_step, if_allowed_step}
use Rattle.program.proofs.Walk.{Keeps, refuses, goes, gives, Kept, walk}

-- ---- the counts

-- no count is less
record Grown (c d : Counts) : Type 0 where
  intervals : c.intervals ≤ d.intervals
  tones : c.tones ≤ d.tones
  systems : c.systems ≤ d.systems
  retunings : c.retunings ≤ d.retunings
  logics : c.logics ≤ d.logics
  orders : c.orders ≤ d.orders
  harmonies : c.harmonies ≤ d.harmonies

grown : (k : Kind) (c : Counts) → Grown c (one_more k c)
grown Interval c = omega arith
grown Tone c = omega arith
grown System c = omega arith
grown Retuning c = omega arith
grown Logic c = omega arith
grown AnOrder c = omega arith
grown Harmony c = omega arith

no_less : (k : Kind) {c d : Counts} → Grown c d → so_far k c ≤ so_far k d
no_less Interval g = g.intervals
no_less Tone g = g.tones
no_less System g = g.systems
no_less Retuning g = g.retunings
no_less Logic g = g.logics
no_less AnOrder g = g.orders
no_less Harmony g = g.harmonies

one_more_holds : (k : Kind) (c : Counts) → so_far k (one_more k c) ≡ so_far k c + 1
one_more_holds Interval c = refl
one_more_holds Tone c = refl
one_more_holds System c = refl
one_more_holds Retuning c = refl
one_more_holds Logic c = refl
one_more_holds AnOrder c = refl
one_more_holds Harmony c = refl

-- how many of a kind may still come
abbrev left : Kind → Counts → ℕ
left k c = limit k - so_far k c

-- ---- what each action counts and gives

-- 0 where an order is counted, which is owed from there on, 2 where one is given, 1 where neither is done
abbrev weight : Action → ℕ
weight Pass = 1
weight (Declare k) = 1
weight Hold = 1
weight (Held u) = 1
weight (Number u) = 1
weight (Sign m) = 1
weight (Name Term) = 1
weight (Name Base) = 1
weight (Name Position) = 1
weight (Name Start) = 1
weight (Name Order) = 2
weight (Name Trigger) = 1
weight (Name CountedTrigger) = 0
weight (Name Placeholder) = 1
weight (Name (NamedAmount f)) = 1
weight (Mark u) = 1
weight Letter = 1
weight CountOrder = 0

-- an outcome by what it counts and gives
data Counting (s : Progress) : Action → Outcome → Type 0 where
  refusing : {a : Action} (e : Refusal) → Counting s a (Err e)
  passing : {a : Action} {t : Progress} → weight a ≡ 1 → t.counts ≡ s.counts → Counting s a (Ok (t, None))
  -- an item that is neither a declared name nor an order
  giving : {a : Action} {t : Progress} {i : Item} → weight a ≡ 1 → t.counts ≡ s.counts
      → named_by (part i) ≡ (λ ds. ds) → order_part (part i) ≡ (λ n. n) → Counting s a (Ok (t, Some i))
  naming : {k : Kind} {p : ℕ} {t : Progress} → so_far k s.counts < limit k → t.counts ≡ one_more k s.counts
      → Counting s (Declare k) (Ok (t, Some (item.Declared k p)))
  ordering : {t : Progress} → so_far AnOrder s.counts < limit AnOrder → t.counts ≡ one_more AnOrder s.counts → Counting s CountOrder (Ok (t, None))
  triggering : {q : ℕ} {t : Progress} → so_far AnOrder s.counts < limit AnOrder → t.counts ≡ one_more AnOrder s.counts
      → Counting s (Name CountedTrigger) (Ok (t, Some (item.Trigger q)))
  calling : {q k : ℕ} {t : Progress} → t.counts ≡ s.counts → Counting s (Name Order) (Ok (t, Some (item.Order q k)))

module _ (s : Progress) (x : Span) where
  -- an action of weight 1
  module _ (a : Action) (w : weight a ≡ 1) where
    term_counting : (f : ℕ) → Counting s a (termed s f x)
    term_counting f = go s.term.minus
      where
        go : (m : Bool) → Counting s a (Ok (next_term false 1 (s.term.before + 1) s, Some (term_item m f x.start)))
        go true = giving w refl refl refl
        go false = giving w refl refl refl

    key_counting : (v : ℕ) (i : Item) → Counting s a (Ok (with_key v s, Some i)) → Counting s a (key_named s v i x)
    key_counting v i h = go (has s.keys v)
      where
        go : (b : Bool) → Counting s a (cond b (Err (refusal SymbolNotAllowed x.start)) (key_counted s x (Ok (with_key v s, Some i))))
        go true = refusing (refusal SymbolNotAllowed x.start)
        go false = unless_full_step (Counting s a) refusing most_harmony_keys s.positions x (Ok (with_key v s, Some i)) (λ _. h)

    used_counting : (u : NumberUse) (v : ℕ) → Counting s a (used s u v x)
    used_counting RatioFirst v = passing w refl
    used_counting RatioSecond v = giving w refl refl refl
    used_counting Degree v = passing w refl
    used_counting Radicand v = giving w refl refl refl
    used_counting FirstFactor v = term_counting v
    used_counting Factor v = passing w refl
    used_counting Frequency v = giving w refl refl refl
    used_counting AnchorKey v = giving w refl refl refl
    used_counting (Amount f) v = giving w refl refl refl
    used_counting Key v = key_counting v (item.Key v) (giving w refl refl refl)
    used_counting StarredKey v = key_counting v (item.StarredKey v) (giving w refl refl refl)
    used_counting Argument v = unless_full_step (Counting s a) refusing most_placeholders s.bracketed x _ (λ _. giving w refl refl refl)

    numbered_counting : (text : List ℕ) (u : NumberUse) (start end : ℕ) → Counting s a (numbered text s u start end x)
    numbered_counting text u start end = if_allowed_step (Counting s a) refusing text s u start end x (λ v _. used_counting u v)

  full : (a : Action) (most n : ℕ) (o : Outcome) → (n < most → Counting s a o) → Counting s a (unless_full most n x o)
  full a most n o h = unless_full_step (Counting s a) refusing most n x o h

  positioned_counting : (a : Action) (i : Item) → Counting s a (Ok (with_positions (s.positions + 1) (no_term s), Some i)) → Counting s a (positioned s i x)
  positioned_counting a i h = full a most_positions s.positions _ (λ _. h)

  acted_counting : (text : List ℕ) (a : Action) → Counting s a (acted text s a x)
  unfolding acted
  acted_counting text Pass = passing refl refl
  acted_counting text (Declare k) = full (Declare k) (limit k) (so_far k s.counts) _ (λ h. naming h refl)
  acted_counting text Hold = passing refl refl
  acted_counting text (Held u) = numbered_counting (Held u) refl text u s.first.start s.first.end
  acted_counting text (Number u) = numbered_counting (Number u) refl text u x.start x.end
  acted_counting text (Sign m) = full (Sign m) most_terms s.term.before _ (λ _. passing refl refl)
  acted_counting text (Name Term) = term_counting (Name Term) refl s.term.factor
  acted_counting text (Name Base) = giving refl refl refl refl
  acted_counting text (Name Position) = positioned_counting (Name Position) _ (giving refl refl refl refl)
  acted_counting text (Name Start) = giving refl refl refl refl
  acted_counting text (Name Order) = calling refl
  acted_counting text (Name Trigger) = giving refl refl refl refl
  acted_counting text (Name Placeholder) = full (Name Placeholder) most_placeholders s.bracketed _ (λ _. giving refl refl refl refl)
  acted_counting text (Name (NamedAmount f)) = giving refl refl refl refl
  acted_counting text (Name CountedTrigger) = full (Name CountedTrigger) (limit AnOrder) (so_far AnOrder s.counts) _ (λ h. triggering h refl)
  acted_counting text (Mark MutedPosition) = positioned_counting (Mark MutedPosition) _ (giving refl refl refl refl)
  acted_counting text (Mark KeptPosition) = positioned_counting (Mark KeptPosition) _ (giving refl refl refl refl)
  acted_counting text (Mark KeptAnchor) = giving refl refl refl refl
  acted_counting text (Mark KeptWidth) = giving refl refl refl refl
  acted_counting text (Mark Period) = giving refl refl refl refl
  acted_counting text (Mark Onward) = giving refl refl refl refl
  acted_counting text (Mark Star) = full (Mark Star) most_harmony_keys s.positions _ (λ _. passing refl refl)
  acted_counting text Letter = giving refl refl refl refl
  acted_counting text CountOrder = full CountOrder (limit AnOrder) (so_far AnOrder s.counts) _ (λ h. ordering h refl)

-- ---- declared names

same_kind : (m k : Kind) → kind_number m ≡ kind_number k → m ≡ k
same_kind m k e =
    let q : Declare m ≡ Declare k = sym (action_back (Declare m)) ∙ ap (λ (n : ℕ). action_at (class_size + n)) e ∙ action_back (Declare k) in
    cc

less_left : (k m : Kind) (c : Counts) → left k (one_more m c) ≤ left k c
less_left k m c = omega (arith, no_less k (grown m c))

-- a name of kind m takes one of what is left of its kind
one_left : (k m : Kind) (c : Counts) (n : ℕ) → so_far m c < limit m → n ≤ left k (one_more m c)
    → if_kind (eqb (kind_number m) (kind_number k)) n ≤ left k c
one_left k m c n h l = go (eqb (kind_number m) (kind_number k)) refl
  where
    alike : m ≡ k → suc n ≤ left k c
    alike e = let o = one_more_holds k c in let w = rw e at h in let z = rw e at l in omega arith

    go : (b : Bool) → eqb (kind_number m) (kind_number k) ≡ b → if_kind b n ≤ left k c
    go true e = alike (same_kind m k (eqb-true (kind_number m) (kind_number k) e))
    go false e = omega (arith, less_left k m c)

abbrev NamesLeft : Kind → Progress → List Item → Type 0
NamesLeft k s is = names_of k (declared is) ≤ left k s.counts

names_kept : (k : Kind) (s : Progress) {a : Action} {o : Outcome} → Counting s a o → Keeps (NamesLeft k) (NamesLeft k s) o
unfolding declared names_of
names_kept k s (refusing e) = refuses e
names_kept k s (passing {t = t} w e) = goes t (λ is l. omega (arith, ap (left k) e))
names_kept k s (giving {t = t} {i = i} w e f g) =
    gives t i (λ is l. omega (arith, ap (left k) e, ap (λ (add : List Named → List Named). names_of k (add (declared is))) f))
names_kept k s (naming {k = m} {p = p} {t = t} h e) =
    gives t (item.Declared m p) (λ is l. one_left k m s.counts (names_of k (declared is)) h (omega (arith, ap (left k) e)))
names_kept k s (ordering {t = t} h e) = goes t (λ is l. omega (arith, ap (left k) e, less_left k AnOrder s.counts))
names_kept k s (triggering {q = p} {t = t} h e) =
    gives t (item.Trigger p) (λ is l. omega (arith, ap (left k) e, less_left k AnOrder s.counts))
names_kept k s (calling {q = p} {k = n} {t = t} e) = gives t (item.Order p n) (λ is l. omega (arith, ap (left k) e))

pub few_names : (text : List ℕ) → (read_items text).number ≡ done → (k : Kind) → names_of k (declared (read_items text).items) ≤ limit k
unfolding declared names_of
few_names text e k = omega (arith, walk text (λ _. NamesLeft k) (λ s. omega arith) kept e)
  where
    kept : Kept text (λ _. NamesLeft k)
    kept m s y r q = names_kept k s (acted_counting s (span_of y) text r.action)

-- ---- orders

-- the orders that are counted and not yet given, at a node: one from its trigger to its arrow
abbrev owed : Node → ℕ
owed q = cond (leb (node_number OrderLetter) (node_number q) && leb (node_number q) (node_number OrderName)) 1 0

-- no rule gives an order that is not owed
balanced : Node → Rule → Bool
balanced q r = leb (owed r.next + weight r.action) (owed q + 1)

all_balanced : Node → Bool
all_balanced q = each (balanced q) (rules q)

balance : (q : Node) (t : Terminal) {r : Rule} → picked (rules q) t ≡ Some r → owed r.next + weight r.action ≤ owed q + 1
unfolding all_balanced balanced rules
balance q t e = leb→le _ _ (picked_of (balanced q) (rules q) t (at_each all_balanced tt tt q) e).0

abbrev OrdersLeft : Node → Progress → List Item → Type 0
OrdersLeft q s is = order_items is ≤ left AnOrder s.counts + owed q

orders_kept : (q r : Node) (s : Progress) {a : Action} {o : Outcome} → owed r + weight a ≤ owed q + 1 → Counting s a o
    → Keeps (OrdersLeft r) (OrdersLeft q s) o
unfolding order_items
orders_kept q r s b (refusing e) = refuses e
orders_kept q r s b (passing {t = t} w e) = goes t (λ is l. omega (arith, ap (left AnOrder) e))
orders_kept q r s b (giving {t = t} {i = i} w e f g) =
    gives t i (λ is l. omega (arith, ap (left AnOrder) e, ap (λ (add : ℕ → ℕ). add (order_items is)) g))
orders_kept q r s b (naming {k = m} {p = p} {t = t} h e) =
    gives t (item.Declared m p) (λ is l. omega (arith, ap (left AnOrder) e, less_left AnOrder m s.counts))
orders_kept q r s b (ordering {t = t} h e) = goes t (λ is l. omega (arith, ap (left AnOrder) e))
orders_kept q r s b (triggering {q = p} {t = t} h e) = gives t (item.Trigger p) (λ is l. omega (arith, ap (left AnOrder) e))
orders_kept q r s b (calling {q = p} {k = n} {t = t} e) = gives t (item.Order p n) (λ is l. omega (arith, ap (left AnOrder) e))

pub few_orders : (text : List ℕ) → (read_items text).number ≡ done → order_items (read_items text).items ≤ limit AnOrder
unfolding order_items
few_orders text e = omega (arith, walk text OrdersLeft (λ s. omega arith) kept e)
  where
    kept : Kept text OrdersLeft
    kept n s y r q = orders_kept n r.next s (balance n (terminal_of text y) q) (acted_counting s (span_of y) text r.action)
