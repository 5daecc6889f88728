-- Laws of reading: what a step leads to, where the next symbol stands, and what is left to read after it.
-- Assumes nothing.
use mathlib.Core.Bool.{Bool, true, false, cond}
use mathlib.Core.List.{List, [], ◌∷◌, ◌++◌, append-nil}
use Rattle.std.specs.Prelude.{Option, Some, None, Result, Ok, Err}
use mathlib.Core.Path.{◌≡◌, refl, sym, ◌∙◌, ap, subst}
use Prim.Native.Nat.{ℕ, ◌+◌, ◌-◌, ◌^◌, ◌≤◌, ◌<◌}
use native.Mathlib.Omega.{arith}
use Rattle.std.proofs.lemmas.Option.{same_Some, none-some}
use borrow.Author.Tests.{eq-eqb, ne_eqb, le-leb, lt-leb}
use lib.Dec.{leb, eqb}
use lib.ListN.{length, set, length-append}
use lib.Seq.{slice, append_snoc}
use Rattle.status.specs.Status.{no_symbol, symbol_not_allowed}
use Rattle.limits.specs.Limits.{most_harmony_keys, most_placeholders}
use Rattle.sets.specs.Sets.{has}
use Rattle.symbols.specs.declared.Symbol.{Symbol}
use Rattle.symbols.specs.declared.Symbol.TheVariants.{Bad, End, Name as NameSymbol, Number as NumberSymbol, Mark as MarkSymbol}
use Rattle.symbols.specs.declared.words.Word.{Word}
use Rattle.symbols.specs.Words.{word_of}
use Rattle.symbols.specs.Names.{spelled, letter_of}
use Rattle.symbols.specs.Symbols.{next_symbol, after, symbols_from, symbols}
use Rattle.symbols.proofs.Progress.{Placed as Within, next_placed, after_within, going_on, symbols_next}
use Rattle.grammar.specs.declared.Kind.{Kind}
use Rattle.grammar.specs.declared.Kind.TheVariants.{Order as AnOrder}
use Rattle.grammar.specs.declared.NumberUse.{NumberUse}
use Rattle.grammar.specs.declared.NumberUse.TheVariants.{RatioFirst, RatioSecond, Degree, Radicand, FirstFactor, Factor, Frequency, AnchorKey, Amount, Key, StarredKey, Argument}
use Rattle.grammar.specs.declared.NameUse.TheVariants.{Term, Base, Position, Start, Order, Trigger, CountedTrigger, Placeholder, Amount as NamedAmount}
use Rattle.grammar.specs.declared.MarkUse.TheVariants.{MutedPosition, KeptPosition, KeptAnchor, KeptWidth, Period, Onward, Star}
use Rattle.grammar.specs.declared.Action.{Action}
use Rattle.grammar.specs.declared.Action.TheVariants.{Pass, Declare, Hold, Held, Number, Sign, Name, Mark, Letter, CountOrder}
use Rattle.grammar.specs.declared.Item.{Item}
use Rattle.grammar.specs.declared.Progress.{Progress}
use Rattle.grammar.specs.declared.Span.{Span}
use Rattle.grammar.specs.declared.Stopped.{Stopped}
use Rattle.status.specs.declared.Reason.{Reason}
use Rattle.status.specs.declared.Reason.TheVariants.{TextTooLong, NoSymbol, SymbolNotAllowed, ItemTooMany}
use Rattle.status.specs.declared.Refusal.{Refusal}
use Rattle.status.specs.Reasons.{number_of}
use Rattle.grammar.specs.Syntax.{Terminal, end, nothing, Node, Begin, Finish, Rule, rules}
use Rattle.grammar.specs.Terminals.{terminal_number, picked, of_letter, terminal_of, start_of, end_of, span_of}
use Rattle.grammar.specs.Moves.{Move, node_number, node_count, move_by, move_of}
use Rattle.grammar.specs.Reading.{Outcome, refusal, Answered, Read, limit, most_terms, most_positions, so_far, one_more, with_counts, with_positions, no_term, next_term, unless_full, counted, positioned, judged, used, if_allowed, numbered, acted, standing, Moved, then_at, not_allowed, by_rule, stepped, begun, with, refused_at, read_whole, read_from, most_bytes, read_items, with_keys, with_key, with_bracketed, in_brackets, key_counted, key_named, order_counted}
use Rattle.grammar.specs.Reading as reading
use Rattle.grammar.specs.Items.{holding, most_items}
use Rattle.grammar.proofs.Numbered.{word_apart, mark_apart}
use Rattle.grammar.proofs.Diagrams.{node_below, moves_by_name, same_node, none_at_nothing, finish_at_end, end_at_finish}
use Rattle.grammar.proofs.Rows.{holding_more, length_holding}

-- ---- a step by its move

module _ (n : Node) (t : Terminal) where
  no_rule : None ≡ move_of (node_number n) (terminal_number t) → picked (rules n) t ≡ None
  no_rule e = go (picked (rules n) t) (e ∙ moves_by_name n t)
    where
      go : (o : Option Rule) → None ≡ move_by o → o ≡ None
      go None q = refl
      go (Some r) q = let z : ◌≡◌ {A = ℕ} 0 1 = cc in absurd (omega arith)

  -- the rule of a move
  record Ruled (a : Action) (k : ℕ) : Type 0 where
    rule : Rule
    picks : picked (rules n) t ≡ Some rule
    does : a ≡ rule.action
    leads : k ≡ node_number rule.next

  ruled : {a : Action} {k : ℕ} → Some (a, k) ≡ move_of (node_number n) (terminal_number t) → Ruled a k
  ruled {a} {k} e = go (picked (rules n) t) refl (e ∙ moves_by_name n t)
    where
      go : (o : Option Rule) → picked (rules n) t ≡ o → Some (a, k) ≡ move_by o → Ruled a k
      go None p q = let z : ◌≡◌ {A = ℕ} 0 1 = cc in absurd (omega arith)
      go (Some r) p q =
          let same = same_Some (a, k) (r.action, node_number r.next) q in
          record { rule = r; picks = p; does = ap (λ (m : Move). m.0) same; leads = ap (λ (m : Move). m.1) same }

-- the item that is given
given_of : Outcome → Option Item
given_of (Ok kept) = kept.1
given_of (Err e) = None

-- ---- an action adds at most one term

abbrev pub Grown : ℕ → Outcome → Type 0
Grown n (Err e) = Unit {0}
Grown n (Ok kept) = kept.0.term.before ≤ n + 1

full_grown : (n most k : ℕ) (x : Span) (o : Outcome) → Grown n o → Grown n (unless_full most k x o)
full_grown n most k x o h = go (leb most k)
  where
    go : (b : Bool) → Grown n (cond b (Err (refusal ItemTooMany x.start)) o)
    go true = tt
    go false = h

counted_grown : (s : Progress) (k : Kind) (i : Item) (x : Span) → Grown s.term.before (counted s k i x)
counted_grown s k i x =
    full_grown s.term.before (limit k) (so_far k s.counts) x (Ok (with_counts (one_more k s.counts) (with_bracketed 0 (with_keys 0 (with_positions 0 (no_term s)))), Some i)) (omega arith)

positioned_grown : (s : Progress) (i : Item) (x : Span) → Grown s.term.before (positioned s i x)
positioned_grown s i x = full_grown s.term.before most_positions s.positions x (Ok (with_positions (s.positions + 1) (no_term s), Some i)) (omega arith)

key_grown : (s : Progress) (v : ℕ) (i : Item) (x : Span) → Grown s.term.before (key_named s v i x)
key_grown s v i x = go (has s.keys v)
  where
    go : (b : Bool) → Grown s.term.before (cond b (Err (refusal SymbolNotAllowed x.start)) (key_counted s x (Ok (with_key v s, Some i))))
    go true = tt
    go false = full_grown s.term.before most_harmony_keys s.positions x (Ok (with_key v s, Some i)) (omega arith)

bracketed_grown : (s : Progress) (i : Item) (x : Span) → Grown s.term.before (in_brackets s i x)
bracketed_grown s i x = full_grown s.term.before most_placeholders s.bracketed x (Ok (with_bracketed (s.bracketed + 1) s, Some i)) (omega arith)

used_grown : (s : Progress) (u : NumberUse) (v : ℕ) (x : Span) → Grown s.term.before (used s u v x)
used_grown s RatioFirst v x = omega arith
used_grown s RatioSecond v x = omega arith
used_grown s Degree v x = omega arith
used_grown s Radicand v x = omega arith
used_grown s FirstFactor v x = omega arith
used_grown s Factor v x = omega arith
used_grown s Frequency v x = omega arith
used_grown s AnchorKey v x = omega arith
used_grown s (Amount f) v x = omega arith
used_grown s Key v x = key_grown s v _ x
used_grown s StarredKey v x = key_grown s v _ x
used_grown s Argument v x = bracketed_grown s _ x

numbered_grown : (text : List ℕ) (s : Progress) (u : NumberUse) (a b : ℕ) (x : Span) → Grown s.term.before (numbered text s u a b x)
numbered_grown text s u a b x = go (judged u (slice a b text))
  where
    go : (v : Option ℕ) → Grown s.term.before (if_allowed s u a x v)
    go None = tt
    go (Some v) = used_grown s u v x

order_grown : (s : Progress) (x : Span) (o : Outcome) → Grown s.term.before o → Grown s.term.before (order_counted s x o)
order_grown s x o h = full_grown s.term.before (limit AnOrder) (so_far AnOrder s.counts) x o h

pub acted_grown : (text : List ℕ) (s : Progress) (a : Action) (x : Span) → Grown s.term.before (acted text s a x)
unfolding acted
acted_grown text s Pass x = omega arith
acted_grown text s (Declare k) x = counted_grown s k _ x
acted_grown text s Hold x = omega arith
acted_grown text s (Held u) x = numbered_grown text s u s.first.start s.first.end x
acted_grown text s (Number u) x = numbered_grown text s u x.start x.end x
acted_grown text s (Sign m) x = full_grown s.term.before most_terms s.term.before x (Ok (next_term m 1 s.term.before s, None)) (omega arith)
acted_grown text s (Name Term) x = omega arith
acted_grown text s (Name Base) x = omega arith
acted_grown text s (Name Position) x = positioned_grown s _ x
acted_grown text s (Name Start) x = omega arith
acted_grown text s (Name Order) x = omega arith
acted_grown text s (Name Trigger) x = omega arith
acted_grown text s (Name Placeholder) x = bracketed_grown s _ x
acted_grown text s (Name (NamedAmount f)) x = omega arith
acted_grown text s (Name CountedTrigger) x = order_grown s x _ (omega arith)
acted_grown text s (Mark MutedPosition) x = positioned_grown s _ x
acted_grown text s (Mark KeptPosition) x = positioned_grown s _ x
acted_grown text s (Mark KeptAnchor) x = omega arith
acted_grown text s (Mark KeptWidth) x = omega arith
acted_grown text s (Mark Period) x = omega arith
acted_grown text s (Mark Onward) x = omega arith
acted_grown text s (Mark Star) x = full_grown s.term.before most_harmony_keys s.positions x (Ok (s, None)) (omega arith)
acted_grown text s Letter x = omega arith
acted_grown text s CountOrder x = order_grown s x _ (omega arith)

-- ---- the end of a text is its last symbol, and leads to the last node

none_after_end : (text : List ℕ) (y : Symbol) → terminal_of text y ≡ end → after y ≡ None
unfolding after terminal_of
none_after_end text (NameSymbol a b) e = absurd (go (letter_of (slice a b text)) (word_of (spelled (slice a b text))) e)
  where
    go : (l : Option ℕ) (w : Word) → of_letter l w ≡ end → ⊥
    go None w q = (word_apart w).1 q
    go (Some c) w q = let z = ap terminal_number q in omega arith
none_after_end text (NumberSymbol a b) e = let z = ap terminal_number e in absurd (omega arith)
none_after_end text (MarkSymbol k a b) e = absurd ((mark_apart k).1 e)
none_after_end text (End p) e = refl
none_after_end text (Bad p) e = let z = ap terminal_number e in absurd (omega arith)

module _ (text : List ℕ) (n : Node) (y : Symbol) {r : Rule} (picks : picked (rules n) (terminal_of text y) ≡ Some r) where
  none_after_finish : r.next ≡ Finish → after y ≡ None
  none_after_finish f = none_after_end text y (end_at_finish n (terminal_of text y) picks f)

  finish_after_none : after y ≡ None → (r.next ≡ Finish) × (r.action ≡ Pass)
  unfolding after terminal_of
  finish_after_none e = go y picks e
    where
      go : (z : Symbol) → picked (rules n) (terminal_of text z) ≡ Some r → after z ≡ None → (r.next ≡ Finish) × (r.action ≡ Pass)
      go (Bad p) q e = let z : ◌≡◌ {A = ℕ} 0 1 = let w = sym (none_at_nothing n) ∙ q in cc in absurd (omega arith)
      go (End p) q e = finish_at_end n q
      go (NameSymbol a b) q e = let z : ◌≡◌ {A = ℕ} 0 1 = cc in absurd (omega arith)
      go (NumberSymbol a b) q e = let z : ◌≡◌ {A = ℕ} 0 1 = cc in absurd (omega arith)
      go (MarkSymbol k a b) q e = let z : ◌≡◌ {A = ℕ} 0 1 = cc in absurd (omega arith)

-- ---- a symbol's places

places_within : (text : List ℕ) (at : ℕ) → at ≤ length text → {y : Symbol} → y ≡ next_symbol text at
    → (start_of y ≤ length text) × (end_of y ≤ length text)
places_within text at h {y} e = go y (subst (Within text at) (sym e) (next_placed text at h))
  where
    go : (z : Symbol) → Within text at z → (start_of z ≤ length text) × (end_of z ≤ length text)
    go (Bad p) w = (omega arith, omega arith)
    go (End p) w = (omega arith, omega arith)
    go (NameSymbol a b) w = (omega arith, omega arith)
    go (NumberSymbol a b) w = (omega arith, omega arith)
    go (MarkSymbol k a b) w = (omega arith, omega arith)

end_after : (y : Symbol) {e : ℕ} → after y ≡ Some e → end_of y ≡ e
unfolding after
end_after (Bad p) q = let z : ◌≡◌ {A = ℕ} 0 1 = cc in absurd (omega arith)
end_after (End p) q = let z : ◌≡◌ {A = ℕ} 0 1 = cc in absurd (omega arith)
end_after (NameSymbol a b) q = cc
end_after (NumberSymbol a b) q = cc
end_after (MarkSymbol k a b) q = cc

-- ---- one symbol further

-- what is read after a step
abbrev turned : List ℕ → Moved → List Symbol → Read
turned text (reading.refuse n p) ys = refused_at n p
turned text (reading.go s) ys = read_from text s ys
turned text (reading.give s i) ys = with i (read_from text s ys)

module _ (text : List ℕ) (n : Node) (s : Progress) (y : Symbol) (ys : List Symbol) where
  turned_is : read_from text (standing n s) (y ∷ ys) ≡ turned text (stepped text (standing n s) y) ys
  unfolding read_from
  turned_is = go (stepped text (standing n s) y)
    where
      go : (o : Moved)
          → ◌≡◌ {A = Read}
          (elim o [ reading.refuse m p ↦ refused_at m p | reading.go t ↦ read_from text t ys | reading.give t i ↦ with i (read_from text t ys) ])
          (turned text o ys)
      go (reading.refuse m p) = refl
      go (reading.go t) = refl
      go (reading.give t i) = refl

  -- by the rule, if there is one
  turned_by : {o : Option Rule} → picked (rules n) (terminal_of text y) ≡ o → read_from text (standing n s) (y ∷ ys) ≡ turned text (by_rule text s y o) ys
  unfolding stepped
  turned_by e = turned_is ∙ ap (λ (o : Option Rule). turned text (by_rule text s y o) ys) e

-- ---- the items so far

-- r after some items
abbrev pub onto : List Item → Read → Read
onto is r = record { items = is ++ r.items; number = r.number; place = r.place }

-- reading stands at the place `at`: `items` holds those read so far over what was there before, and what is left gives the rest
pub record Midway (text : List ℕ) (before items : List Item) (n : Node) (s : Progress) (at count : ℕ) : Type 0 where
  pub short : length text ≤ most_bytes
  pub room : length before ≡ most_items
  pub within : at ≤ length text
  pub so_far_case : List Item
  pub counted : count ≡ length so_far_case
  pub few : count ≤ at
  pub terms : s.term.before ≤ at
  pub held : items ≡ holding so_far_case before
  pub left : read_items text ≡ onto so_far_case (read_from text (standing n s) (symbols_from text at))

midway_first : (text : List ℕ) (before : List Item) → length text ≤ most_bytes → length before ≡ most_items → Midway text before before Begin begun.kept 0 0
unfolding read_items symbols
midway_first text before h k = record {
  short = h;
  room = k;
  within = omega arith;
  so_far_case = [];
  counted = refl;
  few = omega arith;
  terms = omega arith;
  held = refl;
  left = rw (le-leb (length text) most_bytes h);
}

-- what a call answers, and what the slice holds then
abbrev pub Answer : (text : List ℕ) (before items : List Item) → Result ℕ Stopped → Type 0
Answer text before items r = Answered (read_items text) r × (items ≡ holding (read_items text).items before)

-- reading stops with so many items
abbrev pub stopped_with : Refusal → ℕ → Stopped
stopped_with e n = record { refusal = e; count = n }

pub too_long : (text : List ℕ) (items : List Item) → most_bytes < length text → Answer text items items (Err (stopped_with (refusal TextTooLong 0) 0))
unfolding read_items
too_long text items h = rw (lt-leb (length text) most_bytes h) ((refl, refl, refl), refl)

-- why a symbol is refused for which there is no rule
reason_number : (b : Bool) → cond b no_symbol symbol_not_allowed ≡ number_of (cond b NoSymbol SymbolNotAllowed)
reason_number true = refl
reason_number false = refl

module _ {text : List ℕ} {before items : List Item} {n : Node} {s : Progress} {at count : ℕ} (st : Midway text before items n s at count) where
  -- the slice keeps its length
  kept : length items ≡ length before
  kept = ap length st.held ∙ length_holding st.so_far_case before (omega (arith, st.few, st.counted, st.within, st.short, st.room))

  stops : {k p : ℕ} → read_from text (standing n s) (symbols_from text at) ≡ refused_at k p
      → read_items text ≡ record { items = st.so_far_case; number = k; place = p }
  stops {k} {p} e =
      let is = st.so_far_case in
      st.left ∙ ap (onto is) e ∙ ap (λ (l : List Item). record { items = l; number = k; place = p }) (append-nil is)

  holds : {r : Read} → read_items text ≡ r → r.items ≡ st.so_far_case → items ≡ holding (read_items text).items before
  holds e f = st.held ∙ ap (λ (l : List Item). holding l before) (sym (ap (λ (q : Read). q.items) e ∙ f))

  stopped : (e : Refusal) → read_from text (standing n s) (symbols_from text at) ≡ refused_at (number_of e.reason) e.place → Answer text before items (Err (stopped_with e count))
  stopped e q =
      let r = stops q in
      ((st.counted ∙ sym (ap (λ (q : Read). length q.items) r), ap (λ (q : Read). q.number) r, ap (λ (q : Read). q.place) r), holds r refl)

  completed : read_from text (standing n s) (symbols_from text at) ≡ read_whole → Answer text before items (Ok count)
  completed q =
      let r = stops q in
      ((st.counted ∙ sym (ap (λ (q : Read). length q.items) r), ap (λ (q : Read). q.number) r, ap (λ (q : Read). q.place) r), holds r refl)

  -- the first symbol from `at` on is y
  module _ {y : Symbol} (ey : y ≡ next_symbol text at) where
    spans_fit : (start_of y < 2 ^ 32) × (end_of y < 2 ^ 32)
    spans_fit = let w = places_within text at st.within ey in (omega (arith, w.0, st.short), omega (arith, w.1, st.short))

    reads : {o : Option Rule} → picked (rules n) (terminal_of text y) ≡ o
        → read_from text (standing n s) (symbols_from text at) ≡ turned text (by_rule text s y o) (going_on text (after y))
    reads {o} e =
        ap (read_from text (standing n s)) (symbols_next text at st.within ∙ ap (λ (z : Symbol). z ∷ going_on text (after z)) (sym ey))
        ∙ turned_by text n s y (going_on text (after y)) e

    unruled : picked (rules n) (terminal_of text y) ≡ None → (e : Refusal) → not_allowed (terminal_of text y) ≡ number_of e.reason → start_of y ≡ e.place
        → Answer text before items (Err (stopped_with e count))
    unruled p e k q = stopped e (reads p ∙ ap (λ (m : ℕ). refused_at m (start_of y)) k ∙ ap (refused_at (number_of e.reason)) q)

    -- a rule leads to o
    module _ {r : Rule} (picks : picked (rules n) (terminal_of text y) ≡ Some r) {o : Outcome} (eo : o ≡ acted text s r.action (span_of y)) where
      reads_on : read_from text (standing n s) (symbols_from text at) ≡ turned text (then_at r.next o) (going_on text (after y))
      reads_on = reads picks ∙ ap (λ (p : Outcome). turned text (then_at r.next p) (going_on text (after y))) (sym eo)

      refused : (e : Refusal) → o ≡ Err e → Answer text before items (Err (stopped_with e count))
      refused e q = stopped e (reads_on ∙ rw q)

      finished : {t : Progress} → o ≡ Ok (t, None) → r.next ≡ Finish → Answer text before items (Ok count)
      unfolding read_from
      finished {t} q f = completed (reads_on ∙ rw (q, none_after_finish text n y picks f))

      -- an item is not given at the end
      given_before : {t : Progress} {i : Item} → o ≡ Ok (t, Some i) → after y ≡ None → ⊥
      unfolding acted given_of
      given_before q e =
          let f = finish_after_none text n y picks e in
          none-some _ (sym (ap given_of (sym q ∙ eo ∙ ap (λ (a : Action). acted text s a (span_of y)) f.1)))

      -- reading goes on with progress t: later in the text, with at most one term more
      record Further (t : Progress) : Type 0 where
        later : at < end_of y
        inside : end_of y ≤ length text
        terms : t.term.before ≤ s.term.before + 1
        onward : going_on text (after y) ≡ symbols_from text (end_of y)

      further : (t : Progress) → (after y ≡ None → ⊥) → (Grown s.term.before o → t.term.before ≤ s.term.before + 1) → Further t
      further t last g = go (after y) refl
        where
          go : (a : Option ℕ) → after y ≡ a → Further t
          go None e = absurd (last e)
          go (Some b) e =
              let w = after_within text at st.within (ap after (sym ey) ∙ e) in
              let z = end_after y e in
              record {
                later = omega (arith, w.0);
                inside = omega (arith, w.1);
                terms = g (subst (Grown s.term.before) (sym eo) (acted_grown text s r.action (span_of y)));
                onward = ap (going_on text) e ∙ ap (symbols_from text) (sym z);
              }

      -- less of the text is left, and reading stands after the symbol
      goes_on : {t : Progress} → o ≡ Ok (t, None) → (r.next ≡ Finish → ⊥)
          → (length text - end_of y < length text - at) × Midway text before items r.next t (end_of y) count
      goes_on {t} q m =
          let f = further t (λ e. m (finish_after_none text n y picks e).0) (λ g. subst (Grown s.term.before) q g) in
          let p : read_from text (standing n s) (symbols_from text at) ≡ read_from text (standing r.next t) (symbols_from text (end_of y)) =
          reads_on ∙ rw q (ap (read_from text (standing r.next t)) f.onward) in (
            omega (arith, f.later, f.inside),
            record {
              short = st.short;
              room = st.room;
              within = f.inside;
              so_far_case = st.so_far_case;
              counted = st.counted;
              few = omega (arith, st.few, f.later);
              terms = omega (arith, st.terms, f.terms, f.later);
              held = st.held;
              left = st.left ∙ ap (onto st.so_far_case) p;
            },
          )

      gives : {t : Progress} {i : Item} {next : List Item} → o ≡ Ok (t, Some i) → next ≡ set items count i
          → (length text - end_of y < length text - at) × Midway text before next r.next t (end_of y) (count + 1)
      gives {t} {i} {next} q e =
          let f = further t (given_before q) (λ g. subst (Grown s.term.before) q g) in
          let is = st.so_far_case in
          let rest = read_from text (standing r.next t) (symbols_from text (end_of y)) in
          let p : read_from text (standing n s) (symbols_from text at) ≡ with i rest =
          reads_on ∙ rw q (ap (λ (ys : List Symbol). with i (read_from text (standing r.next t) ys)) f.onward) in (
            omega (arith, f.later, f.inside),
            record {
              short = st.short;
              room = st.room;
              within = f.inside;
              so_far_case = is ++ i ∷ [];
              counted = simp length-append (omega (arith, st.counted));
              few = omega (arith, st.few, f.later);
              terms = omega (arith, st.terms, f.terms, f.later);
              held =
                  e
                  ∙ ap (λ (l : List Item). set l count i) st.held
                  ∙ ap (λ (k : ℕ). set (holding is before) k i) st.counted
                  ∙ holding_more is i before (omega (arith, st.few, st.counted, st.short, st.room, f.later, f.inside));
              left = st.left ∙ ap (onto is) p ∙ ap (λ (l : List Item). record { items = l; number = rest.number; place = rest.place }) (sym (append_snoc is i rest.items));
            },
          )

-- ---- the loop: reading stands at the node of which the code holds the number, or is finished

pub record Walking (text : List ℕ) (before items : List Item) (s : Progress) (node at count : ℕ) : Type 0 where
  pub stands : Node
  pub number : node ≡ node_number stands
  pub midway : (node ≡ node_number Finish → ⊥) → Midway text before items stands s at count
  pub ended : node ≡ node_number Finish → Answer text before items (Ok count)
  pub same_size : length items ≡ length before

-- how many symbols may still come
abbrev pub turns_left : List ℕ → ℕ → ℕ → ℕ
turns_left text node at = cond (eqb node (node_number Finish)) 0 (1 + (length text - at))

turns_less : (text : List ℕ) (node next at to : ℕ) → (node ≡ node_number Finish → ⊥)
    → ((next ≡ node_number Finish → ⊥) → length text - to < length text - at) → turns_left text next to < turns_left text node at
turns_less text node next at to n h = rw (ne_eqb node (node_number Finish) n) (go (eqb next (node_number Finish)) refl)
  where
    go : (b : Bool) → eqb next (node_number Finish) ≡ b → cond b 0 (1 + (length text - to)) < 1 + (length text - at)
    go true e = omega arith
    go false e = let l = h (λ f. let z : ◌≡◌ {A = Bool} true false = sym (eq-eqb _ _ f) ∙ e in let y : ◌≡◌ {A = ℕ} 0 1 = cc in omega arith) in omega arith

pub walks_first : (text : List ℕ) (before : List Item) → length text ≤ most_bytes → length before ≡ most_items → {s : Progress} → s ≡ begun.kept
    → Walking text before before s (node_number Begin) 0 0
walks_first text before h k {s} e = record {
  stands = Begin;
  number = refl;
  midway = λ n. subst (λ (t : Progress). Midway text before before Begin t 0 0) (sym e) (midway_first text before h k);
  ended = λ f. absurd (omega arith);
  same_size = refl;
}

module _ {text : List ℕ} {before items : List Item} {s : Progress} {node at count : ℕ} (w : Walking text before items s node at count) (n : node ≡ node_number Finish → ⊥) where
  pub node_small : node < node_count
  node_small = rw w.number (node_below w.stands)

  pub enough_room : (s.term.before + 1 < 2 ^ 32) × (count + 1 < 2 ^ 32)
  enough_room = let m = w.midway n in (omega (arith, m.terms, m.within, m.short), omega (arith, m.few, m.within, m.short))

  -- the next symbol is y, with its terminal's number and its span
  module _ {y : Symbol} (ey : y ≡ next_symbol text at) where
    pub fits : (start_of y < 2 ^ 32) × (end_of y < 2 ^ 32)
    fits = spans_fit (w.midway n) ey

    module _ {t : ℕ} (et : t ≡ terminal_number (terminal_of text y)) {x : Span} (ex : x ≡ span_of y) where
      pub walk_unruled : None ≡ move_of node t → {k : Reason} → k ≡ cond (eqb t (terminal_number nothing)) NoSymbol SymbolNotAllowed
          → Answer text before items (Err (stopped_with (refusal k x.start) count))
      walk_unruled e {k} ek =
          let q = no_rule w.stands (terminal_of text y) (e ∙ rw (w.number, et)) in
          rw (ex, ek, et) (unruled (w.midway n) ey q _ (reason_number (eqb (terminal_number (terminal_of text y)) (terminal_number nothing))) refl)

      -- its move's action leads to o
      module _ {a : Action} {k : ℕ} (e : Some (a, k) ≡ move_of node t) {o : Outcome} (eo : o ≡ acted text s a x) where
        by : Ruled w.stands (terminal_of text y) a k
        by = ruled w.stands (terminal_of text y) (e ∙ rw (w.number, et))

        done_so : o ≡ acted text s by.rule.action (span_of y)
        done_so = eo ∙ ap (λ (b : Action). acted text s b x) by.does ∙ ap (acted text s by.rule.action) ex

        next_is : (k ≡ node_number Finish → ⊥) → by.rule.next ≡ Finish → ⊥
        next_is m f = m (by.leads ∙ ap node_number f)

        pub walk_refused : {f : Refusal} → o ≡ Err f → Answer text before items (Err (stopped_with f count))
        walk_refused {f} q = refused (w.midway n) ey by.picks done_so f q

        module _ {u : Progress} where
          pub walks_on : {item : Option Item} → o ≡ Ok (u, item) → item ≡ None → (turns_left text k x.end < turns_left text node at) × Walking text before items u k x.end count
          walks_on given none = let q : o ≡ Ok (u, None) = rw none at given in rw ex (
            turns_less text node k at (end_of y) n (λ m. (goes_on (w.midway n) ey by.picks done_so q (next_is m)).0),
            record {
              stands = by.rule.next;
              number = by.leads;
              midway = λ m. (goes_on (w.midway n) ey by.picks done_so q (next_is m)).1;
              ended = λ f. finished (w.midway n) ey by.picks done_so q (same_node by.rule.next Finish (sym by.leads ∙ f));
              same_size = w.same_size;
            },
          )

          pub walks_with : {item : Option Item} → o ≡ Ok (u, item) → {i : Item} {next : List Item} → item ≡ Some i → next ≡ set items count i
              → (turns_left text k x.end < turns_left text node at) × Walking text before next u k x.end (count + 1)
          walks_with given {i} {next} some h =
              let q : o ≡ Ok (u, Some i) = rw some at given in
              let g = gives (w.midway n) ey by.picks done_so q h in
              rw ex (
                turns_less text node k at (end_of y) n (λ m. g.0),
                record {
                  stands = by.rule.next;
                  number = by.leads;
                  midway = λ m. g.1;
                  ended = λ f.
                      absurd (given_before (w.midway n) ey by.picks done_so q
                      (none_after_finish text w.stands y by.picks (same_node by.rule.next Finish (sym by.leads ∙ f))));
                  same_size = kept g.1;
                },
              )
