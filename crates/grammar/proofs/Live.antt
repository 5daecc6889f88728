-- From every node of the diagrams a text can be completed, so 3 is given just where no continuation allows the symbol.
-- Assumes nothing.
use mathlib.Core.Bool.{Bool, true, false}
use mathlib.Core.List.{List, [], ◌∷◌, ◌++◌, map, append_assoc}
use mathlib.Core.Logic.{◌⊎◌, inl, inr, ⊎_elim}
use Rattle.std.specs.Prelude.{Option, Some, None, Ok, Err}
use mathlib.Core.Path.{◌≡◌, refl, sym, ◌∙◌, ap, subst}
use Prim.Native.Nat.{ℕ, zero, suc}
use native.Mathlib.Omega.{arith}
use lib.Dec.{T, eqb, eqb→eq}
use Rattle.status.specs.Status.{no_symbol, symbol_not_allowed, number_out_of_range}
use Rattle.symbols.specs.declared.Symbol.{Symbol}
use Rattle.grammar.specs.declared.NumberUse.{NumberUse}
use Rattle.grammar.specs.declared.Action.{Action}
use Rattle.status.specs.Reasons.{number_of}
use Rattle.grammar.specs.Syntax.{Terminal, nothing, Node, Begin, Finish, Rule, rules}
use Rattle.grammar.specs.Terminals.{is_nothing, picked, terminal_of, start_of, span_of}
use Rattle.grammar.specs.Moves.{node_number, node_count}
use Rattle.grammar.specs.Reading.{Outcome, used, if_allowed, acted, Standing, Moved, then_at, by_rule, stepped, begun}
use Rattle.grammar.specs.Reading as reading
use Rattle.grammar.specs.Live.{walked, NoContinuation, reached, KeyUse, plain, starred, NamedTwice, UnfitNumber, ThreeExactly, Refused, two, three, four, nine, LowerNumber}
use Rattle.grammar.proofs.Diagrams.{same_node, same_terminal_holds, at_each, none_at_nothing}
use Rattle.grammar.proofs.Refusals.{held_no_key, Why, outside, full, again, held_key, Explained, acted_why}

-- ---- a continuation from every node, by one test

last_of : List Rule → Option Rule
last_of [] = None
last_of (r ∷ rs) = elim (last_of rs) [ None ↦ Some r | Some last ↦ Some last ]

-- the symbols of the last rules from a node on, as far as k of them lead
outward : ℕ → Node → List Terminal
outward zero n = []
outward (suc k) n = elim (last_of (rules n)) [ None ↦ [] | Some r ↦ r.symbol ∷ outward k r.next ]

continuation : Node → List Terminal
continuation n = outward node_count n

finishes : Option Node → Bool
finishes None = false
finishes (Some n) = eqb (node_number n) (node_number Finish)

test : Node → Bool
test n = finishes (walked n (continuation n))

finished : (o : Option Node) → T (finishes o) → o ≡ Some Finish
unfolding finishes
finished None t = absurd t
finished (Some n) t = ap Some (same_node n Finish (eqb→eq (node_number n) (node_number Finish) t))

live : (n : Node) → (ts : List Terminal) × (walked n ts ≡ Some Finish)
unfolding continuation outward last_of test finishes walked picked rules
live n = (continuation n, finished (walked n (continuation n)) (at_each test tt tt n))

-- ---- reading stands at the node that the symbols so far lead to

-- what a step by a rule, or by none, is
walked_on : (n : Node) (t : Terminal) (ts : List Terminal) {r : Rule} → picked (rules n) t ≡ Some r → walked n (t ∷ ts) ≡ walked r.next ts
unfolding walked
walked_on n t ts e = rw (walked, e)

walked_off : (n : Node) (t : Terminal) (ts : List Terminal) → picked (rules n) t ≡ None → walked n (t ∷ ts) ≡ None
unfolding walked
walked_off n t ts e = rw (walked, e)

-- where a step goes on to t, the diagrams go on from t's node
abbrev Follows : List ℕ → Standing → Symbol → List Terminal → Moved → Type 0
Follows text s y ts (reading.refuse k p) = Unit {0}
Follows text s y ts (reading.go t) = walked s.node (terminal_of text y ∷ ts) ≡ walked t.node ts
Follows text s y ts (reading.give t i) = walked s.node (terminal_of text y ∷ ts) ≡ walked t.node ts

follows : (text : List ℕ) (s : Standing) (y : Symbol) (ts : List Terminal) → Follows text s y ts (stepped text s y)
unfolding stepped
follows text s y ts = go (picked (rules s.node) (terminal_of text y)) refl
  where
    by : (n : Node) → walked s.node (terminal_of text y ∷ ts) ≡ walked n ts → (o : Outcome) → Follows text s y ts (then_at n o)
    by n e (Err f) = tt
    by n e (Ok (t, None)) = e
    by n e (Ok (t, Some i)) = e

    go : (o : Option Rule) → picked (rules s.node) (terminal_of text y) ≡ o → Follows text s y ts (by_rule text s.kept y o)
    go None e = tt
    go (Some r) e = by r.next (walked_on s.node (terminal_of text y) ts e) (acted text s.kept r.action (span_of y))

walk_reached : (text : List ℕ) (s : Standing) (ys : List Symbol) {t : Standing} (ts : List Terminal) → reached text s ys ≡ Some t
    → walked s.node (map (terminal_of text) ys ++ ts) ≡ walked t.node ts
unfolding reached
walk_reached text s [] ts e = ap (λ (o : Option Standing). elim o [ None ↦ walked s.node ts | Some u ↦ walked u.node ts ]) e
walk_reached text s (y ∷ ys) {t} ts e = go (stepped text s y) (follows text s y (map (terminal_of text) ys ++ ts)) (λ u. walk_reached text u ys ts) e
  where
    go : (o : Moved) → Follows text s y (map (terminal_of text) ys ++ ts) o
        → ((u : Standing) → reached text u ys ≡ Some t → walked u.node (map (terminal_of text) ys ++ ts) ≡ walked t.node ts)
        → elim o [ reading.refuse n p ↦ None | reading.go u ↦ reached text u ys | reading.give u i ↦ reached text u ys ] ≡ Some t
        → walked s.node (terminal_of text y ∷ (map (terminal_of text) ys ++ ts)) ≡ walked t.node ts
    go (reading.refuse n p) f later q = let z : ◌≡◌ {A = ℕ} 0 1 = cc in absurd (omega arith)
    go (reading.go u) f later q = f ∙ later u q
    go (reading.give u i) f later q = f ∙ later u q

-- ---- three

map_append : (f : Symbol → Terminal) (xs ys : List Symbol) → map f (xs ++ ys) ≡ map f xs ++ map f ys
map_append f [] ys = refl
map_append f (x ∷ xs) ys = ap (λ (l : List Terminal). f x ∷ l) (map_append f xs ys)

-- the symbols and a continuation, from the first node or from where the last symbol is looked at
from_there : (text : List ℕ) (ys : List Symbol) (y : Symbol) {s : Standing} → reached text begun ys ≡ Some s → (more : List Terminal)
    → walked Begin (map (terminal_of text) (ys ++ y ∷ []) ++ more) ≡ walked s.node (terminal_of text y ∷ more)
from_there text ys y e more =
    ap (walked Begin) (ap (λ (l : List Terminal). l ++ more) (map_append (terminal_of text) ys (y ∷ [])) ∙ append_assoc (map (terminal_of text) ys) (terminal_of text y ∷ []) more)
    ∙ walk_reached text begun ys (terminal_of text y ∷ more) e

module _ (text : List ℕ) (s : Standing) (y : Symbol) where
  -- a step that refuses with 3 has no rule, or names a number twice
  no_rule : {p : ℕ} → stepped text s y ≡ reading.refuse symbol_not_allowed p
      → (picked (rules s.node) (terminal_of text y) ≡ None) ⊎ NamedTwice text s y
  unfolding stepped
  no_rule {p} e = go (picked (rules s.node) (terminal_of text y)) refl e
    where
      why : (r : Rule) → picked (rules s.node) (terminal_of text y) ≡ Some r → (k : ℕ) → k ≡ symbol_not_allowed
          → Why text s.kept (span_of y) r.action k → NamedTwice text s y
      why r f _ z outside = absurd (omega (arith, z))
      why r f _ z full = absurd (omega (arith, z))
      why r f _ z (again {u = u} {v = v} k q j h) = record { rule = r; picks = f; purpose = u; key = k; reads = q; value = v; is = j; named = h }
      why r f _ z (held_key k q) = absurd (held_no_key s.node (terminal_of text y) f k q)

      acts : (r : Rule) → picked (rules s.node) (terminal_of text y) ≡ Some r → (o : Outcome) → Explained text s.kept (span_of y) r.action o
          → then_at r.next o ≡ reading.refuse symbol_not_allowed p → NamedTwice text s y
      acts r f (Err k) g w = let z : number_of k.reason ≡ symbol_not_allowed = cc in why r f (number_of k.reason) z g
      acts r f (Ok (t, None)) g w = let z : ◌≡◌ {A = ℕ} 0 1 = cc in absurd (omega arith)
      acts r f (Ok (t, Some i)) g w = let z : ◌≡◌ {A = ℕ} 0 1 = cc in absurd (omega arith)

      go : (o : Option Rule) → picked (rules s.node) (terminal_of text y) ≡ o → by_rule text s.kept y o ≡ reading.refuse symbol_not_allowed p
          → (o ≡ None) ⊎ NamedTwice text s y
      go None f w = inl refl
      go (Some r) f w = inr (acts r f (acted text s.kept r.action (span_of y)) (acted_why text s.kept (span_of y) r.action) w)

  -- where there is no rule, a symbol is refused with 3
  no_rule_back : picked (rules s.node) (terminal_of text y) ≡ None → is_nothing (terminal_of text y) ≡ false
      → stepped text s y ≡ reading.refuse symbol_not_allowed (start_of y)
  unfolding stepped
  no_rule_back e n = rw (e, n)

  -- and so is a number that is named twice
  named_back : NamedTwice text s y → stepped text s y ≡ reading.refuse symbol_not_allowed (start_of y)
  unfolding stepped acted
  named_back t =
      ap (by_rule text s.kept y) t.picks
      ∙ ap (λ (a : Action). then_at t.rule.next (acted text s.kept a (span_of y))) t.reads
      ∙ ap (λ (w : Option ℕ). then_at t.rule.next (if_allowed s.kept t.purpose (start_of y) (span_of y) w)) t.is
      ∙ by t.purpose t.key
    where
      by : (u : NumberUse) → KeyUse u → then_at t.rule.next (used s.kept u t.value (span_of y)) ≡ reading.refuse symbol_not_allowed (start_of y)
      by _ plain = rw t.named
      by _ starred = rw t.named

pub three_exactly : ThreeExactly
three_exactly text ys y s e n = (forth, back)
  where
    forth : stepped text s y ≡ reading.refuse symbol_not_allowed (start_of y) → NoContinuation (map (terminal_of text) (ys ++ y ∷ [])) ⊎ NamedTwice text s y
    forth f = ⊎_elim (λ r. inl (none_left r)) (λ t. inr t) (no_rule text s y f)
      where
        none_left : picked (rules s.node) (terminal_of text y) ≡ None → NoContinuation (map (terminal_of text) (ys ++ y ∷ []))
        none_left r more w =
            let q = sym (walked_off s.node (terminal_of text y) more r) ∙ sym (from_there text ys y e more) ∙ w in
            let z : ◌≡◌ {A = ℕ} 0 1 = cc in
            omega arith

    back : NoContinuation (map (terminal_of text) (ys ++ y ∷ [])) ⊎ NamedTwice text s y → stepped text s y ≡ reading.refuse symbol_not_allowed (start_of y)
    back f = ⊎_elim (λ c. no_rule_back text s y (go c (picked (rules s.node) (terminal_of text y)) refl) n) (λ t. named_back text s y t) f
      where
        go : NoContinuation (map (terminal_of text) (ys ++ y ∷ [])) → (o : Option Rule) → picked (rules s.node) (terminal_of text y) ≡ o → o ≡ None
        go c None g = refl
        go c (Some r) g =
            let l = live r.next in
            absurd (c l.0 (from_there text ys y e l.0 ∙ walked_on s.node (terminal_of text y) l.0 g ∙ l.1))

-- ---- at one place the lower number

-- a number that is not as it is asked gets 4
unfit_refused : (text : List ℕ) (s : Standing) (y : Symbol) → UnfitNumber text s y → stepped text s y ≡ reading.refuse number_out_of_range (start_of y)
unfolding stepped acted
unfit_refused text s y u = rw (u.picks, u.reads, u.outside)

pub lower_number : LowerNumber
unfolding LowerNumber stepped
lower_number text ys y s e n p f = by_place (is_nothing (terminal_of text y)) refl
  where
    Three : Type 0
    Three = NoContinuation (map (terminal_of text) (ys ++ y ∷ [])) ⊎ NamedTwice text s y

    -- where no symbol begins there is no rule, and 2
    at_nothing : is_nothing (terminal_of text y) ≡ true → stepped text s y ≡ reading.refuse no_symbol (start_of y)
    at_nothing h = rw (ap (picked (rules s.node)) (same_terminal_holds (terminal_of text y) nothing h) ∙ none_at_nothing s.node, h)

    -- another number of an action is given only where there is no 3
    allowed : is_nothing (terminal_of text y) ≡ false → (n ≡ symbol_not_allowed → ⊥) → Three → ⊥
    allowed h k c = k (let q = sym f ∙ (three_exactly text ys y s e h).1 c in let z : n ≡ symbol_not_allowed = cc in z)

    -- nor is 9, where there is a 4
    fit : (n ≡ number_out_of_range → ⊥) → UnfitNumber text s y → ⊥
    fit k u = k (let q = sym f ∙ unfit_refused text s y u in let z : n ≡ number_out_of_range = cc in z)

    why : is_nothing (terminal_of text y) ≡ false → (r : Rule) → picked (rules s.node) (terminal_of text y) ≡ Some r → (k : ℕ) → k ≡ n
        → Why text s.kept (span_of y) r.action k → Refused text ys s y n
    why h r q _ z outside = subst (Refused text ys s y) z (four h (allowed h (λ b. omega (arith, b, z))))
    why h r q _ z full = subst (Refused text ys s y) z (nine h (allowed h (λ b. omega (arith, b, z))) (fit (λ b. omega (arith, b, z))))
    why h r q _ z (again {u = u} {v = v} k a j w) =
        subst (Refused text ys s y) z (three h (inr (record { rule = r; picks = q; purpose = u; key = k; reads = a; value = v; is = j; named = w })))
    why h r q _ z (held_key k a) = absurd (held_no_key s.node (terminal_of text y) q k a)

    by_action_holds : is_nothing (terminal_of text y) ≡ false → (r : Rule) → picked (rules s.node) (terminal_of text y) ≡ Some r → (o : Outcome)
        → Explained text s.kept (span_of y) r.action o → then_at r.next o ≡ reading.refuse n p → Refused text ys s y n
    by_action_holds h r q (Err e) g w = let z : number_of e.reason ≡ n = cc in why h r q (number_of e.reason) z g
    by_action_holds h r q (Ok (t, None)) g w = let z : ◌≡◌ {A = ℕ} 0 1 = cc in absurd (omega arith)
    by_action_holds h r q (Ok (t, Some i)) g w = let z : ◌≡◌ {A = ℕ} 0 1 = cc in absurd (omega arith)

    by_rule_step : is_nothing (terminal_of text y) ≡ false → (o : Option Rule) → picked (rules s.node) (terminal_of text y) ≡ o
        → by_rule text s.kept y o ≡ reading.refuse n p → Refused text ys s y n
    by_rule_step h None q w =
        let r = no_rule_back text s y q h in
        let g = sym r ∙ f in
        let z : symbol_not_allowed ≡ n = cc in
        subst (Refused text ys s y) z (three h ((three_exactly text ys y s e h).0 r))
    by_rule_step h (Some r) q w =
        by_action_holds h r q (acted text s.kept r.action (span_of y)) (acted_why text s.kept (span_of y) r.action) w

    by_place : (b : Bool) → is_nothing (terminal_of text y) ≡ b → Refused text ys s y n
    by_place true h =
        let g = sym (at_nothing h) ∙ f in
        let z : no_symbol ≡ n = cc in
        subst (Refused text ys s y) z (two h)
    by_place false h = by_rule_step h (picked (rules s.node) (terminal_of text y)) refl f
