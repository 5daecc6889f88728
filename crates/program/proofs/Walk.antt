-- What each step keeps holds of all that is read: an induction, from the end of the text back, over a text that is read to its end.
-- Assumes nothing.
use mathlib.Core.Path.{◌≡◌, refl, sym, ◌∙◌, subst, subst₂}
use mathlib.Core.Bool.{Bool, true, false, cond}
use mathlib.Core.List.{List, [], ◌∷◌}
use Rattle.status.specs.declared.Refusal.{Refusal}
use Rattle.status.proofs.ReasonNumbers.{never_done}
use Rattle.std.specs.Prelude.{Option, Some, None, Ok, Err}
use Rattle.std.proofs.lemmas.Option.{none-some}
use Prim.Native.Nat.{ℕ, zero, suc, ◌+◌, ◌≤◌, ◌<◌}
use native.Mathlib.Omega.{arith}
use lib.Dec.{leb}
use lib.ListN.{length}
use Rattle.status.specs.Status.{done, no_symbol, symbol_not_allowed, text_too_long}
use Rattle.symbols.specs.declared.Symbol.{Symbol}
use Rattle.symbols.specs.declared.Symbol.TheVariants as symbol
use Rattle.symbols.specs.Symbols.{next_symbol, after, symbols_from, symbols}
use Rattle.symbols.proofs.Progress.{after_within, going_on, symbols_next}
use Rattle.grammar.specs.declared.Action.{Action}
use Rattle.grammar.specs.declared.Item.{Item}
use Rattle.grammar.specs.declared.Progress.{Progress}
use Rattle.grammar.specs.Syntax.{Node, Begin, Finish, Rule, rules}
use Rattle.grammar.specs.Terminals.{picked, is_nothing, terminal_of, start_of, span_of}
use Rattle.grammar.specs.Reading.{Outcome, Read, acted, Standing, standing, Moved, then_at, by_rule, stepped, begun, with, refused_at, read_from, most_bytes, read_items}
use Rattle.grammar.specs.Reading as reading
use Rattle.grammar.proofs.Diagrams.{none_at_nothing, finish_at_end}

-- what an outcome keeps: where X holds of what is still to come after it, B holds of what is to come from here on
pub data Keeps (X : Progress → List Item → Type 0) (B : List Item → Type 0) : Outcome → Type 0 where
  refuses : (e : Refusal) → Keeps X B (Err e)
  goes : (t : Progress) → ((is : List Item) → X t is → B is) → Keeps X B (Ok (t, None))
  gives : (t : Progress) (i : Item) → ((is : List Item) → X t is → B (i ∷ is)) → Keeps X B (Ok (t, Some i))

-- what is read after a step
abbrev turned : List ℕ → Moved → List Symbol → Read
turned text o ys =
    elim o [
      | reading.refuse n p ↦ refused_at n p
      | reading.go t ↦ read_from text t ys
      | reading.give t i ↦ with i (read_from text t ys)
    ]

-- B holds of the items, if all is read
abbrev Whole : (List Item → Type 0) → Read → Type 0
Whole B r = r.number ≡ done → B r.items

-- A n s is: what holds, in node n with progress s, of the items `is` that are still to come
module _ (text : List ℕ) (A : Node → Progress → List Item → Type 0) where
  abbrev From : Standing → List Item → Type 0
  From s is = A s.node s.kept is

  -- each step by a rule keeps A
  abbrev pub Kept : Type 0
  Kept = (n : Node) (s : Progress) (y : Symbol) (r : Rule) → picked (rules n) (terminal_of text y) ≡ Some r
      → Keeps (A r.next) (A n s) (acted text s r.action (span_of y))

  module _ (finished : (s : Progress) → A Finish s []) (kept : Kept) where
    turn : (n : Node) (B : List Item → Type 0) (o : Outcome) (ys : List Symbol) → Keeps (A n) B o
        → ((t : Standing) → Whole (From t) (read_from text t ys)) → Whole B (turned text (then_at n o) ys)
    turn n B (Err _) ys (refuses k) later e = absurd (never_done k.reason e)
    turn n B (Ok (t, None)) ys (goes _ f) later e = f _ (later (standing n t) e)
    turn n B (Ok (t, Some i)) ys (gives _ _ f) later e = f _ (later (standing n t) e)

    -- a step by a rule, or none
    by_rule_step : (s : Standing) (y : Symbol) (ys : List Symbol)
        → ((r : Rule) → picked (rules s.node) (terminal_of text y) ≡ Some r
        → Whole (From s) (turned text (then_at r.next (acted text s.kept r.action (span_of y))) ys))
        → Whole (From s) (read_from text s (y ∷ ys))
    unfolding read_from stepped
    by_rule_step s y ys h = go (picked (rules s.node) (terminal_of text y)) refl
      where
        refused : (b : Bool) → Whole (From s) (refused_at (cond b no_symbol symbol_not_allowed) (start_of y))
        refused true e = absurd (omega arith)
        refused false e = absurd (omega arith)

        go : (o : Option Rule) → picked (rules s.node) (terminal_of text y) ≡ o → Whole (From s) (turned text (by_rule text s.kept y o) ys)
        go None q = refused (is_nothing (terminal_of text y))
        go (Some r) q = h r q

    onward : (s : Standing) (y : Symbol) (ys : List Symbol) → ((t : Standing) → Whole (From t) (read_from text t ys))
        → Whole (From s) (read_from text s (y ∷ ys))
    onward s y ys later =
        by_rule_step s y ys (λ r q. turn r.next (From s) (acted text s.kept r.action (span_of y)) ys (kept s.node s.kept y r q) later)

    at_bad : (s : Standing) (p : ℕ) → Whole (From s) (read_from text s (symbol.Bad p ∷ []))
    unfolding terminal_of
    at_bad s p = by_rule_step s (symbol.Bad p) [] (λ r q. absurd (none-some r (sym (none_at_nothing s.node) ∙ q)))

    -- the end leads to the last node, and nothing is done there
    at_end : (s : Standing) (p : ℕ) → Whole (From s) (read_from text s (symbol.End p ∷ []))
    unfolding terminal_of acted read_from
    at_end s p = by_rule_step s (symbol.End p) [] (λ r q.
        let g = finish_at_end s.node q in
        subst₂
        (λ (n : Node) (a : Action). Keeps (A n) (From s) (acted text s.kept a (span_of (symbol.End p)))
        → Whole (From s) (turned text (then_at n (acted text s.kept a (span_of (symbol.End p)))) []))
        (sym g.0) (sym g.1) (λ f e. finishing f) (kept s.node s.kept (symbol.End p) r q))
      where
        finishing : Keeps (A Finish) (From s) (Ok (s.kept, None)) → From s []
        finishing (goes _ f) = f [] (finished s.kept)

    from_place : (m at : ℕ) → length text < m + at → at ≤ length text → (s : Standing) → Whole (From s) (read_from text s (symbols_from text at))
    unfolding after
    from_place zero at h w s = absurd (omega arith)
    from_place (suc m) at h w s =
        subst (λ (ys : List Symbol). Whole (From s) (read_from text s ys)) (sym (symbols_next text at w))
        (go (next_symbol text at) (λ b e t. let l = after_within text at w e in from_place m b (omega arith) l.1 t))
      where
        go : (y : Symbol) → ((b : ℕ) → after y ≡ Some b → (t : Standing) → Whole (From t) (read_from text t (symbols_from text b)))
            → Whole (From s) (read_from text s (y ∷ going_on text (after y)))
        go (symbol.Bad p) later = at_bad s p
        go (symbol.End p) later = at_end s p
        go (symbol.Name a b) later = onward s (symbol.Name a b) (symbols_from text b) (later b refl)
        go (symbol.Number a b) later = onward s (symbol.Number a b) (symbols_from text b) (later b refl)
        go (symbol.Mark k a b) later = onward s (symbol.Mark k a b) (symbols_from text b) (later b refl)

    pub walk : (read_items text).number ≡ done → A Begin begun.kept (read_items text).items
    unfolding read_items symbols
    walk = go (leb (length text) most_bytes)
      where
        go : (b : Bool) → Whole (A Begin begun.kept) (cond b (read_from text begun (symbols text)) (refused_at text_too_long 0))
        go true = from_place (length text + 1) 0 (omega arith) (omega arith) begun
        go false = λ e. absurd (omega arith)
