-- Laws of the syntax diagrams and of their moves. What holds of all rules is one test that antt computes over them.
-- Assumes nothing.
use mathlib.Core.Bool.{Bool, true, false, cond}
use mathlib.Core.List.{List, [], ◌∷◌}
use Rattle.std.specs.Prelude.{Option, Some, None}
use mathlib.Core.Path.{◌≡◌, refl, sym, ◌∙◌, ap, subst}
use Prim.Native.Nat.{ℕ, ◌*◌, ◌/◌, ◌%◌, ◌≤◌, ◌<◌}
use native.Mathlib.Omega.{arith}
use borrow.Author.Tests.{eqb-true}
use lib.Dec.{T, eqb, ltb, ltb→lt, eqb→eq}
use lib.ListN.{length, get_or, get_or-eq_default}
use Rattle.grammar.specs.declared.Action.{Action}
use Rattle.grammar.specs.declared.Action.TheVariants.{Pass}
use Rattle.grammar.specs.Syntax.{Terminal, end, nothing, Node, Finish, Rule, rules}
use Rattle.grammar.specs.Terminals.{terminal_number, same_terminal, is_nothing, picked}
use Rattle.grammar.specs.Moves.{node_number, nodes, node_at, terminals, terminal_at, action_number, action_at, move_by, move_of, MovesByName, next_by, action_by, next_entry, action_entry, node_count, terminal_count, next_table, action_table, Moves}
use Rattle.grammar.proofs.ActionNumbers.{action_back}
use Rattle.grammar.proofs.Numbered.{terminal_back, node_back}
use Rattle.grammar.proofs.Table.{at, length_tabulate, both, both_left, both_right, each, read_of}

-- ---- nodes and terminals by their numbers

pub moves_by_name : MovesByName
unfolding move_of
moves_by_name n t =
    ap (λ (q : Node). move_by (picked (rules q) (terminal_at (terminal_number t)))) (node_back n) ∙ ap (λ (u : Terminal). move_by (picked (rules n) u)) (terminal_back t)

pub same_node : (n m : Node) → node_number n ≡ node_number m → n ≡ m
same_node n m e = sym (node_back n) ∙ ap node_at e ∙ node_back m

pub same_terminal_holds : (t u : Terminal) → same_terminal t u ≡ true → t ≡ u
same_terminal_holds t u e = sym (terminal_back t) ∙ ap terminal_at (eqb-true (terminal_number t) (terminal_number u) e) ∙ terminal_back u

pub terminal_below : (t : Terminal) → terminal_number t < terminal_count
terminal_below t = ltb→lt _ _ (subst (λ (u : Terminal). T (small u)) (terminal_back t) (read_of small terminals nothing tt tt (terminal_number t)))
  where
    small : Terminal → Bool
    small u = ltb (terminal_number u) terminal_count

pub not_nothing : (t : Terminal) → (t ≡ nothing → ⊥) → is_nothing t ≡ false
not_nothing t n = go (is_nothing t) refl
  where
    go : (b : Bool) → is_nothing t ≡ b → b ≡ false
    go true e = absurd (n (same_terminal_holds t nothing e))
    go false e = refl

-- a test that passes at each of the nodes
pub at_each : (f : Node → Bool) → T (each f nodes) → T (f Finish) → (n : Node) → T (f n)
at_each f h k n = subst (λ (q : Node). T (f q)) (node_back n) (read_of f nodes Finish h k (node_number n))

pub node_below : (n : Node) → node_number n < node_count
node_below n = ltb→lt _ _ (at_each low tt tt n)
  where
    low : Node → Bool
    low m = ltb (node_number m) node_count

-- ---- the rule that is picked for a terminal is one of the list, and is for that terminal

pub picked_of : (f : Rule → Bool) (rs : List Rule) (t : Terminal) {r : Rule} → T (each f rs) → picked rs t ≡ Some r → T (f r) × (t ≡ r.symbol)
unfolding picked
picked_of f [] t h e = let z : ◌≡◌ {A = ℕ} 0 1 = cc in absurd (omega arith)
picked_of f (x ∷ xs) t {r} h e = go (same_terminal t x.symbol) refl (λ q. picked_of f xs t (both_right (f x) (each f xs) h) q) e
  where
    go : (b : Bool) → same_terminal t x.symbol ≡ b → (picked xs t ≡ Some r → T (f r) × (t ≡ r.symbol))
        → elim b [ true ↦ Some x | false ↦ picked xs t ] ≡ Some r → T (f r) × (t ≡ r.symbol)
    go true p later q =
        let s : x ≡ r = cc in
        (subst (λ (y : Rule). T (f y)) s (both_left (f x) (each f xs) h), same_terminal_holds t x.symbol p ∙ ap (λ (y : Rule). y.symbol) s)
    go false p later q = later q

-- ---- at the text's end, and where no symbol begins

-- no rule is for a place where no symbol begins; the end, and no other symbol, leads to the last node, and nothing is done there
ends : Rule → Bool
ends r =
    both (cond (is_nothing r.symbol) false true)
    (let last = eqb (node_number r.next) (node_number Finish) in
    cond (same_terminal r.symbol end) (both last (eqb (action_number r.action) (action_number Pass))) (cond last false true))

all_end : Node → Bool
all_end q = each ends (rules q)

ending : (n : Node) (t : Terminal) {r : Rule} → picked (rules n) t ≡ Some r → T (ends r) × (t ≡ r.symbol)
unfolding all_end ends rules
ending n t e = picked_of ends (rules n) t (at_each all_end tt tt n) e

pub none_at_nothing : (n : Node) → picked (rules n) nothing ≡ None
unfolding ends
none_at_nothing n = go (picked (rules n) nothing) refl
  where
    go : (o : Option Rule) → picked (rules n) nothing ≡ o → o ≡ None
    go None e = refl
    go (Some r) e = let p = ending n nothing e in let q = rw (sym p.1) at p.0 in absurd q

pub finish_at_end : (n : Node) {r : Rule} → picked (rules n) end ≡ Some r → (r.next ≡ Finish) × (r.action ≡ Pass)
unfolding ends action_at
finish_at_end n {r} e =
    let p = ending n end e in
    let q = rw (sym p.1) at p.0 in
    let last = eqb (node_number r.next) (node_number Finish) in
    let passes = eqb (action_number r.action) (action_number Pass) in (
      same_node r.next Finish (eqb→eq (node_number r.next) (node_number Finish) (both_left last passes q)),
      sym (action_back r.action) ∙ ap action_at (eqb→eq (action_number r.action) (action_number Pass) (both_right last passes q)),
    )

pub end_at_finish : (n : Node) (t : Terminal) {r : Rule} → picked (rules n) t ≡ Some r → r.next ≡ Finish → t ≡ end
unfolding ends
end_at_finish n t {r} e f = go (same_terminal r.symbol end) refl
  where
    p : T (ends r) × (t ≡ r.symbol)
    p = ending n t e

    go : (b : Bool) → same_terminal r.symbol end ≡ b → t ≡ end
    go true q = p.1 ∙ same_terminal_holds r.symbol end q
    go false q = let w = rw (q, f) at (both_right (cond (is_nothing r.symbol) false true) _ p.0) in absurd w

-- ---- where there is no move

pub past_nodes : (k t : ℕ) → node_count ≤ k → None ≡ move_of k t
unfolding move_of picked rules
past_nodes k t h = ap (λ (q : Node). move_by (picked (rules q) (terminal_at t))) (sym (get_or-eq_default nodes Finish h))

pub past_terminals : (k t : ℕ) → terminal_count ≤ t → None ≡ move_of k t
unfolding move_of
past_terminals k t h =
    ap move_by (sym (none_at_nothing (node_at k))) ∙ ap (λ (u : Terminal). move_by (picked (rules (node_at k)) u)) (sym (get_or-eq_default terminals nothing h))

-- ---- where a rule leads to

-- no rule leads to the first node
leaves : Rule → Bool
leaves r = ltb 0 (node_number r.next)

all_leave : Node → Bool
all_leave q = each leaves (rules q)

leaving : (n : Node) (t : Terminal) {r : Rule} → picked (rules n) t ≡ Some r → 0 < node_number r.next
unfolding all_leave leaves rules
leaving n t e = ltb→lt _ _ (picked_of leaves (rules n) t (at_each all_leave tt tt n) e).0

-- ---- a move by the numbers of its node and its action

-- an entry of the code's tables is what the rules compute
module _ {next acts : List ℕ} (m : Moves next acts) where
  pub next_size : length next ≡ node_count * terminal_count
  unfolding next_table
  next_size = ap length m.nodes ∙ length_tabulate next_entry 0 (node_count * terminal_count)

  pub acts_size : length acts ≡ node_count * terminal_count
  unfolding action_table
  acts_size = ap length m.actions ∙ length_tabulate action_entry 0 (node_count * terminal_count)

  module _ (i : ℕ) (h : i < node_count * terminal_count) where
    pub next_at : get_or next i 0 ≡ next_entry i
    unfolding next_table
    next_at = ap (λ (l : List ℕ). get_or l i 0) m.nodes ∙ at next_entry (node_count * terminal_count) i h

    pub act_at : get_or acts i 0 ≡ action_entry i
    unfolding action_table
    act_at = ap (λ (l : List ℕ). get_or l i 0) m.actions ∙ at action_entry (node_count * terminal_count) i h

module _ (k t i : ℕ) (row : i / terminal_count ≡ k) (column : i % terminal_count ≡ t) {n : ℕ} (next : n ≡ next_entry i) where
  pub no_move_step : n ≡ 0 → None ≡ move_of k t
  unfolding move_of
  no_move_step z = go (picked (rules (node_at k)) (terminal_at t)) refl (next ∙ rw (row, column))
    where
      go : (o : Option Rule) → picked (rules (node_at k)) (terminal_at t) ≡ o → n ≡ next_by o → None ≡ move_by o
      go None e q = refl
      go (Some r) e q = let f = leaving (node_at k) (terminal_at t) e in absurd (omega (arith, f))

  pub moved : (n ≡ 0 → ⊥) → {a : Action} → a ≡ action_at (action_entry i) → Some (a, n) ≡ move_of k t
  unfolding move_of
  moved z {a} e = go (picked (rules (node_at k)) (terminal_at t)) (next ∙ rw (row, column)) (e ∙ rw (row, column))
    where
      go : (o : Option Rule) → n ≡ next_by o → a ≡ action_at (action_by o) → Some (a, n) ≡ move_by o
      go None q f = absurd (z q)
      go (Some r) q f = rw (q, f, action_back r.action)
