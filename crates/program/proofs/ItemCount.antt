-- A text has no more items than symbols, and no more symbols than bytes and its end.
-- Assumes nothing.
use mathlib.Core.Path.{◌≡◌, refl}
use mathlib.Core.Bool.{Bool, true, false, cond}
use mathlib.Core.List.{List, [], ◌∷◌}
use Rattle.std.specs.Prelude.{Option, Some, None}
use Prim.Native.Nat.{ℕ, zero, suc, ◌+◌, ◌≤◌}
use native.Mathlib.Omega.{arith}
use borrow.Author.Tests.{leb-true}
use lib.Dec.{leb}
use lib.ListN.{length}
use Rattle.limits.specs.Limits.{most_bytes}
use Rattle.status.specs.Status.{text_too_long}
use Rattle.grammar.specs.declared.Item.{Item}
use Rattle.symbols.specs.declared.Symbol.{Symbol}
use Rattle.symbols.specs.Symbols.{next_symbol, after, cut, symbols_from, symbols}
use Rattle.grammar.specs.Reading.{Read, Standing, Moved, refuse, go, give, stepped, begun, with, refused_at, read_from, read_items}

cut_few : (n : ℕ) (text : List ℕ) (at : ℕ) → length (cut n text at) ≤ n
unfolding cut
cut_few zero text at = omega arith
cut_few (suc n) text at = on (after (next_symbol text at)) (λ e. cut_few n text e)
  where
    on : (o : Option ℕ) → ((e : ℕ) → length (cut n text e) ≤ n) → suc (length {A = Symbol} (elim o [ None ↦ [] | Some end ↦ cut n text end ])) ≤ suc n
    on None h = omega arith
    on (Some e) h = let l = h e in omega arith

abbrev items_of : Read → List Item
items_of r = r.items

read_few : (text : List ℕ) (s : Standing) (ys : List Symbol) → length (read_from text s ys).items ≤ length ys
unfolding read_from
read_few text s [] = omega arith
read_few text s (y ∷ ys) = on (stepped text s y) (λ t. read_few text t ys)
  where
    on : (m : Moved) → ((t : Standing) → length (read_from text t ys).items ≤ length ys)
        → length (items_of (elim m [ refuse n p ↦ refused_at n p | go t ↦ read_from text t ys | give t i ↦ with i (read_from text t ys) ])) ≤ suc (length ys)
    on (refuse n p) h = omega arith
    on (go t) h = let l = h t in omega arith
    on (give t i) h = let l = h t in omega arith

pub few_items : (text : List ℕ) → length (read_items text).items ≤ most_bytes + 1
unfolding read_items symbols symbols_from
few_items text = on (leb (length text) most_bytes) refl
  where
    on : (b : Bool) → leb (length text) most_bytes ≡ b
        → length (cond b (read_from text begun (cut (length text + 1) text 0)) (refused_at text_too_long 0)).items ≤ most_bytes + 1
    on true e = omega (arith, read_few text begun (cut (length text + 1) text 0), cut_few (length text + 1) text 0, leb-true (length text) most_bytes e)
    on false e = omega arith
