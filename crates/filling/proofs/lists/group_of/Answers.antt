-- The items up to the first with which a position begins.
use mathlib.Core.Path.{◌≡◌, refl, ◌∙◌, ap}
use mathlib.Core.Bool.{Bool, true, false, cond}
use Prim.Native.Nat.{ℕ, ◌≤◌}
use native.Mathlib.Omega.{arith}
use borrow.Author.Tests.{ltb-false}
use Rattle.std.specs.Prelude.{Option, Some, None}
use lib.Dec.{ltb}
use lib.ListN.{length, take}
use Rattle.std.specs.Option.{unwrap_or}
use Rattle.std.specs.List.{position_or_len}
use Rattle.std.proofs.Common.{rules, tests}
use Rattle.std.proofs.lemmas.List.Sums.{prefix_len-le-length}
use Rattle.std.proofs.lemmas.Iterator.{YieldsList-from_slice}
use Rattle.std.proofs.lemmas.Iterator.Search.{position_from_yields_List}
use Rattle.grammar.specs.declared.Item.{Item}
use Rattle.names.specs.Parts.{part}
use Rattle.program.specs.Program.{terms_of}
use Rattle.filling.specs.Inner.{begins}
use Rattle.filling.proofs.Groups.{group_here}
use Rattle.filling.proofs.lists.group_of.Goals as goal

-- the first place, or the length
or_length : (k m : ℕ) → k ≤ m → unwrap_or (cond (ltb k m) (Some k) None) m ≡ k
or_length k m h = go (ltb k m) refl
  where
    go : (b : Bool) → ltb k m ≡ b → unwrap_or (cond b (Some k) None) m ≡ k
    go true e = refl
    go false e = let l = ltb-false k m e in omega arith

pub returns : goal.returns
returns c =
    let items = c.args.items.now in
    let p = position_from_yields_List (λ (i : Item). begins (part i)) _ _ _ c.position.ensures.ran (YieldsList-from_slice items (cc)) (λ x b q k. search (rules, tests)) in
    let n : c.unwrap_or-end.result ≡ position_or_len (λ (i : Item). begins (part i)) items =
    c.unwrap_or-end.ensures ∙ ap (λ (o : Option ℕ). unwrap_or o (length items)) p ∙ or_length (position_or_len (λ (i : Item). begins (part i)) items) (length items) (prefix_len-le-length _ items) in
    ap (λ k. terms_of (take k items)) n ∙ group_here items
