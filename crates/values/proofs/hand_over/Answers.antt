-- The loop's invariant: the front of the table has the values of the memo before `i`.
use Prim.Native.Nat.{ℕ, zero, suc, ◌≤◌, ◌<◌}
use mathlib.Core.Path.{◌≡◌, refl, ap}
use mathlib.Core.List.{List, [], ◌∷◌, ◌++◌, map}
use native.Mathlib.Numerals.{add-one}
use native.Mathlib.Omega.{arith}
use borrow.Author.Rules.{rules}
use lib.ListN.{length, get_or, take, drop, set}
use mir.Facts.{to_z-of_z}
use mir.Syntax.{w64}
use mir.Val.{SFits}
use Rattle.values.proofs.hand_over.Goals as goal

one_more_holds : {A B : Type 0} (f : A → B) (m : List A) (d : A) (t : List B) (i : ℕ) → i < length m → length m ≤ length t
    → set (map f (take i m) ++ drop i t) i (f (get_or m i d)) ≡ map f (take (suc i) m) ++ drop (suc i) t
one_more_holds f [] d t i h k = absurd (omega arith)
one_more_holds f (x ∷ m) d [] i h k = absurd (omega arith)
one_more_holds f (x ∷ m) d (y ∷ t) zero h k = refl
one_more_holds f (x ∷ m) d (y ∷ t) (suc i) h k = ap (λ l. f x ∷ l) (one_more_holds f m d t i (omega arith) (omega arith))

pub loop-i-preserved : goal.loop-i-preserved
loop-i-preserved c =
    let f : SFits w64 c.unwrap_or.result = search rules in
    rw (to_z-of_z f, c.unwrap_or.ensures, c.flatten.ensures, c.loop-i.invariant, add-one) (one_more_holds _ c.args.memo.now _ c.args.table.now c.loop-i.i c.loop-i-test.true c.requires)
