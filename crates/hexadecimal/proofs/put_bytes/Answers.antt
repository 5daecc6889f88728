-- The loop's invariant: the bytes before i are written.
use Prim.Native.Nat.{ℕ, ◌+◌, ◌<◌}
use mathlib.Core.Path.{◌≡◌, sym, ap, ◌∙◌}
use mathlib.Core.List.{List, [], ◌∷◌}
use native.Mathlib.Numerals.{add-one}
use native.Mathlib.Omega.{arith}
use lib.ListN.{length, take, get_or}
use lib.Seq.{take-suc, length-take-le}
use Rattle.hexadecimal.specs.Lines.{written}
use Rattle.hexadecimal.proofs.Written.{written_none, written_then}
use Rattle.hexadecimal.proofs.put_bytes.Goals as goal

-- one byte more
next_written : {u v : List ℕ} (l : List ℕ) (k : ℕ) (bs : List ℕ) (i : ℕ) → i < length bs → u ≡ written l k (take i bs) → v ≡ written u (k + i) (get_or bs i 0 ∷ [])
    → v ≡ written l k (take (i + 1) bs)
next_written l k bs i h e f =
    written_then l k (take i bs) (get_or bs i 0 ∷ []) (k + i) e f (omega (arith, length-take-le i bs (omega arith)))
    ∙ ap (λ (w : List ℕ). written l k w) (sym (take-suc bs i 0 h) ∙ ap (λ (n : ℕ). take n bs) (sym (add-one i)))

pub loop-i-init : goal.loop-i-init
loop-i-init c = sym (written_none _ _)

pub loop-i-preserved : goal.loop-i-preserved
loop-i-preserved c = next_written c.args.buf.now c.args.at c.args.bytes.now c.loop-i.i c.loop-i-test.true c.loop-i.invariant c.put_byte.ensures
