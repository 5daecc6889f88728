-- What is written into a buffer, one put after the other.
use Prim.Native.Nat.{ℕ, suc, ◌+◌, ◌*◌, ◌/◌, ◌%◌, ◌≤◌, ◌<◌}
use mathlib.Core.Path.{◌≡◌, refl, sym, ◌∙◌, ap}
use mathlib.Core.List.{List, [], ◌∷◌, ◌++◌}
use native.Mathlib.Nat.{zero-add}
use native.Mathlib.Numerals.{add-one}
use native.Mathlib.Omega.{arith}
use lib.ListN.{length, drop, set, length-append}
use lib.Seq.{sets, sets-eq, length-sets, set_out}
use Rattle.hexadecimal.specs.Digits.{radix, hex_of, hexes}
use Rattle.hexadecimal.specs.Lines.{written, line_feed, line_of, begun_with}

-- ---- stores from a place on

-- stores, and stores from where they ended
sets_append : (l : List ℕ) (i : ℕ) (vs ws : List ℕ) (n : ℕ) → n ≡ i + length vs → sets (sets l i vs) n ws ≡ sets l i (vs ++ ws)
sets_append l i [] ws n e = let k : n ≡ i = omega arith in ap (λ (m : ℕ). sets l m ws) k
sets_append l i (v ∷ vs) ws n e = sets_append (set l i v) (suc i) vs ws n (omega arith)

-- stores past the end
sets_out : (l : List ℕ) (i : ℕ) (vs : List ℕ) → length l ≤ i → sets l i vs ≡ l
sets_out l i [] h = refl
sets_out l i (v ∷ vs) h = rw (set_out l i v h) (sets_out l (suc i) vs (omega arith))

-- ---- digits

pub hexes_append : (xs bs : List ℕ) → hexes (xs ++ bs) ≡ hexes xs ++ hexes bs
unfolding hexes
hexes_append [] bs = refl
hexes_append (a ∷ xs) bs = rw (hexes_append xs bs)

pub length_hexes : (bs : List ℕ) → length (hexes bs) ≡ 2 * length bs
unfolding hexes
length_hexes [] = refl
length_hexes (b ∷ bs) = omega (arith, length_hexes bs)

pub length_line : (bs : List ℕ) → length (line_of bs) ≡ 2 * length bs + 1
length_line bs = simp length-append (omega (arith, length_hexes bs))

-- ---- bytes written into a buffer l from byte k on

pub length_written : (l : List ℕ) (k : ℕ) (bs : List ℕ) → length (written l k bs) ≡ length l
unfolding written
length_written l k bs = length-sets l _ (hexes bs)

-- none
pub written_none : (l : List ℕ) (k : ℕ) → written l k [] ≡ l
unfolding written hexes
written_none l k = refl

-- one: two stores
pub written_one : (l : List ℕ) (k b : ℕ) → set (set l (2 * k) (hex_of (b / radix))) (2 * k + 1) (hex_of (b % radix)) ≡ written l k (b ∷ [])
unfolding written hexes
written_one l k b = rw (add-one (2 * k))

-- past the end of the buffer
pub written_out : (l : List ℕ) (k : ℕ) (bs : List ℕ) → length l ≤ k → written l k bs ≡ l
unfolding written
written_out l k bs h = sets_out l (2 * k) (hexes bs) (omega arith)

-- bytes after bytes are all of them
pub written_append : (l : List ℕ) (k : ℕ) (xs bs : List ℕ) (n : ℕ) → n ≡ k + length xs → written (written l k xs) n bs ≡ written l k (xs ++ bs)
unfolding written
written_append l k xs bs n e =
    sets_append l (2 * k) (hexes xs) (hexes bs) (2 * n) (omega (arith, length_hexes xs))
    ∙ ap (λ (w : List ℕ). sets l (2 * k) w) (sym (hexes_append xs bs))

-- the same of the buffers u and v that two puts leave
pub written_then : {u v : List ℕ} (l : List ℕ) (k : ℕ) (xs bs : List ℕ) (n : ℕ) → u ≡ written l k xs → v ≡ written u n bs → n ≡ k + length xs
    → v ≡ written l k (xs ++ bs)
written_then l k xs bs n e f h = f ∙ ap (λ (w : List ℕ). written w n bs) e ∙ written_append l k xs bs n h

-- and a line feed after all bytes of an answer
pub line_written : {u v : List ℕ} (l bs : List ℕ) (n : ℕ) → u ≡ written l 0 bs → v ≡ set u n line_feed → n ≡ 2 * length bs → n < length l
    → v ≡ begun_with (line_of bs) l
unfolding written
line_written l bs n e f h k =
    let m = length_hexes bs in
    f
    ∙ ap (λ (w : List ℕ). set w n line_feed) e
    ∙ sets_append l 0 (hexes bs) (line_feed ∷ []) n (omega arith)
    ∙ sets-eq (line_of bs) l 0 (simp length-append (omega arith))
    ∙ ap (λ (j : ℕ). line_of bs ++ drop j l) (zero-add (length (line_of bs)))
