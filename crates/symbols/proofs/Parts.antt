-- Laws of the part of a text from one place to another, where the second may lie beyond the text: `e` is it, or the text's length.
-- Assumes nothing.
use Prim.Native.Nat.{ℕ, ◌+◌, ◌-◌, ◌<◌, ◌≤◌, min}
use mathlib.Core.Path.{◌≡◌, sym, ◌∙◌, ap}
use mathlib.Core.List.{List, [], ◌∷◌}
use mathlib.Core.Bool.{Bool}
use native.Mathlib.Nat.{min-eq_left, min-eq_right, le_refl}
use native.Mathlib.Numerals.{add-one}
use native.Mathlib.Omega.{arith}
use native.Mathlib.Decide.{dec_le}
use lib.ListN.{length, get_or, take, drop, drop_of_length-le, length-take, length-drop}
use lib.Seq.{slice, drop-cons, drop_at, get_or-take, take-add, take_all, take-length, length-take-le}
use Rattle.symbols.specs.Bytes.{take_while}
use Rattle.symbols.specs.Symbols.{run_end}
use Rattle.symbols.proofs.Scan.{run_short, while_front}

pub part_empty : (text : List ℕ) (start end : ℕ) → end ≤ start → slice start end text ≡ []
part_empty text start end h =
    let l : length (take end text) ≤ start = simp length-take (omega arith) in
    drop_of_length-le (take end text) l

pub part_cons : (text : List ℕ) (start end : ℕ) → start < end → start < length text
    → slice start end text ≡ get_or text start 0 ∷ slice (start + 1) end text
part_cons text start end h l =
    let m : start < length (take end text) = simp length-take (omega arith) in
    rw (drop-cons (take end text) start 0 m, get_or-take end text start 0 h, add-one)

module _ (text : List ℕ) (start end : ℕ) {e : ℕ} (w : e ≡ min end (length text)) where
  pub part_within : slice start end text ≡ slice start e text
  part_within = ap (drop start) (go (dec_le end (length text)))
    where
      go : Dec (end ≤ length text) → take end text ≡ take e text
      go (yes h) = rw (w, min-eq_left h)
      go (no h) =
          let l : length text ≤ end = omega arith in
          rw (w, min-eq_right l, take_all end text l, take-length text)

  pub part_none : e ≤ start → slice start end text ≡ []
  part_none h = part_within ∙ part_empty text start e h

  pub part_some : start < e → slice start end text ≡ get_or text start 0 ∷ slice (start + 1) e text
  part_some h = part_within ∙ part_cons text start e h (omega arith)

  -- the part as a slice has it
  pub part_window : start ≤ e → take (e - start) (drop start text) ≡ slice start end text
  part_window h = sym (part_within ∙ ap (λ (n : ℕ). drop start (take n text)) sum ∙ window)
    where
      sum : e ≡ start + (e - start)
      sum = omega arith

      fits : length (take start text) ≡ start
      fits = length-take-le start text (omega arith)

      window : drop start (take (start + (e - start)) text) ≡ take (e - start) (drop start text)
      window = rw take-add (drop_at (take start text) (take (e - start) (drop start text)) start fits)

-- the rest of a list, taken whole
pub rest_whole : (n : ℕ) (l : List ℕ) → take (length l - n) (drop n l) ≡ drop n l
rest_whole n l = take_all (length l - n) (drop n l) (simp length-drop (omega arith))

-- a run, from the place on or from the end of the text
pub run_within : (text : List ℕ) (at : ℕ) (p : ℕ → Bool) → at ≤ length text → {w : ℕ} → w ≡ run_end p at (drop at text) → w ≤ length text
unfolding run_end
run_within text at p h e =
    let k = run_short p (drop at text) in
    omega (arith, simp length-drop at k)

pub run_part : (text : List ℕ) (at : ℕ) (p : ℕ → Bool) {s : ℕ} → s ≡ min at (length text) → {w : ℕ} → w ≡ run_end p s (drop s text)
    → take (w - s) (drop s text) ≡ take_while p (drop at text)
unfolding run_end
run_part text at p {s} e {w} f = ap (λ (n : ℕ). take n (drop s text)) size ∙ while_front p (drop s text) ∙ ap (take_while p) (go (dec_le at (length text)))
  where
    size : w - s ≡ length (take_while p (drop s text))
    size = omega arith

    go : Dec (at ≤ length text) → drop s text ≡ drop at text
    go (yes h) = rw (e, min-eq_left h)
    go (no h) =
        let l : length text ≤ at = omega arith in
        rw (e, min-eq_right l, drop_of_length-le text l, drop_of_length-le text (le_refl (length text)))
