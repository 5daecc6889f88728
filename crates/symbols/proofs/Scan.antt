-- Laws of specs/Symbols.antt in the shape that the code meets them: at a place of a text, and at its end.
-- Assumes nothing.
use Prim.Native.Nat.{ℕ, ◌+◌, ◌<◌, ◌≤◌}
use mathlib.Core.Path.{◌≡◌, refl, ◌∙◌, ap}
use mathlib.Core.List.{List, [], ◌∷◌}
use mathlib.Core.Bool.{Bool, true, false, not, cond, ◌&&◌, and-true, and-false}
use Rattle.std.specs.Prelude.{Option, None, Some, unwrap_or}
use Rattle.std.specs.List.{position_or_len}
use Rattle.std.proofs.lemmas.List.Sums.{prefix_len-le-length}
use native.Mathlib.Nat.{add-zero, add-suc, suc-add}
use native.Mathlib.Numerals.{add-one}
use native.Mathlib.Omega.{arith}
use native.Mathlib.Decide.{dec_lt}
use borrow.Author.Tests.{lt-ltb, le-ltb, eq-eqb, ne_eqb}
use lib.ListN.{length, get_or, take, drop, drop_of_length-le, length-take}
use lib.Seq.{drop-cons, drop-drop}
use lib.Dec.{ltb, eqb}
use Rattle.symbols.specs.declared.MarkKind.{MarkKind}
use Rattle.symbols.specs.declared.MarkKind.TheVariants.{WidthOpen, WidthClose, Arrow}
use Rattle.symbols.specs.declared.Symbol.{Symbol}
use Rattle.symbols.specs.declared.Symbol.TheVariants.{Bad, End, Name, Number, Mark}
use Rattle.ascii.specs.Ascii.{byte}
use Rattle.symbols.specs.Bytes.{same, quote, point, hash, is_blank, is_digit, is_letter, in_name, take_while}
use Rattle.symbols.specs.Symbols.{marks, mark_in, mark_or, mark_at, run_end, digits_to, pointed, decimal_at, hex_at, symbol_at, symbol_from, after_comment}

-- at a place of the text
module _ (text : List ℕ) (i : ℕ) (h : i < length text) where
  pub drop_here : drop i text ≡ get_or text i 0 ∷ drop (i + 1) text
  drop_here = rw (add-one, drop-cons text i 0)

  pub run_on : (p : ℕ → Bool) → p (get_or text i 0) ≡ true → run_end p (i + 1) (drop (i + 1) text) ≡ run_end p i (drop i text)
  unfolding run_end take_while
  run_on p e = rw (drop_here, take_while, e) (omega arith)

  pub run_stop : (p : ℕ → Bool) → p (get_or text i 0) ≡ false → run_end p i (drop i text) ≡ i
  unfolding run_end take_while
  run_stop p e = rw (drop_here, take_while, e) (omega arith)

pub run_out : (text : List ℕ) (i : ℕ) (p : ℕ → Bool) → length text ≤ i → run_end p i (drop i text) ≡ i
unfolding run_end take_while
run_out text i p h = rw (drop_of_length-le text h) (omega arith)

pub while_front : (p : ℕ → Bool) (l : List ℕ) → take (length (take_while p l)) l ≡ take_while p l
unfolding take_while
while_front p [] = refl
while_front p (b ∷ rest) = go (p b) (while_front p rest)
  where
    go : (t : Bool) → take (length (take_while p rest)) rest ≡ take_while p rest
        → take (length {A = ℕ} (elim t [ true ↦ b ∷ take_while p rest | false ↦ [] ])) (b ∷ rest)
        ≡ elim t [ true ↦ b ∷ take_while p rest | false ↦ [] ]
    go true e = ap (λ (k : List ℕ). b ∷ k) e
    go false e = refl

-- where the first byte stands that does not pass
run_length : (p : ℕ → Bool) (rest : List ℕ) → position_or_len (λ b. not (p b)) rest ≡ length (take_while p rest)
unfolding take_while
run_length p [] = refl
run_length p (b ∷ rest) = go (p b) (run_length p rest)
  where
    go : (t : Bool) → position_or_len (λ b. not (p b)) rest ≡ length (take_while p rest)
        → cond (not (not t)) (1 + position_or_len (λ b. not (p b)) rest) 0
        ≡ length {A = ℕ} (elim t [ true ↦ b ∷ take_while p rest | false ↦ [] ])
    go true e = rw e (omega arith)
    go false e = refl

pub run_short : (p : ℕ → Bool) (rest : List ℕ) → length (take_while p rest) ≤ length rest
run_short p rest = let h = ap length (while_front p rest) in omega (arith, simp length-take at h)

-- what `position` answers, with the length in place of nothing
pub found_or_length : {X : Type 0} (p : X → Bool) (xs : List X) {r : Option ℕ}
    → r ≡ cond (ltb (position_or_len p xs) (length xs)) (Some (position_or_len p xs)) None
    → unwrap_or r (length xs) ≡ position_or_len p xs
found_or_length p xs e = rw e (go (dec_lt (position_or_len p xs) (length xs)))
  where
    n : ℕ
    n = position_or_len p xs

    go : Dec (n < length xs) → unwrap_or (cond (ltb n (length xs)) (Some n) None) (length xs) ≡ n
    go (yes h) = rw (lt-ltb _ _ h)
    go (no h) =
        let k : length xs ≤ n = omega arith in
        rw (le-ltb _ _ k) (omega (arith, prefix_len-le-length (λ x. not (p x)) xs))

pub run_found : (p : ℕ → Bool) (at : ℕ) (rest : List ℕ) {r : Option ℕ}
    → r ≡ cond (ltb (position_or_len (λ b. not (p b)) rest) (length rest)) (Some (position_or_len (λ b. not (p b)) rest)) None
    → at + unwrap_or r (length rest) ≡ run_end p at rest
unfolding run_end
run_found p at rest e = ap (λ (k : ℕ). at + k) (found_or_length (λ b. not (p b)) rest e ∙ run_length p rest)

-- a run ends at or after its place
pub run_from : (p : ℕ → Bool) (at : ℕ) (rest : List ℕ) {w : ℕ} → w ≡ run_end p at rest → at ≤ w
unfolding run_end
run_from p at rest e = omega arith

-- what follows a run
run_rest : (p : ℕ → Bool) (text : List ℕ) (at : ℕ)
    → drop (length (take_while p (drop at text))) (drop at text) ≡ drop (run_end p at (drop at text)) text
unfolding run_end
run_rest p text at = drop-drop _ at text

module _ (text : List ℕ) (at w : ℕ) (e : w ≡ run_end is_digit at (drop at text)) where
  pub decimal_here : pointed at w (drop w text) ≡ decimal_at at (drop at text)
  unfolding decimal_at
  decimal_here = rw (e, run_rest is_digit text at)

  pub decimal_out : length text ≤ w → Number at w ≡ decimal_at at (drop at text)
  unfolding pointed
  decimal_out h = rw (drop_of_length-le text h) at decimal_here

  -- a byte that is no point
  pub decimal_whole : w < length text → (get_or text w 0 ≡ point → ⊥) → Number at w ≡ decimal_at at (drop at text)
  unfolding pointed
  decimal_whole h n = rw (drop_here text w h, ne_eqb _ _ n) at decimal_here

  pub decimal_point : w < length text → get_or text w 0 ≡ point → {end : ℕ} → end ≡ run_end is_digit (w + 1) (drop (w + 1) text)
      → digits_to at (w + 1) end ≡ decimal_at at (drop at text)
  unfolding pointed
  decimal_point h q f = rw f (rw (drop_here text w h, eq-eqb _ _ q) at decimal_here)

pub digits_some : {at first end : ℕ} → first < end → Number at end ≡ digits_to at first end
unfolding digits_to
digits_some h = rw (lt-ltb _ _ h)

pub digits_none : {at first end : ℕ} → end ≤ first → Bad at ≡ digits_to at first end
unfolding digits_to
digits_none h = rw (le-ltb _ _ h)

from_cons : (at b : ℕ) (rest : List ℕ)
    → symbol_from at (b ∷ rest) ≡ cond (is_blank b) (symbol_from (at + 1) rest) (cond (eqb b quote) (after_comment at (at + 1) rest) (symbol_at at b rest))
unfolding symbol_from
from_cons at b rest = go (is_blank b) (eqb b quote)
  where
    go : (x y : Bool)
        → elim x [
          | true ↦ symbol_from (at + 1) rest
          | false ↦ elim y [ true ↦ after_comment at (at + 1) rest | false ↦ symbol_at at b rest ]
        ]
        ≡ cond x (symbol_from (at + 1) rest) (cond y (after_comment at (at + 1) rest) (symbol_at at b rest))
    go true y = refl
    go false true = refl
    go false false = refl

-- the symbol at a place
module _ (text : List ℕ) (i : ℕ) (h : i < length text) where
  pub symbol_name : is_letter (get_or text i 0) ≡ true → {end : ℕ} → end ≡ run_end in_name (i + 1) (drop (i + 1) text)
      → Name i end ≡ symbol_at i (get_or text i 0) (drop (i + 1) text)
  unfolding symbol_at in_name
  symbol_name l e =
      rw l (ap (Name i) (e ∙ run_on text i h in_name (rw l) ∙ ap (run_end in_name i) (drop_here text i h)))

  pub symbol_decimal : is_letter (get_or text i 0) ≡ false → is_digit (get_or text i 0) ≡ true
      → decimal_at i (drop i text) ≡ symbol_at i (get_or text i 0) (drop (i + 1) text)
  unfolding symbol_at
  symbol_decimal l d = rw (drop_here text i h, l, d)

  pub symbol_hex : is_letter (get_or text i 0) ≡ false → is_digit (get_or text i 0) ≡ false → get_or text i 0 ≡ hash
      → hex_at i (drop (i + 1) text) ≡ symbol_at i (get_or text i 0) (drop (i + 1) text)
  unfolding symbol_at
  symbol_hex l d e = rw (l, d, eq-eqb _ _ e)

  pub symbol_mark : is_letter (get_or text i 0) ≡ false → is_digit (get_or text i 0) ≡ false → (get_or text i 0 ≡ hash → ⊥)
      → mark_at i (drop i text) ≡ symbol_at i (get_or text i 0) (drop (i + 1) text)
  unfolding symbol_at
  symbol_mark l d n = rw (drop_here text i h, l, d, ne_eqb _ _ n)

  from_here : symbol_from i (drop i text)
      ≡ cond (is_blank (get_or text i 0)) (symbol_from (i + 1) (drop (i + 1) text))
      (cond (eqb (get_or text i 0) quote) (after_comment i (i + 1) (drop (i + 1) text))
      (symbol_at i (get_or text i 0) (drop (i + 1) text)))
  from_here = ap (symbol_from i) (drop_here text i h) ∙ from_cons i (get_or text i 0) (drop (i + 1) text)

  pub from_blank : is_blank (get_or text i 0) ≡ true → symbol_from (i + 1) (drop (i + 1) text) ≡ symbol_from i (drop i text)
  from_blank b = rw (from_here, b)

  pub from_symbol : is_blank (get_or text i 0) ≡ false → (get_or text i 0 ≡ quote → ⊥)
      → symbol_at i (get_or text i 0) (drop (i + 1) text) ≡ symbol_from i (drop i text)
  from_symbol b n = rw (from_here, b, ne_eqb _ _ n)

  pub from_comment : is_blank (get_or text i 0) ≡ false → get_or text i 0 ≡ quote
      → after_comment i (i + 1) (drop (i + 1) text) ≡ symbol_from i (drop i text)
  from_comment b e = rw (from_here, b, eq-eqb _ _ e)

pub from_end : (text : List ℕ) (i : ℕ) → length text ≤ i → End i ≡ symbol_from i (drop i text)
unfolding symbol_from
from_end text i h = rw (drop_of_length-le text h)

-- a comment goes on to its closing quote, which stands at `w`, or to the end of the text
abbrev closed : ℕ → ℕ → List ℕ → Symbol
closed start w [] = Bad start
closed start w (b ∷ rest) = symbol_from (w + 1) rest

abbrev pub not_quote : ℕ → Bool
not_quote b = not (eqb b quote)

comment_passed : (start at : ℕ) (rest : List ℕ)
    → closed start (run_end not_quote at rest) (drop (length (take_while not_quote rest)) rest) ≡ after_comment start at rest
unfolding run_end take_while symbol_from
comment_passed start at [] = refl
comment_passed start at (b ∷ rest) = go (eqb b quote) (comment_passed start (at + 1) rest)
  where
    past : List ℕ
    past = take_while not_quote rest

    go : (q : Bool) → closed start (at + 1 + length past) (drop (length past) rest) ≡ after_comment start (at + 1) rest
        → closed start
        (at + length {A = ℕ} (elim (not q) [ true ↦ b ∷ past | false ↦ [] ]))
        (drop (length {A = ℕ} (elim (not q) [ true ↦ b ∷ past | false ↦ [] ])) (b ∷ rest))
        ≡ elim q [ true ↦ symbol_from (at + 1) rest | false ↦ after_comment start (at + 1) rest ]
    go true ih = rw add-zero
    go false ih = rw (add-suc, ← suc-add, ← add-one) ih

module _ (text : List ℕ) (start at : ℕ) {w : ℕ} (e : w ≡ run_end not_quote at (drop at text)) where
  comment_here : closed start w (drop w text) ≡ after_comment start at (drop at text)
  comment_here = rw (e, ← run_rest not_quote text at) (comment_passed start at (drop at text))

  pub comment_closed : w < length text → symbol_from (w + 1) (drop (w + 1) text) ≡ after_comment start at (drop at text)
  comment_closed h = rw (drop_here text w h) at comment_here

  pub comment_open : length text ≤ w → Bad start ≡ after_comment start at (drop at text)
  comment_open h = rw (drop_of_length-le text h) at comment_here

-- marks

-- the mark that a word is, or another symbol, by what has been found
module _ (at : ℕ) (word : List ℕ) (other : Symbol) where
  pub mark_missing : mark_in marks word ≡ None → other ≡ mark_or at word other
  unfolding mark_or
  mark_missing q = rw (mark_or, q)

  pub mark_found : {kind : MarkKind} → mark_in marks word ≡ Some kind → Mark kind at (at + length word) ≡ mark_or at word other
  unfolding mark_or
  mark_found q = rw (mark_or, q)

mark_twice : (at : ℕ) (word : List ℕ) (other : Symbol) → mark_or at word other ≡ mark_or at word (mark_or at word other)
unfolding mark_or
mark_twice at word other = go (mark_in marks word) (mark_or at word other) refl
  where
    go : (o : Option MarkKind) (x : Symbol) → x ≡ elim o [ None ↦ other | Some kind ↦ Mark kind at (at + length word) ]
        → x ≡ elim o [ None ↦ x | Some kind ↦ Mark kind at (at + length word) ]
    go None x e = refl
    go (Some kind) x e = e

-- the marks of two bytes
pub double_marks : (a b : ℕ)
    → mark_in marks (a ∷ b ∷ [])
    ≡ cond (eqb a (byte "<") && eqb b (byte "<")) (Some WidthOpen)
    (cond (eqb a (byte ">") && eqb b (byte ">")) (Some WidthClose)
    (cond (eqb a (byte "-") && eqb b (byte ">")) (Some Arrow) None))
unfolding marks mark_in same
double_marks a b = simp (and-true, and-false)

-- a mark at a place: of two bytes, or of one
module _ (text : List ℕ) (i : ℕ) (h : i < length text) where
  pub mark_last : length text ≤ i + 1 → mark_or i (get_or text i 0 ∷ []) (Bad i) ≡ mark_at i (drop i text)
  unfolding mark_at
  mark_last l = rw (drop_here text i h, drop_of_length-le text l) (mark_twice i (get_or text i 0 ∷ []) (Bad i))

  pub mark_here : {second : ℕ} → second ≡ get_or text (i + 1) 0 → i + 1 < length text
      → mark_or i (get_or text i 0 ∷ second ∷ []) (mark_or i (get_or text i 0 ∷ []) (Bad i)) ≡ mark_at i (drop i text)
  unfolding mark_at
  mark_here e l = rw (e, drop_here text i h, drop_here text (i + 1) l)
