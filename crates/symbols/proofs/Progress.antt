-- Where symbols stand: each from the place on at which it is looked for, and within the text. So the cut of a text ends.
-- Assumes nothing.
use Prim.Native.Nat.{ℕ, zero, suc, ◌+◌, ◌-◌, ◌<◌, ◌≤◌, min}
use mathlib.Core.Path.{◌≡◌, refl, sym, ◌∙◌, ap, subst}
use mathlib.Core.List.{List, [], ◌∷◌}
use mathlib.Core.Bool.{Bool, true, false, cond}
use Rattle.std.specs.Prelude.{Option, None, Some}
use Rattle.std.proofs.lemmas.Option.{none-some, same_Some}
use native.Mathlib.Nat.{le_refl}
use native.Mathlib.Numerals.{add-one}
use native.Mathlib.Omega.{arith}
use borrow.Author.Tests.{ltb-true}
use lib.ListN.{length, take, drop, length-take, length-drop}
use lib.Seq.{slice, drop-drop}
use lib.Dec.{ltb, eqb}
use Rattle.symbols.specs.declared.MarkKind.{MarkKind}
use Rattle.symbols.specs.declared.Symbol.{Symbol}
use Rattle.symbols.specs.declared.Symbol.TheVariants.{Bad, End, Name, Number, Mark}
use Rattle.symbols.specs.Bytes.{quote, point, hash, is_blank, is_digit, is_hex_digit, is_letter, in_name, take_while}
use Rattle.symbols.specs.Symbols.{marks, mark_in, mark_or, mark_at, run_end, digits_to, pointed, decimal_at, hex_at, symbol_at, symbol_from, after_comment, next_symbol, after, cut, symbols_from}
use Rattle.symbols.specs.Names.{spelled, name_at}
use Rattle.symbols.proofs.Parts.{part_window}
use Rattle.symbols.proofs.Scan.{while_front, run_short}

-- a property of what a test picks
by_test : {A : Type 0} (P : A → Type 0) (b : Bool) {x y : A} → (b ≡ true → P x) → (b ≡ false → P y) → P (cond b x y)
by_test P true f g = f refl
by_test P false f g = g refl

-- a symbol that is looked for from `at` on stands there in the text; a name goes as far as its bytes do
abbrev pub Placed : List ℕ → ℕ → Symbol → Type 0
Placed text at (Bad place) = (at ≤ place) × (place < length text)
Placed text at (End place) = place ≡ length text
Placed text at (Name start end) = (at ≤ start) × (start < end) × (end ≤ length text) × (end ≡ run_end in_name start (drop start text))
Placed text at (Number start end) = (at ≤ start) × (start < end) × (end ≤ length text)
Placed text at (Mark kind start end) = (at ≤ start) × (start < end) × (end ≤ length text)

-- runs

run_bounds : (p : ℕ → Bool) (at : ℕ) (rest : List ℕ) → (at ≤ run_end p at rest) × (run_end p at rest ≤ at + length rest)
unfolding run_end
run_bounds p at rest = let h = run_short p rest in (omega arith, omega arith)

-- a run whose first byte is of its kind is not empty
run_past : (p : ℕ → Bool) (at b : ℕ) (rest : List ℕ) → p b ≡ true → at < run_end p at (b ∷ rest)
unfolding run_end take_while
run_past p at b rest e = rw (take_while, e) (omega arith)

-- the symbols, each at the front of `b ∷ rest`, the text from `at` on
module _ (text : List ℕ) (low at b : ℕ) (rest : List ℕ) (h : low ≤ at) (r : b ∷ rest ≡ drop at text) (l : at + suc (length rest) ≡ length text) where
  stay : Placed text low (Bad at)
  stay = (h, omega arith)

  digits_placed : (first end : ℕ) → at ≤ first → end ≤ length text → Placed text low (digits_to at first end)
  unfolding digits_to
  digits_placed first end f e =
      by_test (Placed text low) (ltb first end) (λ t. let k = ltb-true first end t in (h, omega arith, e)) (λ _. stay)

  pointed_placed : (end : ℕ) → at < end → end ≤ length text → (tail : List ℕ) → end + length tail ≡ length text
      → Placed text low (pointed at end tail)
  unfolding pointed
  pointed_placed end f e [] k = (h, f, e)
  pointed_placed end f e (x ∷ tail) k =
      by_test (Placed text low) (eqb x point)
      (λ _. digits_placed (end + 1) (run_end is_digit (end + 1) tail) (omega arith) (let w = run_bounds is_digit (end + 1) tail in omega arith))
      (λ _. (h, f, e))

  decimal_placed : is_digit b ≡ true → Placed text low (decimal_at at (b ∷ rest))
  unfolding decimal_at run_end
  decimal_placed d =
      let p = run_past is_digit at b rest d in
      let w = run_bounds is_digit at (b ∷ rest) in
      let s = run_short is_digit (b ∷ rest) in
      pointed_placed (run_end is_digit at (b ∷ rest)) p (omega arith) (drop (length (take_while is_digit (b ∷ rest))) (b ∷ rest))
      (simp length-drop (omega arith))

  hex_placed : Placed text low (hex_at at rest)
  unfolding hex_at
  hex_placed =
      let w = run_bounds is_hex_digit (at + 1) rest in
      digits_placed (at + 1) (run_end is_hex_digit (at + 1) rest) (omega arith) (omega arith)

  name_placed : is_letter b ≡ true → Placed text low (Name at (run_end in_name at (b ∷ rest)))
  unfolding in_name
  name_placed e =
      let p = run_past in_name at b rest (rw e) in
      let w = run_bounds in_name at (b ∷ rest) in
      (h, p, omega arith, ap (run_end in_name at) r)

  -- the word of a mark stands at the front, and is not empty
  mark_placed : (word : List ℕ) (other : Symbol) → 0 < length word → length word ≤ suc (length rest) → Placed text low other
      → Placed text low (mark_or at word other)
  unfolding mark_or
  mark_placed word other k m p = go (mark_in marks word)
    where
      go : (o : Option MarkKind) → Placed text low (elim o [ None ↦ other | Some kind ↦ Mark kind at (at + length word) ])
      go None = p
      go (Some kind) = (h, omega arith, omega arith)

  marks_placed : Placed text low (mark_at at (b ∷ rest))
  unfolding mark_at
  marks_placed =
      mark_placed (take 2 (b ∷ rest)) _ (simp length-take (omega arith)) (simp length-take (omega arith))
      (mark_placed (take 1 (b ∷ rest)) _ (omega arith) (omega arith) stay)

  symbol_placed : Placed text low (symbol_at at b rest)
  unfolding symbol_at
  symbol_placed =
      by_test (Placed text low) (is_letter b) name_placed (λ _.
      by_test (Placed text low) (is_digit b) decimal_placed (λ _.
      by_test (Placed text low) (eqb b hash) (λ _. hex_placed) (λ _. marks_placed)))

-- past blanks and comments; `rest` is the text from `at` on

next_rest : (text : List ℕ) (at b : ℕ) (rest : List ℕ) → b ∷ rest ≡ drop at text → rest ≡ drop (at + 1) text
next_rest text at b rest r = ap (drop 1) r ∙ drop-drop 1 at text

-- a property of what the byte `b` leads to
from_step : (P : Symbol → Type 0) (x y : Bool) {s t u : Symbol} → P s → P t → P u
    → P (elim x [ true ↦ s | false ↦ elim y [ true ↦ t | false ↦ u ] ])
from_step P true y ps pt pu = ps
from_step P false true ps pt pu = pt
from_step P false false ps pt pu = pu

comment_step : (P : Symbol → Type 0) (x : Bool) {s t : Symbol} → P s → P t → P (elim x [ true ↦ s | false ↦ t ])
comment_step P true ps pt = ps
comment_step P false ps pt = pt

mutual
  unfolding symbol_from

  from_placed : (text : List ℕ) (low at : ℕ) (rest : List ℕ) → low ≤ at → rest ≡ drop at text → at + length rest ≡ length text
      → Placed text low (symbol_from at rest)
  from_placed text low at [] h r l = omega arith
  from_placed text low at (b ∷ rest) h r l =
      let q = next_rest text at b rest r in
      from_step (Placed text low) (is_blank b) (eqb b quote)
      (from_placed text low (at + 1) rest (omega arith) q (omega arith))
      (comment_placed text low at (at + 1) rest h (omega arith) q (omega arith))
      (symbol_placed text low at b rest h r l)

  comment_placed : (text : List ℕ) (low start at : ℕ) (rest : List ℕ) → low ≤ start → start < at → rest ≡ drop at text
      → at + length rest ≡ length text → Placed text low (after_comment start at rest)
  comment_placed text low start at [] h k r l = (h, omega arith)
  comment_placed text low start at (b ∷ rest) h k r l =
      let q = next_rest text at b rest r in
      comment_step (Placed text low) (eqb b quote)
      (from_placed text low (at + 1) rest (omega arith) q (omega arith))
      (comment_placed text low start (at + 1) rest h (omega arith) q (omega arith))

module _ (text : List ℕ) (at : ℕ) (h : at ≤ length text) where
  pub next_placed : Placed text at (next_symbol text at)
  unfolding next_symbol
  next_placed = from_placed text at at (drop at text) (le_refl at) refl (simp length-drop (omega arith))

  pub name_within : {start end : ℕ} → next_symbol text at ≡ Name start end → (at ≤ start) × (start < end) × (end ≤ length text)
  name_within e = let p = subst (Placed text at) e next_placed in (p.0, p.1, p.2)

  pub number_within : {start end : ℕ} → next_symbol text at ≡ Number start end → (at ≤ start) × (start < end) × (end ≤ length text)
  number_within e = subst (Placed text at) e next_placed

  pub mark_within : {kind : MarkKind} {start end : ℕ} → next_symbol text at ≡ Mark kind start end
      → (at ≤ start) × (start < end) × (end ≤ length text)
  mark_within e = subst (Placed text at) e next_placed

  pub bad_within : {place : ℕ} → next_symbol text at ≡ Bad place → (at ≤ place) × (place < length text)
  bad_within e = subst (Placed text at) e next_placed

  pub end_place : {place : ℕ} → next_symbol text at ≡ End place → place ≡ length text
  end_place e = subst (Placed text at) e next_placed

  -- the bytes of a name symbol are the name that stands at its place
  pub name_spelled : {start end : ℕ} → next_symbol text at ≡ Name start end → spelled (slice start end text) ≡ name_at text start
  unfolding name_at run_end
  name_spelled {start} {end} e = ap spelled (sym (part_window text start end whole (omega (arith, p.1))) ∙ size ∙ while_front in_name (drop start text))
    where
      p : Placed text at (Name start end)
      p = subst (Placed text at) e next_placed

      whole : end ≡ min end (length text)
      whole = omega (arith, p.2)

      long : end - start ≡ length (take_while in_name (drop start text))
      long = omega (arith, p.3)

      size : take (end - start) (drop start text) ≡ take (length (take_while in_name (drop start text))) (drop start text)
      size = ap (λ (n : ℕ). take n (drop start text)) long

  -- the text goes on after a symbol, and within the text
  pub after_within : {end : ℕ} → after (next_symbol text at) ≡ Some end → (at < end) × (end ≤ length text)
  unfolding after
  after_within {end} e = go (next_symbol text at) next_placed e
    where
      go : (s : Symbol) → Placed text at s → after s ≡ Some end → (at < end) × (end ≤ length text)
      go (Bad place) p q = absurd (none-some end q)
      go (End place) p q = absurd (none-some end q)
      go (Name start x) p q = let w = same_Some x end q in (omega arith, omega arith)
      go (Number start x) p q = let w = same_Some x end q in (omega arith, omega arith)
      go (Mark kind start x) p q = let w = same_Some x end q in (omega arith, omega arith)

-- the cut

-- the symbols from where the text goes on
abbrev pub going_on : List ℕ → Option ℕ → List Symbol
going_on text None = []
going_on text (Some end) = symbols_from text end

-- the same with at most so many
abbrev cut_on : ℕ → List ℕ → Option ℕ → List Symbol
cut_on most text None = []
cut_on most text (Some end) = cut most text end

cut_step : (most : ℕ) (text : List ℕ) (at : ℕ) → cut (suc most) text at ≡ next_symbol text at ∷ cut_on most text (after (next_symbol text at))
unfolding cut
cut_step most text at = ap (λ (l : List Symbol). next_symbol text at ∷ l) (go (after (next_symbol text at)))
  where
    go : (o : Option ℕ) → ◌≡◌ {A = List Symbol} (elim o [ None ↦ [] | Some end ↦ cut most text end ]) (cut_on most text o)
    go None = refl
    go (Some end) = refl

-- two bounds that give the same further on give the same after a symbol
cut_alike : (text : List ℕ) (m n at : ℕ) → at ≤ length text
    → ((end : ℕ) → at < end → end ≤ length text → cut m text end ≡ cut n text end)
    → cut_on m text (after (next_symbol text at)) ≡ cut_on n text (after (next_symbol text at))
cut_alike text m n at h f = go (after (next_symbol text at)) refl
  where
    go : (o : Option ℕ) → after (next_symbol text at) ≡ o → cut_on m text o ≡ cut_on n text o
    go None e = refl
    go (Some end) e = let w = after_within text at h e in f end w.0 w.1

-- a bound that is large enough changes nothing
cut_enough : (text : List ℕ) (m n at : ℕ) → at ≤ length text → length text < m + at → length text < n + at → cut m text at ≡ cut n text at
cut_enough text zero n at h p q = absurd (omega arith)
cut_enough text (suc m) zero at h p q = absurd (omega arith)
cut_enough text (suc m) (suc n) at h p q =
    cut_step m text at
    ∙ ap (λ (l : List Symbol). next_symbol text at ∷ l)
    (cut_alike text m n at h (λ end k l. cut_enough text m n end l (omega arith) (omega arith)))
    ∙ sym (cut_step n text at)

-- the symbols of a text are the next one, and those from where the text goes on after it
pub symbols_next : (text : List ℕ) (at : ℕ) → at ≤ length text
    → symbols_from text at ≡ next_symbol text at ∷ going_on text (after (next_symbol text at))
unfolding symbols_from
symbols_next text at h =
    whole
    ∙ cut_step (length text) text at
    ∙ ap (λ (l : List Symbol). next_symbol text at ∷ l)
    (cut_alike text (length text) (length text + 1) at h (λ end k l. cut_enough text _ _ end l (omega arith) (omega arith))
    ∙ same_on (after (next_symbol text at)))
  where
    whole : symbols_from text at ≡ cut (suc (length text)) text at
    whole = rw add-one

    same_on : (o : Option ℕ) → cut_on (length text + 1) text o ≡ going_on text o
    same_on None = refl
    same_on (Some end) = refl
