-- What is read of a number or of a letter is allowed.
-- Assumes nothing.
use mathlib.Core.Path.{◌≡◌, refl, ap}
use mathlib.Core.Bool.{Bool, true, false, cond, ◌&&◌, and-eq-true_iff}
use mathlib.Core.List.{List, [], ◌∷◌}
use Prim.Native.Nat.{ℕ, ◌-◌, ◌≤◌}
use native.Mathlib.Omega.{arith}
use borrow.Author.Tests.{leb-true}
use lib.Dec.{leb, ltb, eqb}
use lib.ListN.{length}
use lib.Seq.{slice}
use Rattle.std.specs.Prelude.{Option, Some, None, unwrap_or}
use Rattle.symbols.specs.declared.Symbol.{Symbol}
use Rattle.symbols.specs.declared.Symbol.TheVariants as symbol
use Rattle.symbols.specs.declared.words.Word.{Word}
use Rattle.ascii.specs.Ascii.{byte}
use Rattle.symbols.specs.Bytes.{among, hash, small}
use Rattle.symbols.specs.Names.{spelled, letter_of}
use Rattle.symbols.specs.Words.{word_of}
use Rattle.numerals.specs.Numbers.{numeral, before_point, places, ranged, ten_thousandths, point_of, decimal_of, whole_of}
use Rattle.grammar.specs.declared.NumberUse.{NumberUse}
use Rattle.grammar.specs.declared.NumberUse.TheVariants as numberUse
use Rattle.grammar.specs.declared.NumberRange.{NumberRange}
use Rattle.grammar.specs.declared.NumberRange.TheVariants as range
use Rattle.grammar.specs.declared.terminals.Terminal.TheVariants.{Letter as letter}
use Rattle.grammar.specs.Terminals.{terminal_number, of_letter, terminal_of, span_of, letter_at}
use Rattle.grammar.specs.Reading.{allowed, number_in, judged}
use Rattle.grammar.proofs.Numbered.{word_apart, mark_apart}
use Rattle.program.specs.Allowed.{Decimal, Degree, Letter}

-- ---- numbers

abbrev Between : ℕ → ℕ → ℕ → Type 0
Between low high v = (low ≤ v) × (v ≤ high)

-- the numbers that a range allows
abbrev pub InRange : NumberRange → ℕ → Type 0
InRange range.Decimal v = Decimal v
InRange (range.Whole low high) v = Between low high v

-- a number is outside its range, or P holds of its value
pub data Judged (P : ℕ → Type 0) : Option ℕ → Type 0 where
  outside : Judged P None
  value : {v : ℕ} → P v → Judged P (Some v)

either : {P : ℕ → Type 0} (b : Bool) {o p : Option ℕ} → Judged P o → Judged P p → Judged P (cond b o p)
either true h k = h
either false h k = k

both : (low high x : ℕ) → (leb low x && leb x high) ≡ true → Between low high x
both low high x e =
    let h = (and-eq-true_iff (leb low x) (leb x high)).0 e in
    (leb-true low x h.0, leb-true x high h.1)

ranged_fits : (P : ℕ → Type 0) (low high x : ℕ) → (Between low high x → P x) → Judged P (ranged low high x)
unfolding ranged
ranged_fits P low high x h = go (leb low x && leb x high) refl
  where
    go : (b : Bool) → (leb low x && leb x high) ≡ b → Judged P (cond b (Some x) None)
    go true e = value (h (both low high x e))
    go false e = outside

ten_thousandths_fit : (x : ℕ) → Judged Decimal (ten_thousandths x)
unfolding ten_thousandths
ten_thousandths_fit x = ranged_fits Decimal _ _ x (λ h. record { least = h.0; most = omega arith })

decimal_fits : (bytes : List ℕ) → Judged Decimal (decimal_of bytes)
unfolding decimal_of point_of
decimal_fits [] = outside
decimal_fits (b ∷ rest) =
    either (eqb b hash) (ten_thousandths_fit _) (either (ltb 4 (length (places (b ∷ rest)))) outside (ten_thousandths_fit _))

whole_fits : (low high : ℕ) (bytes : List ℕ) → Judged (Between low high) (whole_of low high bytes)
unfolding whole_of
whole_fits low high [] = outside
whole_fits low high (b ∷ rest) =
    either (eqb b hash) (in_range_holds (numeral 16 rest))
    (either (ltb (length (before_point (b ∷ rest))) (length (b ∷ rest))) outside (in_range_holds (numeral 10 (b ∷ rest))))
  where
    in_range_holds : (x : ℕ) → Judged (Between low high) (ranged low high x)
    in_range_holds x = ranged_fits (Between low high) low high x (λ h. h)

pub judged_fits : (u : NumberUse) (bytes : List ℕ) → Judged (InRange (allowed u)) (judged u bytes)
judged_fits u bytes = go (allowed u)
  where
    go : (r : NumberRange) → Judged (InRange r) (number_in r bytes)
    go range.Decimal = decimal_fits bytes
    go (range.Whole low high) = whole_fits low high bytes

pub degree : {v : ℕ} → InRange (allowed numberUse.Degree) v → Degree v
degree h = record { least = h.0; most = omega arith }

-- ---- letters

abbrev LetterFits : Option ℕ → Type 0
LetterFits None = Unit {0}
LetterFits (Some c) = Letter c

letter_fits : (bytes : List ℕ) → LetterFits (letter_of bytes)
unfolding letter_of
letter_fits [] = tt
letter_fits (b ∷ []) = go (among "a" "z" (small b)) refl
  where
    go : (t : Bool) → among "a" "z" (small b) ≡ t → LetterFits (cond t (Some (small b - (byte "a" - byte "A"))) None)
    go true e = let h = both (byte "a") (byte "z") (small b) e in record { least = omega arith; most = omega arith }
    go false e = tt
letter_fits (b ∷ c ∷ more) = tt

-- a symbol that the syntax takes for a letter is one
pub letter_there : (text : List ℕ) (y : Symbol) → terminal_of text y ≡ letter → Letter (letter_at text (span_of y))
unfolding terminal_of
letter_there text (symbol.Name a b) e = go (letter_of (slice a b text)) (letter_fits (slice a b text)) e
  where
    w : Word
    w = word_of (spelled (slice a b text))

    go : (l : Option ℕ) → LetterFits l → of_letter l w ≡ letter → Letter (unwrap_or l 0)
    go None h q = absurd ((word_apart w).0 q)
    go (Some c) h q = h
letter_there text (symbol.Number a b) e = let z = ap terminal_number e in absurd (omega arith)
letter_there text (symbol.Mark k a b) e = absurd ((mark_apart k).0 e)
letter_there text (symbol.End a) e = let z = ap terminal_number e in absurd (omega arith)
letter_there text (symbol.Bad a) e = let z = ap terminal_number e in absurd (omega arith)
