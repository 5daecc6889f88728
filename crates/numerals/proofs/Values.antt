-- Laws of specs/Numbers.antt: of digits, of a value that is kept at a cap, and of the parts of a number.
-- Assumes nothing.
use Prim.Native.Nat.{ℕ, zero, suc, ◌+◌, ◌-◌, ◌*◌, ◌<◌, ◌≤◌, ◌^◌, min}
use mathlib.Core.Path.{◌≡◌, refl, sym, ◌∙◌, ap}
use mathlib.Core.Logic.{◌⊎◌, inl, inr, ⊎_elim}
use mathlib.Core.List.{List, [], ◌∷◌}
use mathlib.Core.Bool.{Bool, true, false, not, cond, ◌&&◌, ◌||◌, false≢true}
use native.Mathlib.Nat.{add-zero, min-eq_left, min-eq_right, min-le_right, le-mul_of_pos_right}
use native.Mathlib.Omega.{arith}
use native.Mathlib.Decide.{dec_le, dec_lt}
use borrow.Author.Tests.{lt-leb, le-leb, lt-ltb, le-ltb, eq-eqb, ne_eqb}
use lib.ListN.{length, get_or, take, drop, drop_of_length-le}
use lib.Seq.{take_all}
use lib.Dec.{ltb, leb, eqb}
use Rattle.symbols.specs.Bytes.{is_digit, is_hex_digit, is_capital, small, hash, point, take_while}
use Rattle.symbols.proofs.Scan.{drop_here, while_front}
use Rattle.symbols.proofs.Parts.{rest_whole}
use Rattle.std.specs.Prelude.{Option, None, Some, unwrap_or}
use Rattle.std.specs.Char.{digit_value}
use Rattle.std.specs.Option.{SomeIff}
use Rattle.std.specs.List.{position_or_len, list_any}
use Rattle.std.specs.Ordering.{is_le, nat_cmp}
use Rattle.std.proofs.lemmas.Bool.Decides.{nat_tests}
use Rattle.std.proofs.lemmas.Option.{none-some, same_Some}
use Rattle.numerals.specs.Numbers.{digit_of, numeral_after, numeral, before_point, places, ranged, ten_thousandths, point_of, decimal_of, whole_of}

-- digits

digit_is : (b : ℕ) → digit_of b ≡ cond (ltb (digit_value b) 16) (digit_value b) 0
unfolding digit_of is_digit is_hex_digit small is_capital
digit_is b = grind (arith, nat_tests)

pub digit_read : (b : ℕ) {c : ℕ} → c ≡ b → (o : Option ℕ) → SomeIff o (digit_value c < 16) (digit_value c) → {r : ℕ} → r ≡ unwrap_or o 0
    → (r ≡ digit_of b) × (r < 16)
digit_read b {c} e o s {r} q = (q ∙ given o s ∙ ap (λ (x : ℕ). cond (ltb (digit_value x) 16) (digit_value x) 0) e ∙ sym (digit_is b), rw q (below o s))
  where
    given : (o : Option ℕ) → SomeIff o (digit_value c < 16) (digit_value c) → unwrap_or o 0 ≡ cond (ltb (digit_value c) 16) (digit_value c) 0
    given None s = let k : 16 ≤ digit_value c = omega (arith, s) in rw (le-ltb _ _ k)
    given (Some v) s = s.1 ∙ rw (lt-ltb _ _ s.0)

    below : (o : Option ℕ) → SomeIff o (digit_value c < 16) (digit_value c) → unwrap_or o 0 < 16
    below None s = omega arith
    below (Some v) s = omega (arith, s.0, s.1)

-- a value kept at the cap `C`

abbrev pub C : ℕ
C = 4294967296

cap_step : (b w d : ℕ) → 1 ≤ b → min (min w C * b + d) C ≡ min (w * b + d) C
cap_step b w d h = go (dec_le w C)
  where
    go : Dec (w ≤ C) → min (min w C * b + d) C ≡ min (w * b + d) C
    go (yes l) = rw (min-eq_left l)
    go (no l) =
        let k : C ≤ w = omega arith in
        rw (min-eq_right k)
        (min-eq_right (omega (arith, le-mul_of_pos_right {m = b} C h)) ∙ sym (min-eq_right (omega (arith, le-mul_of_pos_right {m = b} w h))))

cap_numeral : (base w : ℕ) (xs : List ℕ) → 1 ≤ base → min (numeral_after base (min w C) xs) C ≡ min (numeral_after base w xs) C
unfolding numeral_after
cap_numeral base w [] h = min-eq_left (min-le_right w C)
cap_numeral base w (x ∷ xs) h =
    sym (cap_numeral base (min w C * base + digit_of x) xs h)
    ∙ ap (λ (k : ℕ). min (numeral_after base k xs) C) (cap_step base w (digit_of x) h)
    ∙ cap_numeral base (w * base + digit_of x) xs h

-- one digit further
pub numeral_on : (base v : ℕ) (xs : List ℕ) (i : ℕ) → 1 ≤ base → i < length xs
    → {d r : ℕ} → d ≡ digit_of (get_or xs i 0) → r ≡ min (v * base + d) C
    → min (numeral_after base r (drop (i + 1) xs)) C ≡ min (numeral_after base v (drop i xs)) C
unfolding numeral_after
numeral_on base v xs i h l e q = rw (q, cap_numeral base _ _ h, e, drop_here xs i l)

pub numeral_end : (base v : ℕ) (xs : List ℕ) (i : ℕ) → length xs ≤ i → v ≤ C → v ≡ min (numeral_after base v (drop i xs)) C
unfolding numeral_after
numeral_end base v xs i l k = rw (drop_of_length-le xs l) (sym (min-eq_left k))

pub pow_bounds : (n : ℕ) {k : ℕ} → k ≡ 10 ^ (4 - n) → (1 ≤ k) × (k ≤ 10000)
pow_bounds zero e = (omega (arith, e), omega (arith, e))
pow_bounds (suc zero) e = (omega (arith, e), omega (arith, e))
pow_bounds (suc (suc zero)) e = (omega (arith, e), omega (arith, e))
pow_bounds (suc (suc (suc zero))) e = (omega (arith, e), omega (arith, e))
pow_bounds (suc (suc (suc (suc n)))) e = let none : 4 - suc (suc (suc (suc n))) ≡ 0 = omega arith in let one = rw none at e in (omega arith, omega arith)

pub capped_le : (x : ℕ) {r : ℕ} → r ≡ min x C → r ≤ C
capped_le x e = omega arith

-- the range

le_told : (a b : ℕ) → is_le (nat_cmp a b) ≡ leb a b
le_told a b = grind (arith, nat_tests)

pub range_out : (low high x : ℕ) → (is_le (nat_cmp low x) && is_le (nat_cmp x high)) ≡ false → None ≡ ranged low high x
unfolding ranged
range_out low high x h = rw (rw (le_told low x, le_told x high) at h)

pub range_told : (low high x : ℕ) → (is_le (nat_cmp low x) && is_le (nat_cmp x high)) ≡ true → Some x ≡ ranged low high x
unfolding ranged
range_told low high x h = rw (rw (le_told low x, le_told x high) at h)

range_low : (low high x : ℕ) → x < low → None ≡ ranged low high x
unfolding ranged
range_low low high x h = rw (lt-leb low x h)

range_high : (low high x : ℕ) → low ≤ x → high < x → None ≡ ranged low high x
unfolding ranged
range_high low high x h k = rw (le-leb low x h, lt-leb x high k)

pub range_in : (low high x : ℕ) → low ≤ x → x ≤ high → Some x ≡ ranged low high x
unfolding ranged
range_in low high x h k = rw (le-leb low x h, le-leb x high k)

above : (low high x : ℕ) → high < x → ranged low high x ≡ None
above low high x h = go (dec_le low x)
  where
    go : Dec (low ≤ x) → ranged low high x ≡ None
    go (yes l) = sym (range_high low high x l h)
    go (no l) = sym (range_low low high x (omega arith))

-- values that are equal, or both too great, are judged the same
alike : (low high x y : ℕ) → (x ≡ y) ⊎ ((high < x) × (high < y)) → ranged low high x ≡ ranged low high y
alike low high x y = ⊎_elim (λ e. ap (ranged low high) e) (λ h. above low high x h.0 ∙ sym (above low high y h.1))

pub range_cap : (low high x : ℕ) → high < C → ranged low high (min x C) ≡ ranged low high x
range_cap low high x h = go (dec_le x C)
  where
    go : Dec (x ≤ C) → ranged low high (min x C) ≡ ranged low high x
    go (yes l) = alike low high (min x C) x (inl (omega arith))
    go (no l) = alike low high (min x C) x (inr (omega arith, omega arith))

-- the sum of the whole part and the places, each kept at the cap
pub range_sum : (low high x y k : ℕ) → high < C → 1 ≤ k
    → ranged low high (min x C * 10000 + min y C * k) ≡ ranged low high (x * 10000 + y * k)
range_sum low high x y k h p = go (dec_le x C) (dec_le y C)
  where
    go : Dec (x ≤ C) → Dec (y ≤ C) → ranged low high (min x C * 10000 + min y C * k) ≡ ranged low high (x * 10000 + y * k)
    go (yes l) (yes m) = rw (min-eq_left l, min-eq_left m)
    go (no l) m = alike low high _ _ (inr (omega arith, omega arith))
    go (yes l) (no m) =
        let e : C ≤ y = omega arith in
        alike low high _ _
        (inr (
          rw (min-eq_right e) (omega (arith, le-mul_of_pos_right {m = k} C p)),
          omega (arith, le-mul_of_pos_right {m = k} y p),
        ))

pub range_product : (low high x : ℕ) → high < C → ranged low high (min x C * 10000) ≡ ranged low high (x * 10000)
range_product low high x h = go (dec_le x C)
  where
    go : Dec (x ≤ C) → ranged low high (min x C * 10000) ≡ ranged low high (x * 10000)
    go (yes l) = alike low high _ _ (inl (omega arith))
    go (no l) = alike low high _ _ (inr (omega arith, omega arith))

-- the parts of a decimal number

-- where the point was found, or was not
point_place : (l : List ℕ) → position_or_len (λ b. eqb b point) l ≡ length (before_point l)
unfolding before_point take_while
point_place [] = refl
point_place (b ∷ rest) = go (not (eqb b point)) (point_place rest)
  where
    go : (t : Bool) → position_or_len (λ b. eqb b point) rest ≡ length (take_while (λ b. not (eqb b point)) rest)
        → cond t (1 + position_or_len (λ b. eqb b point) rest) 0
        ≡ length {A = ℕ} (elim t [ true ↦ b ∷ take_while (λ b. not (eqb b point)) rest | false ↦ [] ])
    go true e = rw e (omega arith)
    go false e = refl

pub before_any : (l : List ℕ) → list_any (λ b. eqb b point) l ≡ true → length (before_point l) < length l
unfolding before_point take_while
before_any [] h = absurd (false≢true h)
before_any (b ∷ rest) h = go (eqb b point) h (before_any rest)
  where
    go : (t : Bool) → (t || list_any (λ b. eqb b point) rest) ≡ true
        → (list_any (λ b. eqb b point) rest ≡ true → length (take_while (λ b. not (eqb b point)) rest) < length rest)
        → length {A = ℕ} (elim (not t) [ true ↦ b ∷ take_while (λ b. not (eqb b point)) rest | false ↦ [] ]) < suc (length rest)
    go true h e = omega arith
    go false h e = omega (arith, e h)

pub before_all : (l : List ℕ) → list_any (λ b. eqb b point) l ≡ false → length l ≤ length (before_point l)
unfolding before_point take_while
before_all [] h = omega arith
before_all (b ∷ rest) h = go (eqb b point) h (before_all rest)
  where
    go : (t : Bool) → (t || list_any (λ b. eqb b point) rest) ≡ false
        → (list_any (λ b. eqb b point) rest ≡ false → length rest ≤ length (take_while (λ b. not (eqb b point)) rest))
        → suc (length rest) ≤ length {A = ℕ} (elim (not t) [ true ↦ b ∷ take_while (λ b. not (eqb b point)) rest | false ↦ [] ])
    go true h e = absurd (false≢true (sym h))
    go false h e = omega (arith, e h)

module _ (l : List ℕ) {r : Option ℕ}
    (e : r ≡ cond (ltb (position_or_len (λ b. eqb b point) l) (length l)) (Some (position_or_len (λ b. eqb b point) l)) None) where
  placed : {n : ℕ} → n ≡ length (before_point l) → r ≡ cond (ltb n (length l)) (Some n) None
  placed q = rw (q, ← (point_place l)) e

  pub found_none : r ≡ None → length l ≤ length (before_point l)
  found_none q = go (length (before_point l)) refl (dec_lt (length (before_point l)) (length l))
    where
      go : (n : ℕ) → n ≡ length (before_point l) → Dec (n < length l) → length l ≤ n
      go n f (yes h) = let told : None ≡ Some n = sym q ∙ placed f ∙ rw (lt-ltb _ _ h) in absurd (none-some _ told)
      go n f (no h) = omega arith

  pub found_some : (p : ℕ) → r ≡ Some p → p ≡ length (before_point l)
  found_some p q = go (length (before_point l)) refl (dec_lt (length (before_point l)) (length l))
    where
      go : (n : ℕ) → n ≡ length (before_point l) → Dec (n < length l) → p ≡ n
      go n f (yes h) = let told : Some p ≡ Some n = sym q ∙ placed f ∙ rw (lt-ltb _ _ h) in same_Some _ _ told
      go n f (no h) =
          let k : length l ≤ n = omega arith in
          let told : None ≡ Some p = sym (sym q ∙ placed f ∙ rw (le-ltb _ _ k)) in
          absurd (none-some _ told)

-- the point stands at `p`, or `p` is the end
module _ (number : List ℕ) {p : ℕ} (e : p ≡ length (before_point number)) where
  point_parts : point_of (take p number) (drop (p + 1) number) ≡ point_of (before_point number) (places number)
  unfolding before_point places
  point_parts = rw (e, while_front (λ b. not (eqb b point)) number)

  pub point_none : length number ≤ p → {v : ℕ} → v ≡ min (numeral 10 number) C
      → ranged 1 429496_7295 (v * 10000) ≡ point_of (before_point number) (places number)
  unfolding point_of ten_thousandths numeral numeral_after
  point_none h q = rw q (range_product _ _ _ (omega arith)) ∙ whole ∙ point_parts
    where
      past : length number ≤ p + 1
      past = omega arith

      whole : ranged 1 429496_7295 (numeral 10 number * 10000) ≡ point_of (take p number) (drop (p + 1) number)
      whole = rw (take_all p number h, drop_of_length-le number past) (ap (ranged 1 429496_7295) (sym (add-zero _)))

  -- the digits after the point, as a slice has them, are `part`
  module _ (part : List ℕ) (f : part ≡ take (length number - (p + 1)) (drop (p + 1) number)) where
    point_part : point_of (take p number) part ≡ point_of (before_point number) (places number)
    point_part = rw (f, rest_whole (p + 1) number) point_parts

    pub point_many : 4 < length part → None ≡ point_of (before_point number) (places number)
    unfolding point_of
    point_many h = rw (lt-ltb 4 (length part) h) at point_part

    pub point_some : length part ≤ 4 → {v w k : ℕ}
        → v ≡ min (numeral 10 (take p number)) C
        → w ≡ min (numeral 10 part) C
        → k ≡ 10 ^ (4 - length part)
        → 1 ≤ k
        → ranged 1 429496_7295 (v * 10000 + w * k) ≡ point_of (before_point number) (places number)
    unfolding point_of ten_thousandths
    point_some h {v} {w} {k} q r s l =
        rw (q, r) (range_sum _ _ _ _ k (omega arith) l ∙ rw s (rw (le-ltb 4 (length part) h) at point_part))

pub decimal_none : (number : List ℕ) → length number < 1 → None ≡ decimal_of number
unfolding decimal_of
decimal_none [] h = refl
decimal_none (b ∷ rest) h = absurd (omega arith)

pub whole_none : (number : List ℕ) → length number < 1 → (low high : ℕ) → None ≡ whole_of low high number
unfolding whole_of
whole_none [] h low high = refl
whole_none (b ∷ rest) h low high = absurd (omega arith)

-- the first byte of a number
module _ (number : List ℕ) (h : 1 ≤ length number) where
  front : number ≡ get_or number 0 0 ∷ drop 1 number
  front = drop_here number 0 h

  -- the bytes after `#`, as a slice has them
  module _ {v : ℕ} (q : v ≡ min (numeral 16 (take (length number - 1) (drop 1 number))) C) (e : get_or number 0 0 ≡ hash) where
    hex_value : v ≡ min (numeral 16 (drop 1 number)) C
    hex_value = rw (← (rest_whole 1 number)) q

    pub decimal_hex : ranged 1 429496_7295 (v * 10000) ≡ decimal_of number
    unfolding decimal_of ten_thousandths
    decimal_hex = rw hex_value (range_product _ _ _ (omega arith) ∙ here ∙ sym (ap decimal_of front))
      where
        here : ranged 1 429496_7295 (numeral 16 (drop 1 number) * 10000) ≡ decimal_of (get_or number 0 0 ∷ drop 1 number)
        here = rw (eq-eqb _ _ e)

    pub whole_hex : (low high : ℕ) → high < C → ranged low high v ≡ whole_of low high number
    unfolding whole_of
    whole_hex low high l = rw hex_value (range_cap _ _ _ l ∙ here ∙ sym (ap (whole_of low high) front))
      where
        here : ranged low high (numeral 16 (drop 1 number)) ≡ whole_of low high (get_or number 0 0 ∷ drop 1 number)
        here = rw (eq-eqb _ _ e)

  module _ (n : get_or number 0 0 ≡ hash → ⊥) where
    pub decimal_plain : point_of (before_point number) (places number) ≡ decimal_of number
    unfolding decimal_of
    decimal_plain =
        ap (λ (l : List ℕ). point_of (before_point l) (places l)) front ∙ sym (ap decimal_of front ∙ rw (ne_eqb _ _ n))

    -- a whole number has no point
    whole_plain : (low high : ℕ)
        → cond (ltb (length (before_point number)) (length number)) None (ranged low high (numeral 10 number)) ≡ whole_of low high number
    unfolding whole_of
    whole_plain low high =
        ap (λ (l : List ℕ). cond (ltb (length (before_point l)) (length l)) None (ranged low high (numeral 10 l))) front
        ∙ sym (ap (whole_of low high) front ∙ rw (ne_eqb _ _ n))

    pub whole_point : (low high : ℕ) {p : ℕ} → p ≡ length (before_point number) → p < length number → None ≡ whole_of low high number
    whole_point low high e l = rw (← e, lt-ltb _ _ l) at (whole_plain low high)

    pub whole_digits : (low high : ℕ) {p : ℕ} → p ≡ length (before_point number) → length number ≤ p → high < C
        → {v : ℕ} → v ≡ min (numeral 10 number) C → ranged low high v ≡ whole_of low high number
    whole_digits low high e l m q =
        rw q (range_cap _ _ _ m) ∙ (rw (← e, le-ltb _ _ l) at (whole_plain low high))
