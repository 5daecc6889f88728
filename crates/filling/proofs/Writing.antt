-- A loop that writes a list into two tables, from one place on: what is written, and what is left. Assumes nothing.
use mathlib.Core.Path.{◌≡◌, refl, sym, ◌∙◌, ap, subst}
use mathlib.Core.List.{List, [], ◌∷◌, ◌++◌, map, map-append}
use Prim.Native.Nat.{ℕ, ◌+◌, ◌≤◌, ◌<◌}
use native.Mathlib.Numerals.{add-one}
use native.Mathlib.Omega.{arith}
use lib.ListN.{length, length-map, set}
use lib.Seq.{sets, length-sets}
use Rattle.program.specs.Allowed.{Each}
use Rattle.filling.specs.Inner.{Appended}
use Rattle.filling.proofs.Each.{each_append}

-- all of them are to be written, and these are left
record Writing {A B C : Type 0} (f : A → B) (g : A → C) (all : List A) (at : ℕ) (bs₀ : List B) (cs₀ : List C) (left : List A) (bs : List B) (cs : List C) (count : ℕ) : Type 0 where
  first : sets bs count (map f left) ≡ sets bs₀ at (map f all)
  second : sets cs count (map g left) ≡ sets cs₀ at (map g all)
  counted : count + length left ≡ at + length all

module _ {A B C : Type 0} {f : A → B} {g : A → C} {all : List A} {at : ℕ} {bs₀ : List B} {cs₀ : List C} {left : List A} {bs : List B} {cs : List C} {count : ℕ}
    (w : Writing f g all at bs₀ cs₀ left bs cs count) where
  writing_first_length : length bs ≡ length bs₀
  writing_first_length = sym (length-sets bs count (map f left)) ∙ ap length w.first ∙ length-sets bs₀ at (map f all)

  writing_second_length : length cs ≡ length cs₀
  writing_second_length = sym (length-sets cs count (map g left)) ∙ ap length w.second ∙ length-sets cs₀ at (map g all)

  -- nothing is left
  writing_all : left ≡ [] → Appended f g all at bs₀ cs₀ count bs cs
  writing_all e = record {
    count = omega (arith, w.counted, ap length e);
    stored = record {
      first = ap (λ (l : List A). sets bs count (map f l)) (sym e) ∙ w.first;
      second = ap (λ (l : List A). sets cs count (map g l)) (sym e) ∙ w.second;
    };
  }

  -- the next one
  module _ {x : A} {rest : List A} (e : left ≡ x ∷ rest) where
    writing_room : {most : ℕ} → at + length all ≤ most → count < most
    writing_room k = omega (arith, w.counted, ap length e)

    writing_next : {bs' : List B} {cs' : List C} → bs' ≡ set bs count (f x) → cs' ≡ set cs count (g x) → Writing f g all at bs₀ cs₀ rest bs' cs' (count + 1)
    writing_next p q = record {
      first = rw (p, add-one) (ap (λ (l : List A). sets bs count (map f l)) (sym e) ∙ w.first);
      second = rw (q, add-one) (ap (λ (l : List A). sets cs count (map g l)) (sym e) ∙ w.second);
      counted = omega (arith, w.counted, ap length e);
    }

-- the same for things that are made from others, each of which is fit for it
pub record Making {X A B C : Type 0} (P : X → Type 0) (h : X → A) (f : A → B) (g : A → C) (all : List X) (at : ℕ) (bs₀ : List B) (cs₀ : List C) (left : List X) (bs : List B) (cs : List C) (count : ℕ) : Type 0 where
  fit : Each P left
  written : Writing f g (map h all) at bs₀ cs₀ (map h left) bs cs count

pub making_none : {X A B C : Type 0} {P : X → Type 0} {h : X → A} {f : A → B} {g : A → C} {all : List X} {at : ℕ} {bs : List B} {cs : List C}
    → Each P all → Making P h f g all at bs cs all bs cs at
making_none k = record { fit = k; written = record { first = refl; second = refl; counted = refl } }

module _ {X A B C : Type 0} {P : X → Type 0} {h : X → A} {f : A → B} {g : A → C} {all : List X} {at : ℕ} {bs₀ : List B} {cs₀ : List C} {left : List X} {bs : List B} {cs : List C} {count : ℕ}
    (m : Making P h f g all at bs₀ cs₀ left bs cs count) where
  pub making_first_length : length bs ≡ length bs₀
  making_first_length = writing_first_length m.written

  pub making_second_length : length cs ≡ length cs₀
  making_second_length = writing_second_length m.written

  pub making_all : left ≡ [] → Appended f g (map h all) at bs₀ cs₀ count bs cs
  making_all e = writing_all m.written (ap (map h) e)

  -- the next ones
  module _ (xs rest : List X) (e : left ≡ xs ++ rest) where
    fits : Each P xs × Each P rest
    fits = each_append P xs rest (subst (λ (l : List X). Each P l) e m.fit)

    pub making_now : Each P xs
    making_now = fits.0

    made : {ys : List A} → ys ≡ map h xs → map h left ≡ ys ++ map h rest
    made q = ap (map h) e ∙ map-append h xs rest ∙ ap (λ (ys : List A). ys ++ map h rest) (sym q)

    -- nothing is made of them
    pub making_skip : [] ≡ map h xs → Making P h f g all at bs₀ cs₀ rest bs cs count
    making_skip q = record {
      fit = fits.1;
      written = subst (λ (l : List A). Writing f g (map h all) at bs₀ cs₀ l bs cs count) (made q) m.written;
    }

    -- one thing is made of them
    module _ {a : A} (q : a ∷ [] ≡ map h xs) where
      pub making_room : {most : ℕ} → at + length all ≤ most → count < most
      making_room k = writing_room m.written (made q) (rw length-map k)

      pub making_next : {bs' : List B} {cs' : List C} → bs' ≡ set bs count (f a) → cs' ≡ set cs count (g a) → Making P h f g all at bs₀ cs₀ rest bs' cs' (count + 1)
      making_next u v = record { fit = fits.1; written = writing_next m.written (made q) u v }
