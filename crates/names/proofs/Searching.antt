-- Laws of the search for a declaration, and of the kinds that a use may mean.
-- Assumes nothing.
use Prim.Native.Nat.{ℕ, suc, ◌+◌, ◌<◌}
use mathlib.Core.Path.{◌≡◌, refl, sym, ◌∙◌, ap}
use mathlib.Core.List.{List, [], ◌∷◌, ◌++◌, append-nil, Memᴰ}
use mathlib.Core.Bool.{Bool, true, false, ◌&&◌, and-eq-true_iff}
use native.Mathlib.Omega.{arith}
use borrow.Author.Tests.{eqb-true}
use lib.Dec.{eqb}
use lib.ListN.{length, get_or}
use lib.Seq.{append_snoc}
use Rattle.symbols.specs.Bytes.{same}
use Rattle.symbols.specs.Names.{name_at}
use Rattle.std.specs.Prelude.{Option, Some, None}
use Rattle.symbols.proofs.Letters.{same_true}
use Rattle.grammar.specs.declared.Kind.{Kind}
use Rattle.grammar.specs.declared.Kind.TheVariants.{Interval, Tone, System, Retuning, Logic, Order as AnOrder, Harmony}
use Rattle.grammar.specs.Moves.{kinds, kind_number}
use Rattle.names.specs.Names.{Named, bearer_from, bearer_of, Repeat, no_repeat, repeat_at, twice_from, called_in}

-- kinds are told apart by their numbers
pub kind_back : (k : Kind) → get_or kinds (kind_number k) AnOrder ≡ k
kind_back Interval = refl
kind_back Tone = refl
kind_back System = refl
kind_back Retuning = refl
kind_back Logic = refl
kind_back AnOrder = refl
kind_back Harmony = refl

kind_told : (j k : Kind) → kind_number j ≡ kind_number k → j ≡ k
kind_told j k e = sym (kind_back j) ∙ ap (λ n. get_or kinds n AnOrder) e ∙ kind_back k

pub nothing_no_row : {n : ℕ} → None ≡ Some n → ⊥
nothing_no_row e = let z : ◌≡◌ {A = ℕ} 0 1 = cc in omega arith

pub no_repeat_at : {p : ℕ} → no_repeat ≡ repeat_at p → ⊥
no_repeat_at e = let z : ◌≡◌ {A = ℕ} 0 1 = cc in omega arith

-- whether a declaration is of the kind and has the name
abbrev pub is_named : List ℕ → Named → Kind → List ℕ → Bool
is_named text d k name = eqb (kind_number d.kind) (kind_number k) && same (name_at text d.place) name

-- a choice that finds nothing
no_row_holds : {rest : Option ℕ} (n : ℕ) (b : Bool) → ◌≡◌ {A = Option ℕ} (elim b [ true ↦ Some n | false ↦ rest ]) None → (b ≡ false) × (rest ≡ None)
no_row_holds n true e = absurd (nothing_no_row (sym e))
no_row_holds n false e = (refl, e)

none_else : {rest : Repeat} (p : ℕ) (f : Option ℕ) → elim f [ Some n ↦ repeat_at p | None ↦ rest ] ≡ no_repeat → (f ≡ None) × (rest ≡ no_repeat)
none_else p (Some n) e = absurd (no_repeat_at (sym e))
none_else p None e = (refl, e)

-- one declaration more
module _ (text : List ℕ) (d : Named) (k : Kind) (name : List ℕ) where
  pub number_past : is_named text d k name ≡ false → (n : ℕ) (ds : List Named) → bearer_from n text (ds ++ d ∷ []) k name ≡ bearer_from n text ds k name
  unfolding bearer_from
  number_past e n [] = rw (bearer_from, e)
  number_past e n (x ∷ ds) = ap (λ f. elim (is_named text x k name) [ true ↦ Some n | false ↦ f ]) (number_past e (suc n) ds)

  number_last : is_named text d k name ≡ true → (n : ℕ) (ds : List Named) → bearer_from n text ds k name ≡ None
      → bearer_from n text (ds ++ d ∷ []) k name ≡ Some (n + length ds)
  unfolding bearer_from
  number_last e n [] q = rw (bearer_from, e) (ap Some (omega arith))
  number_last e n (x ∷ ds) q =
      let w = no_row_holds n (is_named text x k name) q in
      rw (bearer_from, w.0) (number_last e (suc n) ds w.1 ∙ ap Some (omega arith))

  -- where no name stands twice, none in front of a declaration is of its kind and name
  once_before : (before xs ys : List Named) → twice_from text before (xs ++ d ∷ ys) ≡ no_repeat
      → bearer_of text (before ++ xs) d.kind (name_at text d.place) ≡ None
  unfolding twice_from
  once_before before [] ys e = rw append-nil (none_else d.place (bearer_of text before d.kind (name_at text d.place)) e).0
  once_before before (x ∷ xs) ys e =
      rw append_snoc at (once_before (before ++ x ∷ []) xs ys (none_else x.place (bearer_of text before x.kind (name_at text x.place)) e).1)

  -- so a declaration of the kind and the name, though it is the last, is the one that is found
  pub number_once : (xs ys : List Named) → twice_from text [] (xs ++ d ∷ ys) ≡ no_repeat → is_named text d k name ≡ true
      → bearer_of text (xs ++ d ∷ []) k name ≡ Some (length xs)
  number_once xs ys o e =
      let h = (and-eq-true_iff _ _).0 e in
      let j = kind_told d.kind k (eqb-true _ _ h.0) in
      let s = same_true (name_at text d.place) name h.1 in
      let f = once_before [] xs ys o in
      number_last e 0 xs (cc) ∙ ap Some (omega arith)

-- a name that is looked for in one kind after another
module _ (text : List ℕ) (ds : List Named) (name : List ℕ) where
  pub called_one : (k : Kind) → bearer_of text ds k name ≡ called_in text ds (k ∷ []) name
  unfolding called_in
  called_one k = go (bearer_of text ds k name)
    where
      go : (f : Option ℕ) → f ≡ elim f [ Some n ↦ Some n | None ↦ None ]
      go (Some n) = refl
      go None = refl

  pub called_here : (ks js : List Kind) {n : ℕ} → called_in text ds ks name ≡ Some n → called_in text ds (ks ++ js) name ≡ Some n
  unfolding called_in
  called_here [] js e = absurd (nothing_no_row e)
  called_here (k ∷ ks) js {n} e = go (called_here ks js) (bearer_of text ds k name) e
    where
      go : (called_in text ds ks name ≡ Some n → called_in text ds (ks ++ js) name ≡ Some n) → (f : Option ℕ)
          → elim f [ Some m ↦ Some m | None ↦ called_in text ds ks name ] ≡ Some n
          → elim f [ Some m ↦ Some m | None ↦ called_in text ds (ks ++ js) name ] ≡ Some n
      go later (Some m) q = q
      go later None q = later q

  pub called_on : (ks js : List Kind) → called_in text ds ks name ≡ None → called_in text ds (ks ++ js) name ≡ called_in text ds js name
  unfolding called_in
  called_on [] js e = refl
  called_on (k ∷ ks) js e = go (called_on ks js) (bearer_of text ds k name) e
    where
      go : (called_in text ds ks name ≡ None → called_in text ds (ks ++ js) name ≡ called_in text ds js name) → (f : Option ℕ)
          → ◌≡◌ {A = Option ℕ} (elim f [ Some m ↦ Some m | None ↦ called_in text ds ks name ]) None
          → elim f [ Some m ↦ Some m | None ↦ called_in text ds (ks ++ js) name ] ≡ called_in text ds js name
      go later (Some m) q = absurd (nothing_no_row (sym q))
      go later None q = later q

-- ---- what is found

-- the number r, counted from n, is that of a declaration of the kind k
record Numbered (n : ℕ) (ds : List Named) (k : Kind) (r : ℕ) : Type 0 where
  index : ℕ
  counted : r ≡ n + index
  below : index < length ds
  kind : (d : Named) → (get_or ds index d).kind ≡ k

number_found : (n : ℕ) (text : List ℕ) (ds : List Named) (k : Kind) (name : List ℕ) {r : ℕ} → bearer_from n text ds k name ≡ Some r → Numbered n ds k r
unfolding bearer_from
number_found n text [] k name e = absurd (nothing_no_row e)
number_found n text (d ∷ ds) k name {r} e = go _ refl (number_found (suc n) text ds k name) e
  where
    go : (b : Bool) → is_named text d k name ≡ b → (bearer_from (suc n) text ds k name ≡ Some r → Numbered (suc n) ds k r)
        → elim b [ true ↦ Some n | false ↦ bearer_from (suc n) text ds k name ] ≡ Some r → Numbered n (d ∷ ds) k r
    go true t later q =
        let h = eqb-true _ _ ((and-eq-true_iff _ _).0 t).0 in
        let z : n ≡ r = cc in
        record { index = 0; counted = omega arith; below = omega arith; kind = λ _. kind_told d.kind k h }
    go false t later q =
        let w = later q in
        let c = w.counted in
        let b = w.below in
        record { index = suc w.index; counted = omega arith; below = omega arith; kind = w.kind }

-- the n-th declaration is of one of the kinds ks
pub record OfKinds (ds : List Named) (ks : List Kind) (n : ℕ) : Type 0 where
  pub below : n < length ds
  pub kind : (d : Named) → Memᴰ (get_or ds n d).kind ks

pub called_found : (text : List ℕ) (ds : List Named) (ks : List Kind) (name : List ℕ) {r : ℕ} → called_in text ds ks name ≡ Some r → OfKinds ds ks r
unfolding called_in
called_found text ds [] name e = absurd (nothing_no_row e)
called_found text ds (k ∷ ks) name {r} e = go _ refl (called_found text ds ks name) e
  where
    go : (f : Option ℕ) → bearer_of text ds k name ≡ f → (called_in text ds ks name ≡ Some r → OfKinds ds ks r)
        → elim f [ Some n ↦ Some n | None ↦ called_in text ds ks name ] ≡ Some r → OfKinds ds (k ∷ ks) r
    go (Some n) t later q =
        let w = number_found 0 text ds k name (t ∙ q) in
        let i : r ≡ w.index = let c = w.counted in omega arith in
        let b = w.below in
        record { below = omega arith; kind = λ d. Memᴰ.head (ap (λ j. (get_or ds j d).kind) i ∙ w.kind d) }
    go None t later q = let w = later q in record { below = w.below; kind = λ d. Memᴰ.tail (w.kind d) }
