-- Laws of the numbers that are kept for declarations: of a name's tag, and of the mark by which most other declarations are passed over.
-- Assumes nothing.
use Prim.Native.Nat.{ℕ, zero, suc, ◌+◌, ◌*◌, ◌/◌, ◌%◌, ◌≤◌, ◌<◌}
use mathlib.Core.Path.{◌≡◌, refl, sym, ◌∙◌, ap}
use mathlib.Core.Bool.{Bool, true, false, ◌&&◌, and-false}
use mathlib.Core.List.{List, [], ◌∷◌, map}
use native.Mathlib.Omega.{arith}
use native.Mathlib.Decide.{ℕ_discrete}
use borrow.Author.Tests.{eq-eqb, ne_eqb}
use lib.Dec.{eqb}
use lib.ListN.{length, get_or, take, length-map}
use Rattle.symbols.specs.Bytes.{in_name, small, same}
use Rattle.symbols.specs.Names.{name_at}
use Rattle.symbols.proofs.Letters.{same_true, name_out, name_stop, name_on}
use Rattle.grammar.specs.declared.Kind.{Kind}
use Rattle.grammar.specs.declared.Kind.TheVariants.{Interval, Tone, System, Retuning, Logic, Order as AnOrder, Harmony}
use Rattle.grammar.specs.Moves.{kind_number}
use Rattle.names.specs.Names.{Named, no_repeat, twice_from}
use Rattle.names.specs.Inner.{kind_room, tag_room, tag_factor, mark_room, tag_from, tag_of, mark_of, packed, unpacked, named_of, Kept, begun_with}
use Rattle.names.proofs.Searching.{kind_back, is_named}
use Rattle.names.proofs.Lists.{begun_taken, take_map}

-- ---- the tag of the name at a place

tag_below : (t : ℕ) (name : List ℕ) → t < tag_room → tag_from t name < tag_room
unfolding tag_from
tag_below t [] h = h
tag_below t (b ∷ name) h = tag_below ((t * tag_factor + b) % tag_room) name (omega arith)

pub tag_few : (name : List ℕ) → tag_of name < tag_room
tag_few name = tag_below 0 name (omega arith)

module _ (text : List ℕ) (i t : ℕ) where
  pub tag_out : length text ≤ i → t ≡ tag_from t (name_at text i)
  unfolding tag_from
  tag_out h = rw (name_out text i h)

  pub tag_stop : i < length text → in_name (get_or text i 0) ≡ false → t ≡ tag_from t (name_at text i)
  unfolding tag_from
  tag_stop h e = rw (name_stop text i h e)

  pub tag_on : i < length text → in_name (get_or text i 0) ≡ true
      → tag_from ((t * tag_factor + small (get_or text i 0)) % tag_room) (name_at text (i + 1)) ≡ tag_from t (name_at text i)
  unfolding tag_from
  tag_on h e = rw (name_on text i h e)

-- ---- the mark of a kind and a name

pub kind_few : (k : Kind) → kind_number k < kind_room
kind_few Interval = omega arith
kind_few Tone = omega arith
kind_few System = omega arith
kind_few Retuning = omega arith
kind_few Logic = omega arith
kind_few AnOrder = omega arith
kind_few Harmony = omega arith

pub mark_few : (k : Kind) (name : List ℕ) → mark_of k name < mark_room
mark_few k name = omega (arith, kind_few k, tag_few name)

-- a declaration of another mark is of another kind or name: where the names are the same, so are their tags
mark_told : (j k : Kind) (xs ys : List ℕ)
    → (eqb (mark_of j xs) (mark_of k ys) && same xs ys) ≡ (eqb (kind_number j) (kind_number k) && same xs ys)
mark_told j k xs ys = go (same xs ys) refl
  where
    kinds_told : tag_of xs ≡ tag_of ys → Dec (kind_number j ≡ kind_number k) → eqb (mark_of j xs) (mark_of k ys) ≡ eqb (kind_number j) (kind_number k)
    kinds_told t (yes q) = eq-eqb (mark_of j xs) (mark_of k ys) (omega arith) ∙ sym (eq-eqb _ _ q)
    kinds_told t (no q) = ne_eqb (mark_of j xs) (mark_of k ys) (λ e. q (omega arith)) ∙ sym (ne_eqb _ _ q)

    go : (b : Bool) → same xs ys ≡ b → (eqb (mark_of j xs) (mark_of k ys) && b) ≡ (eqb (kind_number j) (kind_number k) && b)
    go true e = ap (λ a. a && true) (kinds_told (ap tag_of (same_true xs ys e)) (ℕ_discrete _ _))
    go false e = and-false (eqb (mark_of j xs) (mark_of k ys)) ∙ sym (and-false (eqb (kind_number j) (kind_number k)))

-- ---- a declaration as a number

module _ (text : List ℕ) where
  packed_mark : (d : Named) → packed text d % mark_room ≡ mark_of d.kind (name_at text d.place)
  packed_mark d = omega (arith, mark_few d.kind (name_at text d.place))

  pub unpacked_packed : (d : Named) → unpacked (packed text d) ≡ d
  unpacked_packed d =
      let h = kind_few d.kind in
      let m : packed text d % kind_room ≡ kind_number d.kind = omega arith in
      let q : packed text d / mark_room ≡ d.place = omega (arith, mark_few d.kind (name_at text d.place)) in
      rw (m, q, kind_back d.kind)

  pub named_packed : (ds : List Named) → named_of (map (packed text) ds) ≡ ds
  named_packed [] = refl
  named_packed (d ∷ ds) = rw (unpacked_packed d, named_packed ds)

  -- the first n of them, after they were written over what a slice held
  module _ (ds : List Named) (before : List ℕ) (n : ℕ) {l : List ℕ} (h : n ≤ length ds) (e : l ≡ begun_with n (map (packed text) ds) before) where
    as_many : n ≤ length (map (packed text) ds)
    as_many = simp length-map h

    kept_taken : take n l ≡ map (packed text) (take n ds)
    kept_taken = ap (take n) e ∙ begun_taken (map (packed text) ds) before n as_many ∙ take_map (packed text) n ds

    pub kept_names : named_of (take n l) ≡ take n ds
    kept_names = ap named_of kept_taken ∙ named_packed (take n ds)

    pub kept_now : twice_from text [] (take n ds) ≡ no_repeat → Kept text (take n l)
    kept_now o = record { of_text = ap (map (packed text)) kept_names ∙ sym kept_taken; once = ap (twice_from text []) kept_names ∙ o }

  -- a number that is kept is that of a declaration of the text
  kept_one : (l : List ℕ) (i : ℕ) → map (packed text) (named_of l) ≡ l → i < length l → packed text (unpacked (get_or l i 0)) ≡ get_or l i 0
  kept_one [] i e h = absurd (omega arith)
  kept_one (x ∷ l) zero e h = cc
  kept_one (x ∷ l) (suc i) e h = kept_one l i (cc) (omega arith)

  module _ {l : List ℕ} (w : Kept text l) (row : ℕ) (h : row < length l) where
    kept_at : packed text (unpacked (get_or l row 0)) ≡ get_or l row 0
    kept_at = kept_one l row w.of_text h

    mark_here : get_or l row 0 % mark_room ≡ mark_of (unpacked (get_or l row 0)).kind (name_at text (unpacked (get_or l row 0)).place)
    mark_here = ap (λ x. x % mark_room) (sym kept_at) ∙ packed_mark (unpacked (get_or l row 0))

    -- the test of a kept number is that of its declaration's kind and name
    pub kept_told : (k : Kind) (name : List ℕ) {m : ℕ} → m ≡ mark_of k name
        → {b : Bool} → b ≡ (eqb (get_or l row 0 % mark_room) m && same (name_at text (unpacked (get_or l row 0)).place) name)
        → b ≡ is_named text (unpacked (get_or l row 0)) k name
    kept_told k name q e = e ∙ rw (q, mark_here) (mark_told (unpacked (get_or l row 0)).kind k _ name)
