-- Laws of the loop that puts the terms among items into a row.
-- Assumes nothing.
use Prim.Native.Nat.{ℕ, zero, suc, ◌+◌, ◌≤◌, ◌<◌}
use mathlib.Core.Path.{◌≡◌, refl, sym, ◌∙◌, ap, subst}
use mathlib.Core.List.{List, [], ◌∷◌, ◌++◌, append_assoc, append-nil}
use native.Mathlib.Numerals.{add-one}
use native.Mathlib.Omega.{arith}
use lib.ListN.{length, get_or, set, drop, replicate, length-set, drop_of_length-le}
use lib.Seq.{drop-cons, get_or-set_other}
use Rattle.std.specs.Prelude.{Option, Some, None, IfSome, option_to_list}
use Rattle.grammar.specs.declared.Item.{Item}
use Rattle.names.specs.Parts.{part}
use Rattle.values.specs.Values as values
use Rattle.values.specs.Rows.{terms_per_row, row_terms}
use Rattle.limits.specs.Limits.{most_rows}
use Rattle.program.specs.Program.{terms_of}
use Rattle.program.specs.Allowed.{Each}
use Rattle.valuation.specs.Inner.{content_of, term_in, Small, Holdable}
use Rattle.valuation.proofs.Contents.{terms_cons}

both_small : (x : Option values.Term) (ys : List values.Term) → Each (Small most_rows) (option_to_list x ++ ys) → IfSome x (Small most_rows) × Each (Small most_rows) ys
both_small None ys w = (tt, w)
both_small (Some t) ys w = (w.0, w.1)

-- ---- the places of a row

-- nothing from a place on
abbrev pub Free : List (Option values.Term) → ℕ → Type 0
Free l n = (k : ℕ) → n ≤ k → get_or l k None ≡ None

all_free : (l : List (Option values.Term)) → Free l 0 → row_terms l ≡ []
all_free [] f = refl
all_free (x ∷ l) f = rw (f 0 (omega arith)) (all_free l (λ k h. f (suc k) (omega arith)))

-- one term more
put_next : (l : List (Option values.Term)) (n : ℕ) (t : values.Term) → n < length l → Free l n → row_terms (set l n (Some t)) ≡ row_terms l ++ t ∷ []
put_next [] n t h f = absurd (omega arith)
put_next (x ∷ l) zero t h f =
    let e = all_free l (λ k h. f (suc k) (omega arith)) in
    rw (f 0 (omega arith), e)
put_next (None ∷ l) (suc n) t h f = put_next l n t (omega arith) (λ k h. f (suc k) (omega arith))
put_next (Some y ∷ l) (suc n) t h f = ap (λ ts. y ∷ ts) (put_next l n t (omega arith) (λ k h. f (suc k) (omega arith)))

free_next : (l : List (Option values.Term)) (n : ℕ) (t : values.Term) → Free l n → Free (set l n (Some t)) (n + 1)
free_next l n t f k h = get_or-set_other l n k (Some t) None (λ e. omega arith) ∙ f k (omega arith)

abbrev empty : ℕ → List (Option values.Term)
empty n = replicate n None

no_places : (n k : ℕ) → get_or (empty n) k None ≡ None
no_places zero k = refl
no_places (suc n) zero = refl
no_places (suc n) (suc k) = no_places n k

module _ (items : List Item) where
  -- the terms that are left before the i-th item
  abbrev left : ℕ → List values.Term
  left i = terms_of (drop i items)

  pub record Gathering (terms : List (Option values.Term)) (next i : ℕ) : Type 0 where
    pub whole : row_terms terms ++ left i ≡ left 0
    pub free : Free terms next
    pub full : length terms ≡ terms_per_row
    pub room : next + length (left i) ≤ terms_per_row
    pub small : Each (Small most_rows) (left i)

  pub gathering_none : Holdable (left 0) → Gathering (replicate terms_per_row None) 0 0
  gathering_none w = record { whole = refl; free = λ k h. no_places terms_per_row k; full = refl; room = omega (arith, w.few); small = w.small }

  module _ {terms : List (Option values.Term)} {next i : ℕ} (g : Gathering terms next i) where
    pub gathering_all : length items ≤ i → row_terms terms ≡ left 0
    unfolding terms_of
    gathering_all h = sym (append-nil (row_terms terms)) ∙ ap (λ is. row_terms terms ++ terms_of is) (sym (drop_of_length-le items h)) ∙ g.whole

    -- at an item
    module _ (h : i < length items) (none : Item) where
      abbrev here : Option values.Term
      here = term_in (content_of (part (get_or items i none)))

      split : left i ≡ option_to_list here ++ left (i + 1)
      split = rw add-one (ap terms_of (drop-cons items i none h) ∙ terms_cons (get_or items i none) (drop (suc i) items))

      smalls : IfSome here (Small most_rows) × Each (Small most_rows) (left (i + 1))
      smalls = both_small here (left (i + 1)) (subst (λ ts. Each (Small most_rows) ts) split g.small)

      pub small_here : IfSome here (Small most_rows)
      small_here = smalls.0

      pub gathering_on : here ≡ None → Gathering terms next (i + 1)
      gathering_on e =
          let s : left i ≡ left (i + 1) = split ∙ ap (λ x. option_to_list x ++ left (i + 1)) e in
          let r = g.room in
          record { whole = ap (λ ts. row_terms terms ++ ts) (sym s) ∙ g.whole; free = g.free; full = g.full; room = omega (arith, ap length s); small = smalls.1 }

      module _ {t : values.Term} (e : here ≡ Some t) where
        more : left i ≡ t ∷ left (i + 1)
        more = split ∙ ap (λ x. option_to_list x ++ left (i + 1)) e

        pub has_room : next < length terms
        has_room = let r = g.room in omega (arith, g.full, ap length more)

        pub gathering_more : Gathering (set terms next (Some t)) (next + 1) (i + 1)
        gathering_more =
            let r = g.room in
            record {
              whole =
                  ap (λ ts. ts ++ left (i + 1)) (put_next terms next t has_room g.free) ∙ append_assoc (row_terms terms) (t ∷ []) (left (i + 1))
                  ∙ ap (λ ts. row_terms terms ++ ts) (sym more) ∙ g.whole;
              free = free_next terms next t g.free;
              full = length-set terms next (Some t) ∙ g.full;
              room = omega (arith, ap length more);
              small = smalls.1;
            }
