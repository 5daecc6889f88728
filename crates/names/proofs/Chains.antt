-- Laws of the chains of declarations, and of the search along one: the rows that it passes over are of other buckets, so of other marks.
-- Assumes nothing.
use Prim.Native.Nat.{ℕ, zero, suc, ◌+◌, ◌-◌, ◌%◌, ◌≤◌, ◌<◌}
use mathlib.Core.Path.{◌≡◌, refl, sym, ◌∙◌, ap, subst}
use mathlib.Core.Bool.{Bool, true, false, ◌&&◌}
use mathlib.Core.List.{List, [], ◌∷◌, ◌++◌, map-append}
use native.Mathlib.Numerals.{add-one}
use native.Mathlib.Omega.{arith}
use native.Mathlib.Decide.{ℕ_discrete}
use borrow.Author.Tests.{eq-eqb, ne_eqb}
use lib.Dec.{eqb}
use lib.ListN.{length, get_or, take, drop, set, replicate, length-map, length-set, length-replicate, get_or-replicate}
use lib.Seq.{take-suc, take-length, split_at, length-take-le, get_or-take, get_or-set_same, get_or-set_other}
use Rattle.symbols.specs.Bytes.{same}
use Rattle.symbols.specs.Names.{name_at}
use Rattle.std.specs.Prelude.{Option, Some, None}
use Rattle.grammar.specs.declared.Kind.{Kind}
use Rattle.names.specs.Names.{bearer_from, bearer_of, twice_from}
use Rattle.names.specs.Inner.{mark_of, mark_room, unpacked, named_of, Kept, buckets, bucket_of, last_in, Chained, most_declarations}
use Rattle.names.proofs.Searching.{is_named, number_past, number_once}
use Rattle.names.proofs.Marks.{kept_told}

-- ---- the last row of a bucket

module _ (l : List ℕ) (b : ℕ) where
  last_in_step : (n : ℕ) → bucket_of (get_or l n 0) ≡ b → last_in l b (suc n) ≡ suc n
  unfolding last_in
  last_in_step n e = rw (last_in, eq-eqb (bucket_of (get_or l n 0)) b e)

  last_out : (n : ℕ) → (bucket_of (get_or l n 0) ≡ b → ⊥) → last_in l b (suc n) ≡ last_in l b n
  unfolding last_in
  last_out n e = rw (last_in, ne_eqb (bucket_of (get_or l n 0)) b e)

  last_few : (n : ℕ) → last_in l b n ≤ n
  unfolding last_in
  last_few zero = omega arith
  last_few (suc n) = go (ℕ_discrete (bucket_of (get_or l n 0)) b) (last_few n)
    where
      go : Dec (bucket_of (get_or l n 0) ≡ b) → last_in l b n ≤ n → last_in l b (suc n) ≤ suc n
      go (yes e) h = omega (arith, last_in_step n e)
      go (no e) h = omega (arith, last_out n e)

  -- it is the last below itself
  last_last : (n : ℕ) → last_in l b (last_in l b n) ≡ last_in l b n
  unfolding last_in
  last_last zero = refl
  last_last (suc n) = go (ℕ_discrete (bucket_of (get_or l n 0)) b) (last_last n)
    where
      go : Dec (bucket_of (get_or l n 0) ≡ b) → last_in l b (last_in l b n) ≡ last_in l b n → last_in l b (last_in l b (suc n)) ≡ last_in l b (suc n)
      go (yes e) h = ap (last_in l b) (last_in_step n e)
      go (no e) h = ap (last_in l b) (last_out n e) ∙ h ∙ sym (last_out n e)

  -- it is in the bucket
  last_bucket : (n : ℕ) → last_in l b (suc n) ≡ suc n → bucket_of (get_or l n 0) ≡ b
  last_bucket n h = go (ℕ_discrete (bucket_of (get_or l n 0)) b)
    where
      go : Dec (bucket_of (get_or l n 0) ≡ b) → bucket_of (get_or l n 0) ≡ b
      go (yes e) = e
      go (no e) = absurd (omega (arith, last_out n e, last_few n))

  -- only the rows below n count
  last_taken : (n i : ℕ) → i ≤ n → last_in (take n l) b i ≡ last_in l b i
  unfolding last_in
  last_taken n zero h = refl
  last_taken n (suc i) h =
      ap {B = ℕ} (λ x. elim (eqb (bucket_of x) b) [ true ↦ suc i | false ↦ last_in (take n l) b i ]) (get_or-take n l i 0 h)
      ∙ ap {B = ℕ} (λ m. elim (eqb (bucket_of (get_or l i 0)) b) [ true ↦ suc i | false ↦ m ]) (last_taken n i (omega arith))

-- ---- the chains of the first n declarations

module _ (l : List ℕ) (n : ℕ) (h : n ≤ length l) where
  heads_taken : (b : ℕ) → last_in (take n l) b (length (take n l)) ≡ last_in l b n
  heads_taken b = ap (last_in (take n l) b) (length-take-le n l h) ∙ last_taken l b n n (omega arith)

  links_taken : (i : ℕ) → i < n → last_in (take n l) (bucket_of (get_or (take n l) i 0)) i ≡ last_in l (bucket_of (get_or l i 0)) i
  links_taken i k = ap (λ x. last_in (take n l) (bucket_of x) i) (get_or-take n l i 0 k) ∙ last_taken l (bucket_of (get_or l i 0)) n i (omega arith)

-- of none
pub chained_none : Chained [] (replicate buckets 0) (replicate most_declarations 0)
unfolding last_in
chained_none =
    record {
      heads_size = length-replicate {A = ℕ} buckets 0;
      links_size = length-replicate {A = ℕ} most_declarations 0;
      few = omega arith;
      head = λ b k. get_or-replicate buckets b 0 0 k;
      link = λ i k. absurd (omega arith);
    }

-- one more
module _ (l : List ℕ) {n : ℕ} (h : n < length l) (few : n < most_declarations) {heads links : List ℕ} (c : Chained (take n l) heads links) where
  abbrev bucket : ℕ
  bucket = bucket_of (get_or l n 0)

  head_old : (b : ℕ) → b < buckets → get_or heads b 0 ≡ last_in l b n
  head_old b k = c.head b k ∙ heads_taken l n (omega arith) b

  head_new : (b : ℕ) → b < buckets → Dec (b ≡ bucket) → get_or (set heads bucket (n + 1)) b 0 ≡ last_in l b (suc n)
  head_new b k (yes e) = rw e (get_or-set_same heads bucket (n + 1) 0 (omega (arith, c.heads_size)) ∙ add-one n ∙ sym (last_in_step l bucket n refl))
  head_new b k (no e) = get_or-set_other heads bucket b (n + 1) 0 e ∙ head_old b k ∙ sym (last_out l b n (λ q. e (sym q)))

  link_new : (i : ℕ) → i < n + 1 → Dec (i ≡ n) → get_or (set links n (get_or heads bucket 0)) i 0 ≡ last_in l (bucket_of (get_or l i 0)) i
  link_new i k (yes e) = rw e (get_or-set_same links n (get_or heads bucket 0) 0 (omega (arith, c.links_size)) ∙ head_old bucket (omega arith))
  link_new i k (no e) =
      let t = length-take-le n l (omega arith) in
      get_or-set_other links n i (get_or heads bucket 0) 0 e ∙ c.link i (omega arith) ∙ links_taken l n (omega arith) i (omega arith)

  pub chained_more : Chained (take (n + 1) l) (set heads bucket (n + 1)) (set links n (get_or heads bucket 0))
  chained_more =
      let t = length-take-le (n + 1) l (omega arith) in
      record {
        heads_size = simp length-set c.heads_size;
        links_size = simp length-set c.links_size;
        few = omega arith;
        head = λ b k. head_new b k (ℕ_discrete b bucket) ∙ ap (last_in l b) (sym (add-one n)) ∙ sym (heads_taken l (n + 1) (omega arith) b);
        link = λ i k. link_new i (omega arith) (ℕ_discrete i n) ∙ sym (links_taken l (n + 1) (omega arith) i (omega arith));
      }

-- ---- the search

-- what is found below row n
abbrev found_below : List ℕ → List ℕ → Kind → List ℕ → ℕ → Option ℕ
found_below text l k name n = bearer_of text (named_of (take n l)) k name

-- one row more
more_taken : (l : List ℕ) (row : ℕ) → row < length l → named_of (take (suc row) l) ≡ named_of (take row l) ++ unpacked (get_or l row 0) ∷ []
more_taken l row h = ap named_of (take-suc l row 0 h) ∙ map-append unpacked (take row l) (get_or l row 0 ∷ [])

module _ {text l : List ℕ} (w : Kept text l) (k : Kind) (name : List ℕ) where
  row_past : (row : ℕ) → row < length l → is_named text (unpacked (get_or l row 0)) k name ≡ false
      → found_below text l k name (suc row) ≡ found_below text l k name row
  row_past row h e = rw (more_taken l row h) (number_past text (unpacked (get_or l row 0)) k name e 0 (named_of (take row l)))

  row_hit : (row : ℕ) → row < length l → is_named text (unpacked (get_or l row 0)) k name ≡ true → found_below text l k name (suc row) ≡ Some row
  row_hit row h e =
      let s = ap named_of (split_at l row 0 h) ∙ map-append unpacked (take row l) (get_or l row 0 ∷ drop (suc row) l) in
      let o = ap (twice_from text []) (sym s) ∙ w.once in
      let m = length-map (take row l) unpacked ∙ length-take-le row l (omega arith) in
      rw (more_taken l row h) (number_once text (unpacked (get_or l row 0)) k name (named_of (take row l)) (named_of (drop (suc row) l)) o e ∙ ap Some m)

  -- a row of another bucket is of another kind or name
  other_bucket : (row : ℕ) → row < length l → (bucket_of (get_or l row 0) ≡ bucket_of (mark_of k name) → ⊥)
      → is_named text (unpacked (get_or l row 0)) k name ≡ false
  other_bucket row h e =
      let m = ne_eqb (get_or l row 0 % mark_room) (mark_of k name) (λ q. e (omega arith)) in
      sym (kept_told text w row h k name refl (rw m))

  -- so the rows from the last of the bucket to n are passed over
  passed_over : (n : ℕ) → n ≤ length l → found_below text l k name (last_in l (bucket_of (mark_of k name)) n) ≡ found_below text l k name n
  unfolding last_in
  passed_over zero h = refl
  passed_over (suc n) h = go (ℕ_discrete (bucket_of (get_or l n 0)) b) (passed_over n (omega arith))
    where
      b : ℕ
      b = bucket_of (mark_of k name)

      go : Dec (bucket_of (get_or l n 0) ≡ b) → found_below text l k name (last_in l b n) ≡ found_below text l k name n
          → found_below text l k name (last_in l b (suc n)) ≡ found_below text l k name (suc n)
      go (yes e) later = ap (found_below text l k name) (last_in_step l b n e)
      go (no e) later = ap (found_below text l k name) (last_out l b n e) ∙ later ∙ sym (row_past n h (other_bucket n h e))

-- `next` is one more than the row that is tried next, which is in the bucket of the mark, or 0: what is found below it is what is found in all rows
pub record Ahead (text l name : List ℕ) (mark next : ℕ) : Type 0 where
  pub within : next ≤ length l
  pub last : last_in l (bucket_of mark) next ≡ next
  pub found : (k : Kind) → mark ≡ mark_of k name → found_below text l k name next ≡ bearer_of text (named_of l) k name

module _ {text l heads links : List ℕ} (w : Kept text l) (c : Chained l heads links) (name : List ℕ) (mark : ℕ) where
  ahead_at : (n : ℕ) → n ≤ length l → ((k : Kind) → mark ≡ mark_of k name → found_below text l k name n ≡ bearer_of text (named_of l) k name)
      → {next : ℕ} → next ≡ last_in l (bucket_of mark) n → Ahead text l name mark next
  ahead_at n h f e =
      record {
        within = omega (arith, last_few l (bucket_of mark) n);
        last = rw e (last_last l (bucket_of mark) n);
        found = λ k q. rw (e, q) (passed_over w k name n h) ∙ f k q;
      }

  pub ahead_first : Ahead text l name mark (get_or heads (bucket_of mark) 0)
  ahead_first = ahead_at (length l) (omega arith) (λ k q. rw take-length) (c.head (bucket_of mark) (omega arith))

  pub ahead_end : {next : ℕ} → Ahead text l name mark next → next ≡ 0 → (k : Kind) → mark ≡ mark_of k name → None ≡ bearer_of text (named_of l) k name
  unfolding bearer_from
  ahead_end a z k q = ap (found_below text l k name) (sym z) ∙ a.found k q

  module _ {next : ℕ} (a : Ahead text l name mark next) (z : next ≡ 0 → ⊥) where
    present : Ahead text l name mark (suc (next - 1))
    present = subst (Ahead text l name mark) (omega arith) a

    pub row_kept : next - 1 < length l
    row_kept = present.within

    pub row_linked : next - 1 < length links
    row_linked = omega (arith, row_kept, c.few, c.links_size)

    -- the next row of its chain
    link_here : get_or links (next - 1) 0 ≡ last_in l (bucket_of mark) (next - 1)
    link_here = c.link (next - 1) row_kept ∙ ap (λ d. last_in l d (next - 1)) (last_bucket l (bucket_of mark) (next - 1) present.last)

    pub link_less : get_or links (next - 1) 0 < next
    link_less = omega (arith, link_here, last_few l (bucket_of mark) (next - 1))

    module _ {b : Bool} (e : b ≡ (eqb (get_or l (next - 1) 0 % mark_room) mark && same (name_at text (unpacked (get_or l (next - 1) 0)).place) name)) where
      row_told : {t : Bool} → b ≡ t → (k : Kind) → mark ≡ mark_of k name → is_named text (unpacked (get_or l (next - 1) 0)) k name ≡ t
      row_told z k q = sym (kept_told text w (next - 1) row_kept k name q e) ∙ z

      pub ahead_hit : b ≡ true → (k : Kind) → mark ≡ mark_of k name → Some (next - 1) ≡ bearer_of text (named_of l) k name
      ahead_hit t k q = sym (row_hit w k name (next - 1) row_kept (row_told t k q)) ∙ present.found k q

      pub ahead_on : b ≡ false → Ahead text l name mark (get_or links (next - 1) 0)
      ahead_on t =
          ahead_at (next - 1) (omega (arith, row_kept))
          (λ k q. sym (row_past w k name (next - 1) row_kept (row_told t k q)) ∙ present.found k q)
          link_here
