-- A program that keeps "Numbers allowed" has room in the tables, and no more rows of a kind than allowed; what belongs to its rows follows one another.
-- Assumes nothing.
use mathlib.Core.Path.{◌≡◌, refl, ap₂, ◌∙◌, subst}
use mathlib.Core.Bool.{Bool, true, false}
use mathlib.Core.List.{List, [], ◌∷◌, flat_map}
use Prim.Native.Nat.{ℕ, suc, ◌+◌, ◌*◌, ◌≤◌}
use native.Mathlib.Nat.{add-zero, add-suc, suc-add, zero-add}
use native.Mathlib.Omega.{arith}
use borrow.Author.Tests.{le-leb, eq-eqb}
use lib.Dec.{eqb}
use lib.IntN.{ℤ}
use lib.ListN.{length, length-append, length-map}
use Rattle.grammar.specs.declared.Kind.{Kind}
use Rattle.grammar.specs.declared.Kind.TheVariants.{Interval, Tone, System, Retuning, Logic, Harmony}
use Rattle.grammar.specs.Moves.{kind_number}
use Rattle.limits.specs.Limits.{most_intervals, most_tone_names, most_systems, most_retunings, most_calls, most_logics, most_harmonies}
use Rattle.tuning.specs.State.{places}
use Rattle.tuning.specs.declared.Tone.{Tone as SoundingTone}
use Rattle.tuning.specs.declared.ToneChange.{ToneChange}
use Rattle.tables.specs.declared.Counts.{Counts}
use Rattle.tables.specs.declared.Row.{Row}
use Rattle.tables.specs.Layout.{used}
use Rattle.validity.specs.Valid.{kinds, one_more, kinds_from, kinds_right, belonging, ends, follows, ends_after, parts_follow}
use Rattle.validity.proofs.Sizes.{Room}
use Rattle.program.specs.Program.{Declaration, ratio, root, sequence, frequency, from, system, anchor, width, fresh_period, onward_period, tones, pattern, logic, harmony, Placed, Program}
use Rattle.program.specs.Meaning.{value_of}
use Rattle.program.specs.Allowed.{tones_count, tones_in, kind_of, Each, Fits, if_kind, count_of, order_count, orders_in, Allowed}
use Rattle.program.proofs.AcceptedText.{few_declarations}
use Rattle.filling.specs.Tables.{tone_of, tones_of, change_of, changes_of, orders_of, row_of, filled_from, laid_out}
use Rattle.mutabor.proofs.Filled.{gathered, only_systems, only_retunings, filled, filled_lists}

-- 1 for a declaration of a kind, 0 for any other
abbrev of_kind : Kind → Declaration → ℕ
of_kind k d = if_kind (eqb (kind_number (kind_of d)) (kind_number k)) 0

-- ---- "positions in one list: 60"

-- so many as there are of those that may have some
module _ (p : Program) {A : Type 0} (f : Declaration → List A) (one : Declaration → ℕ) (all : Program → ℕ) (none : all [] ≡ 0)
    (more : (d : Placed) (q : Program) → all (d ∷ q) ≡ one d.is + all q) (few : (d : Declaration) → Fits p d → length (f d) ≤ places * one d) where
  gathered_few : (q : Program) → Each (λ (d : Placed). Fits p d.is) q → length (gathered f q) ≤ places * all q
  unfolding flat_map
  gathered_few [] fit = omega arith
  gathered_few (d ∷ q) fit = omega (arith, length-append (f d.is) (gathered f q), few d.is fit.0, more d q, gathered_few q fit.1)

system_more : (d : Placed) (q : Program) → count_of System (d ∷ q) ≡ of_kind System d.is + count_of System q
unfolding count_of
system_more d q = go (eqb (kind_number (kind_of d.is)) (kind_number System))
  where
    go : (b : Bool) → if_kind b (count_of System q) ≡ if_kind b 0 + count_of System q
    go true = omega arith
    go false = omega arith

no_system : count_of System [] ≡ 0
unfolding count_of
no_system = refl

tones_more : (d : Placed) (q : Program) → tones_in (d ∷ q) ≡ tones_count d.is + tones_in q
unfolding tones_in
tones_more d q = refl

no_list : tones_in [] ≡ 0
unfolding tones_in
no_list = refl

module _ (p : Program) (value : ℕ → ℤ) where
  few_tones : (d : Declaration) → Fits p d → length (tones_of value d) ≤ places * of_kind System d
  few_tones d fit =
      only_systems value (λ (xs : List SoundingTone). length xs ≤ places * of_kind System d) d (omega arith) (λ a l ts e.
      let n = (subst (Fits p) e fit).positions in
      rw e (omega (arith, length-map l (tone_of value), n.few)))

  few_changes : (d : Declaration) → Fits p d → length (changes_of value d) ≤ places * tones_count d
  few_changes d fit =
      only_retunings value (λ (xs : List ToneChange). length xs ≤ places * tones_count d) d (omega arith) (λ l e.
      let n = (subst (Fits p) e fit).positions in
      rw e (omega (arith, length-map l (change_of value), n.few)))

-- ---- "orders in all logics together"

own_orders : (d : Declaration) → length (orders_of d) ≡ order_count d
own_orders (ratio a b) = refl
own_orders (root a b) = refl
own_orders (sequence ts) = refl
own_orders (frequency f) = refl
own_orders (from k ts) = refl
own_orders (system a l ts) = refl
own_orders (anchor m) = refl
own_orders (width m) = refl
own_orders (fresh_period ts) = refl
own_orders (onward_period ts) = refl
own_orders (tones l) = refl
own_orders (logic c s os) = refl
own_orders pattern = refl
own_orders (harmony ks) = refl

all_orders : (p : Program) → length (gathered orders_of p) ≡ orders_in p
unfolding flat_map orders_in
all_orders [] = refl
all_orders (d ∷ p) = length-append (orders_of d.is) (gathered orders_of p) ∙ ap₂ ◌+◌ (own_orders d.is) (all_orders p)

-- ---- all of it

pub room : (p : Program) → Allowed p → Room (used (laid_out (filled p)))
room p a =
    let l = filled_lists p in
    let ts = gathered_few p (tones_of (value_of p)) (of_kind System) (count_of System) no_system system_more (few_tones p (value_of p)) p a.each in
    let cs = gathered_few p (changes_of (value_of p)) tones_count tones_in no_list tones_more (few_changes p (value_of p)) p a.each in
    record {
      rows = rw l.rows (few_declarations a);
      tones = rw l.tones (omega (arith, a.few System));
      changes = rw l.changes (omega (arith, a.listed));
      orders = rw (l.orders, all_orders p) a.orders;
    }

-- ---- so many rows of each kind as there are declarations

module _ (value : ℕ → ℤ) where
  kinds_add : (x y s r l h i t c o : ℕ) (p : Program) → kinds_from (kinds x y s r l h) (filled_from value i t c o p).rows
      ≡ kinds (x + count_of Interval p) (y + count_of Tone p) (s + count_of System p) (r + count_of Retuning p) (l + count_of Logic p) (h + count_of Harmony p)
  unfolding filled_from kinds_from count_of
  kinds_add x y s r l h i t c o [] = simp add-zero
  kinds_add x y s r l h i t c o (d ∷ p) =
      let t' = t + length (tones_of value d.is) in
      let c' = c + length (changes_of value d.is) in
      let o' = o + length (orders_of d.is) in
      go d.is (filled_from value (suc i) t' c' o' p).rows (λ x y s r l h. kinds_add x y s r l h (suc i) t' c' o' p)
    where
      go : (d : Declaration) (rest : List Row)
          → ((x y s r l h : ℕ) → kinds_from (kinds x y s r l h) rest
          ≡ kinds (x + count_of Interval p) (y + count_of Tone p) (s + count_of System p) (r + count_of Retuning p) (l + count_of Logic p) (h + count_of Harmony p))
          → let n : Kind → ℕ = λ q. if_kind (eqb (kind_number (kind_of d)) (kind_number q)) (count_of q p) in
          kinds_from (one_more (kinds x y s r l h) (row_of value i t c o d)) rest
          ≡ kinds (x + n Interval) (y + n Tone) (s + n System) (r + n Retuning) (l + n Logic) (h + n Harmony)
      go (ratio a b) rest more = more (suc x) y s r l h ∙ simp (suc-add, add-suc)
      go (root a b) rest more = more (suc x) y s r l h ∙ simp (suc-add, add-suc)
      go (sequence ts) rest more = more (suc x) y s r l h ∙ simp (suc-add, add-suc)
      go (frequency f) rest more = more x (suc y) s r l h ∙ simp (suc-add, add-suc)
      go (from j ts) rest more = more x (suc y) s r l h ∙ simp (suc-add, add-suc)
      go (system a m ts) rest more = more x y (suc s) r l h ∙ simp (suc-add, add-suc)
      go (anchor m) rest more = more x y s (suc r) l h ∙ simp (suc-add, add-suc)
      go (width m) rest more = more x y s (suc r) l h ∙ simp (suc-add, add-suc)
      go (fresh_period ts) rest more = more x y s (suc r) l h ∙ simp (suc-add, add-suc)
      go (onward_period ts) rest more = more x y s (suc r) l h ∙ simp (suc-add, add-suc)
      go (tones m) rest more = more x y s (suc r) l h ∙ simp (suc-add, add-suc)
      go pattern rest more = more x y s (suc r) l h ∙ simp (suc-add, add-suc)
      go (logic a m os) rest more = more x y s r (suc l) h ∙ simp (suc-add, add-suc)
      go (harmony ks) rest more = more x y s r l (suc h) ∙ simp (suc-add, add-suc)

pub kinds_few : (p : Program) → Allowed p → kinds_right (kinds_from (kinds 0 0 0 0 0 0) (filled p).rows) ≡ true
kinds_few p a =
    rw (
      kinds_add (value_of p) 0 0 0 0 0 0 0 0 0 0 p,
      le-leb (0 + count_of Interval p) most_intervals (omega (arith, a.few Interval)),
      le-leb (0 + count_of Tone p) most_tone_names (omega (arith, a.few Tone)),
      le-leb (0 + count_of System p) most_systems (omega (arith, a.few System)),
      le-leb (0 + count_of Retuning p) (most_retunings + most_calls) (omega (arith, a.few Retuning)),
      le-leb (0 + count_of Logic p) most_logics (omega (arith, a.few Logic)),
      le-leb (0 + count_of Harmony p) most_harmonies (omega (arith, a.few Harmony)),
    )

-- ---- tones, changes and orders stand one row's after the other's

module _ (value : ℕ → ℤ) where
  -- those of a row begin where the last ended, and the next begin where they end
  record Next (t c o : ℕ) (d : Declaration) (r : Row) : Type 0 where
    begins : follows (ends t c o) (belonging r) ≡ true
    after : ends_after (ends t c o) (belonging r) ≡ ends (t + length (tones_of value d)) (c + length (changes_of value d)) (o + length (orders_of d))

  next : (i t c o : ℕ) (d : Declaration) → Next t c o d (row_of value i t c o d)
  next i t c o d = go d
    where
      none : ends t c o ≡ ends (t + 0) (c + 0) (o + 0)
      none = simp add-zero

      go : (d : Declaration) → Next t c o d (row_of value i t c o d)
      go (ratio a b) = record { begins = refl; after = none }
      go (root a b) = record { begins = refl; after = none }
      go (sequence ts) = record { begins = refl; after = none }
      go (frequency f) = record { begins = refl; after = none }
      go (from k ts) = record { begins = refl; after = none }
      go (system a l ts) = record { begins = eq-eqb t t refl; after = simp (length-map, add-zero) }
      go (anchor m) = record { begins = refl; after = none }
      go (width m) = record { begins = refl; after = none }
      go (fresh_period ts) = record { begins = refl; after = none }
      go (onward_period ts) = record { begins = refl; after = none }
      go (tones l) = record { begins = eq-eqb c c refl; after = simp (length-map, add-zero) }
      go pattern = record { begins = refl; after = none }
      go (logic x s os) = record { begins = eq-eqb o o refl; after = simp add-zero }
      go (harmony ks) = record { begins = refl; after = none }

  parts_follow_step : (u : Counts) (i t c o : ℕ) (p : Program) → let f = filled_from value i t c o p in
      t + length f.tones ≡ u.tones → c + length f.changes ≡ u.changes → o + length f.orders ≡ u.orders
      → parts_follow u (ends t c o) f.rows ≡ true
  unfolding filled_from parts_follow
  parts_follow_step u i t c o [] h j k = rw (eq-eqb t u.tones (omega arith), eq-eqb c u.changes (omega arith), eq-eqb o u.orders (omega arith))
  parts_follow_step u i t c o (d ∷ p) h j k =
      let ts = tones_of value d.is in
      let cs = changes_of value d.is in
      let os = orders_of d.is in
      let rest = filled_from value (suc i) (t + length ts) (c + length cs) (o + length os) p in
      let n = next i t c o d.is in
      rw (n.begins, n.after)
      (parts_follow_step u (suc i) (t + length ts) (c + length cs) (o + length os) p (omega (arith, h, length-append ts rest.tones))
      (omega (arith, j, length-append cs rest.changes)) (omega (arith, k, length-append os rest.orders)))

pub parts_laid : (p : Program) → parts_follow (used (laid_out (filled p))) (ends 0 0 0) (filled p).rows ≡ true
parts_laid p =
    parts_follow_step (value_of p) (used (laid_out (filled p))) 0 0 0 0 p (zero-add (length (filled p).tones)) (zero-add (length (filled p).changes))
    (zero-add (length (filled p).orders))
