-- The index of the logics: one turn of the loop that makes it, and the search along its chain. Assumes nothing.
use mathlib.Core.Path.{◌≡◌, refl, sym, ap, ◌∙◌}
use mathlib.Core.Bool.{Bool, true, false, cond}
use mathlib.Core.List.{List}
use Rattle.std.specs.Prelude.{Option, Some, None}
use Rattle.std.proofs.lemmas.Option.{none-some, same_Some}
use Prim.Native.Nat.{ℕ, ◌+◌, ◌-◌, ◌≤◌, ◌<◌}
use native.Mathlib.Decide.{ℕ_discrete}
use native.Mathlib.Nat.{sub-zero}
use native.Mathlib.Omega.{arith}
use borrow.Author.Tests.{eq-eqb, ne_eqb, lt-leb, le-leb}
use lib.Dec.{eqb}
use lib.IntN.{ℤ}
use lib.ListN.{length, get_or, set, replicate, length-set, length-replicate, get_or-replicate}
use lib.Seq.{get_or-set_same, get_or-set_other}
use Rattle.integers.specs.Parts.{up}
use Rattle.tables.specs.declared.Numbers.{Numbers}
use Rattle.tables.specs.Layout.{read_at, row_of, as_logic, logic_form, harmony_base, most_rows}
use Rattle.protocol.specs.Triggers.{passes, first_logic}
use Rattle.protocol.specs.Inner.{logic_trigger, is_trigger, is_harmonic, Indexed}
use Rattle.protocol.proofs.Forms.{passes_by}
use Rattle.protocol.proofs.Searches.{logic_here, logic_on, logic_none, none_only, some_only}

-- whether there is a trigger that passes a test
abbrev pub passes_trigger : (ℕ → Bool) → Option ℕ → Bool
passes_trigger p None = false
passes_trigger p (Some c) = p c

-- a logic's trigger tells whether it is a logic whose trigger passes
pub triggered : (p : ℕ → Bool) (n : Numbers) → passes_trigger p (logic_trigger n) ≡ passes p (as_logic (row_of n))
triggered p n = go (eqb n.form logic_form) ∙ passes_by n p
  where
    go : (b : Bool) → passes_trigger p (cond b (Some (up n.first)) None) ≡ cond b (p (up n.first)) false
    go true = refl
    go false = refl

-- ---- the index of the rows from row i on; `first` is the first of them that is a logic whose trigger is a harmony

pub record From (rows : List ℤ) (count i : ℕ) (letters chords : List (Option ℕ)) (first : Option ℕ) : Type 0 where
  pub most : i ≤ count
  pub letters_size : length letters ≡ harmony_base
  pub chords_size : length chords ≡ most_rows + 1
  pub letter : (trigger : ℕ) → trigger < harmony_base → get_or letters trigger None ≡ first_logic rows (is_trigger trigger) i (count - i)
  pub here : first ≡ first_logic rows is_harmonic i (count - i)
  pub chord : (j : ℕ) → i ≤ j → j ≤ count → get_or chords j None ≡ first_logic rows is_harmonic j (count - j)

module _ (rows : List ℤ) (count : ℕ) (most : count ≤ most_rows) where
  pub from_end : From rows count count (replicate harmony_base None) (replicate (most_rows + 1) None) None
  from_end =
      record {
        most = omega arith;
        letters_size = length-replicate {A = Option ℕ} harmony_base None;
        chords_size = length-replicate {A = Option ℕ} (most_rows + 1) None;
        letter = λ trigger h. get_or-replicate harmony_base trigger None None h ∙ logic_none rows (is_trigger trigger) count count (omega arith);
        here = logic_none rows is_harmonic count count (omega arith);
        chord = λ j h k. get_or-replicate (most_rows + 1) j None None (omega arith) ∙ logic_none rows is_harmonic j count h;
      }

  -- row i, before the rows from i + 1 on
  module _ (i : ℕ) (letters chords : List (Option ℕ)) (first : Option ℕ) (w : From rows count (i + 1) letters chords first)
      {r : Option ℕ} (e : r ≡ logic_trigger (read_at rows i)) where
    tested : (p : ℕ → Bool) → passes_trigger p r ≡ passes p (as_logic (row_of (read_at rows i)))
    tested p = ap (passes_trigger p) e ∙ triggered p (read_at rows i)

    here_on : (p : ℕ → Bool) {b : Bool} → passes_trigger p r ≡ b → b ≡ false → first_logic rows p (i + 1) (count - (i + 1)) ≡ first_logic rows p i (count - i)
    here_on p h f = logic_on rows p i count (omega (arith, w.most)) (sym h ∙ tested p) f

    here_found : (p : ℕ → Bool) {b : Bool} → passes_trigger p r ≡ b → b ≡ true → Some i ≡ first_logic rows p i (count - i)
    here_found p h f = logic_here rows p i count (omega (arith, w.most)) (sym h ∙ tested p) f

    from_on : (letters' : List (Option ℕ)) (first' : Option ℕ) → length letters' ≡ harmony_base
        → ((trigger : ℕ) → trigger < harmony_base → get_or letters' trigger None ≡ first_logic rows (is_trigger trigger) i (count - i))
        → first' ≡ first_logic rows is_harmonic i (count - i) → From rows count i letters' (set chords i first') first'
    from_on letters' first' n l h =
        record {
          most = omega (arith, w.most);
          letters_size = n;
          chords_size = length-set chords i first' ∙ w.chords_size;
          letter = l;
          here = h;
          chord = λ j least top.
              elim (ℕ_discrete j i) [
                | yes z ↦
                    ap (λ (x : ℕ). get_or (set chords i first') x None) z
                    ∙ get_or-set_same chords i first' None (omega (arith, w.chords_size, w.most))
                    ∙ h
                    ∙ ap (λ (x : ℕ). first_logic rows is_harmonic x (count - x)) (sym z)
                | no z ↦ get_or-set_other chords i j first' None z ∙ w.chord j (omega (arith, z, least)) top
              ];
        }

    -- the row is a logic with a letter
    pub from_letter : {k : ℕ} → r ≡ Some k → k < harmony_base → From rows count i (set letters k (Some i)) (set chords i first) first
    from_letter {k} s l =
        from_on (set letters k (Some i)) first (length-set letters k (Some i) ∙ w.letters_size)
        (λ trigger h.
        elim (ℕ_discrete trigger k) [
          | yes z ↦
              ap (λ (x : ℕ). get_or (set letters k (Some i)) x None) z
              ∙ get_or-set_same letters k (Some i) None (omega (arith, w.letters_size))
              ∙ here_found (is_trigger trigger) (ap (passes_trigger (is_trigger trigger)) s) (eq-eqb k trigger (sym z))
          | no z ↦
              get_or-set_other letters k trigger (Some i) None z
              ∙ w.letter trigger h
              ∙ here_on (is_trigger trigger) (ap (passes_trigger (is_trigger trigger)) s) (ne_eqb k trigger (λ q. z (sym q)))
        ])
        (w.here ∙ here_on is_harmonic (ap (passes_trigger is_harmonic) s) (lt-leb harmony_base k l))

    -- a harmony
    pub from_chord : {k : ℕ} → r ≡ Some k → harmony_base ≤ k → From rows count i letters (set chords i (Some i)) (Some i)
    from_chord {k} s l =
        from_on letters (Some i) w.letters_size
        (λ trigger h. w.letter trigger h ∙ here_on (is_trigger trigger) (ap (passes_trigger (is_trigger trigger)) s) (ne_eqb k trigger (λ q. omega arith)))
        (here_found is_harmonic (ap (passes_trigger is_harmonic) s) (le-leb harmony_base k l))

    -- or no logic
    pub from_other : r ≡ None → From rows count i letters (set chords i first) first
    from_other s =
        from_on letters first w.letters_size
        (λ trigger h. w.letter trigger h ∙ here_on (is_trigger trigger) (ap (passes_trigger (is_trigger trigger)) s) refl)
        (w.here ∙ here_on is_harmonic (ap (passes_trigger is_harmonic) s) refl)

pub from_start : (rows : List ℤ) (count : ℕ) {i : ℕ} {letters chords : List (Option ℕ)} {first : Option ℕ} → From rows count i letters chords first → i ≡ 0
    → Indexed rows count (record { letters = letters; chords = chords })
from_start rows count w z =
    record {
      letter = λ trigger h. w.letter trigger h ∙ ap (λ (j : ℕ). first_logic rows (is_trigger trigger) j (count - j)) z ∙ ap (first_logic rows (is_trigger trigger) 0) (sub-zero count);
      chord = λ j h. w.chord j (omega (arith, z)) h;
    }

-- ---- the search along the chain, by a test that passes harmonies alone

-- the next logic to try: what is found from it on is what is found among all
pub record Seeking (rows : List ℤ) (q : ℕ → Bool) (count : ℕ) (next : Option ℕ) : Type 0 where
  pub within : (i : ℕ) → next ≡ Some i → i < count
  pub ended : next ≡ None → None ≡ first_logic rows q 0 count
  pub rest : (i : ℕ) → next ≡ Some i → first_logic rows q i (count - i) ≡ first_logic rows q 0 count

-- how many rows are left
abbrev pub left : ℕ → Option ℕ → ℕ
left count None = 0
left count (Some i) = count - i

pub left_less : (count : ℕ) (n m : Option ℕ) {i : ℕ} → m ≡ Some i → i < count → ((k : ℕ) → n ≡ Some k → i < k) → left count n < left count m
left_less count None m e l f = rw e (omega arith)
left_less count (Some k) m e l f = let h = f k refl in rw e (omega arith)

module _ (rows : List ℤ) (q : ℕ → Bool) (only : (c : ℕ) → is_harmonic c ≡ false → q c ≡ false) (count : ℕ) where
  pub seek : (i : ℕ) (n : Option ℕ) → i ≤ count → n ≡ first_logic rows is_harmonic i (count - i) → first_logic rows q i (count - i) ≡ first_logic rows q 0 count
      → Seeking rows q count n × ((k : ℕ) → n ≡ Some k → i ≤ k)
  seek i None l e same = (
    record {
      within = λ k z. absurd (none-some k z);
      ended = λ z. sym (none_only rows is_harmonic q only i (count - i) (sym e)) ∙ same;
      rest = λ k z. absurd (none-some k z);
    },
    λ k z. absurd (none-some k z),
  )
  seek i (Some k) l e same =
      let r = some_only rows is_harmonic q only i (count - i) (sym e) in
      let m : i + (count - i) - k ≡ count - k = omega arith in (
        record {
          within = λ j z. let s = same_Some k j z in omega (arith, r.1);
          ended = λ z. absurd (none-some k (sym z));
          rest = λ j z.
              let s = same_Some k j z in
              ap (λ (x : ℕ). first_logic rows q x (count - x)) (sym s) ∙ ap (first_logic rows q k) (sym m) ∙ sym r.2 ∙ same;
        },
        λ j z. let s = same_Some k j z in omega (arith, r.0),
      )

  -- a logic that does not pass is left behind
  pub seek_on : (i : ℕ) {b : Bool} → i < count → b ≡ passes q (as_logic (row_of (read_at rows i))) → b ≡ false
      → first_logic rows q i (count - i) ≡ first_logic rows q 0 count → first_logic rows q (i + 1) (count - (i + 1)) ≡ first_logic rows q 0 count
  seek_on i l e f same = logic_on rows q i count l e f ∙ same
