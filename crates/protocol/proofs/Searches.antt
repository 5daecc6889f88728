-- The searches by a test of triggers: one turn of the loop over the logics, its end, and what is found among logics and among orders. Assumes nothing.
use mathlib.Core.Path.{◌≡◌, refl, sym, ap, ◌∙◌}
use mathlib.Core.Bool.{Bool, true, false}
use mathlib.Core.List.{List, [], ◌∷◌}
use Rattle.std.specs.Prelude.{Option, Some, None}
use Rattle.std.proofs.lemmas.Option.{none-some, same_Some}
use Prim.Native.Nat.{ℕ, zero, suc, ◌+◌, ◌-◌, ◌≤◌, ◌<◌}
use native.Mathlib.Numerals.{add-one}
use native.Mathlib.Omega.{arith}
use lib.IntN.{ℤ}
use lib.ListN.{length, get_or, take}
use lib.Seq.{slice, length-slice, get_or-drop, get_or-take}
use Rattle.tables.specs.Layout.{read_at, row_of, AsLogic, no_logic_holds, a_logic, as_logic}
use Rattle.protocol.specs.Triggers.{passes, first_logic, first_order}

-- ---- the first logic

module _ (rows : List ℤ) (p : ℕ → Bool) (i n : ℕ) where
  pub logic_here : {b : Bool} → i < n → b ≡ passes p (as_logic (row_of (read_at rows i))) → b ≡ true → Some i ≡ first_logic rows p i (n - i)
  unfolding first_logic
  logic_here h e f =
      let s : n - i ≡ suc (n - (i + 1)) = omega arith in
      rw (s, first_logic, ← e, f)

  pub logic_on : {b : Bool} → i < n → b ≡ passes p (as_logic (row_of (read_at rows i))) → b ≡ false
      → first_logic rows p (i + 1) (n - (i + 1)) ≡ first_logic rows p i (n - i)
  unfolding first_logic
  logic_on h e f =
      let s : n - i ≡ suc (n - (i + 1)) = omega arith in
      rw (s, first_logic, ← e, f, add-one)

  pub logic_none : n ≤ i → None ≡ first_logic rows p i (n - i)
  unfolding first_logic
  logic_none h = let e : n - i ≡ 0 = omega arith in rw e

-- it is one of the rows, and a logic
pub logic_found : (rows : List ℤ) (p : ℕ → Bool) (i n : ℕ) {k : ℕ} → first_logic rows p i n ≡ Some k
    → (k < i + n) × (passes p (as_logic (row_of (read_at rows k))) ≡ true)
unfolding first_logic
logic_found rows p i zero {k} e = absurd (none-some k e)
logic_found rows p i (suc n) {k} e = go (passes p (as_logic (row_of (read_at rows i)))) refl (logic_found rows p (suc i) n) e
  where
    Here : ℕ → Type 0
    Here m = (k < m) × (passes p (as_logic (row_of (read_at rows k))) ≡ true)

    go : (b : Bool) → passes p (as_logic (row_of (read_at rows i))) ≡ b → (first_logic rows p (suc i) n ≡ Some k → Here (suc i + n))
        → elim b [ true ↦ Some i | false ↦ first_logic rows p (suc i) n ] ≡ Some k → Here (i + suc n)
    go true h later q =
        let z = same_Some i k q in
        (omega arith, ap (λ (j : ℕ). passes p (as_logic (row_of (read_at rows j)))) (sym z) ∙ h)
    go false h later q = let z = later q in (omega (arith, z.0), z.1)

-- by a test that passes only what another passes: nothing stands before the first that the other passes
module _ (rows : List ℤ) (p q : ℕ → Bool) (only : (c : ℕ) → p c ≡ false → q c ≡ false) where
  passes_only : (l : AsLogic) → passes p l ≡ false → passes q l ≡ false
  passes_only no_logic_holds h = refl
  passes_only (a_logic c s from to) h = only c h

  pub none_only : (i n : ℕ) → first_logic rows p i n ≡ None → first_logic rows q i n ≡ None
  unfolding first_logic
  none_only i zero e = refl
  none_only i (suc n) e = go (passes p (as_logic (row_of (read_at rows i)))) refl (none_only (suc i) n) e
    where
      go : (b : Bool) → passes p (as_logic (row_of (read_at rows i))) ≡ b → (first_logic rows p (suc i) n ≡ None → first_logic rows q (suc i) n ≡ None) → ◌≡◌ {A = Option ℕ} (elim b [ true ↦ Some i | false ↦ first_logic rows p (suc i) n ]) None
          → ◌≡◌ {A = Option ℕ} (elim (passes q (as_logic (row_of (read_at rows i)))) [ true ↦ Some i | false ↦ first_logic rows q (suc i) n ]) None
      go true h later f = absurd (none-some i (sym f))
      go false h later f = rw (passes_only (as_logic (row_of (read_at rows i))) h) (later f)

  pub some_only : (i n : ℕ) {k : ℕ} → first_logic rows p i n ≡ Some k → (i ≤ k) × (k < i + n) × (first_logic rows q i n ≡ first_logic rows q k (i + n - k))
  unfolding first_logic
  some_only i zero {k} e = absurd (none-some k e)
  some_only i (suc n) {k} e = go (passes p (as_logic (row_of (read_at rows i)))) refl (some_only (suc i) n) e
    where
      Later : ℕ → ℕ → Type 0
      Later j m = (j ≤ k) × (k < j + m) × (first_logic rows q j m ≡ first_logic rows q k (j + m - k))

      go : (b : Bool) → passes p (as_logic (row_of (read_at rows i))) ≡ b → (first_logic rows p (suc i) n ≡ Some k → Later (suc i) n) → elim b [ true ↦ Some i | false ↦ first_logic rows p (suc i) n ] ≡ Some k
          → (i ≤ k) × (k < i + suc n)
          × (elim (passes q (as_logic (row_of (read_at rows i)))) [ true ↦ Some i | false ↦ first_logic rows q (suc i) n ] ≡ first_logic rows q k (i + suc n - k))
      go true h later f =
          let z = same_Some i k f in
          let m : suc n ≡ i + suc n - i = omega arith in
          (omega (arith, z), omega (arith, z), ap (first_logic rows q i) m ∙ ap (λ (x : ℕ). first_logic rows q x (i + suc n - x)) z)
      go false h later f =
          let r = later f in
          let m : suc i + n - k ≡ i + suc n - k = omega arith in
          (omega (arith, r.0), omega (arith, r.1), rw (passes_only (as_logic (row_of (read_at rows i))) h) (r.2 ∙ ap (first_logic rows q k) m))

-- ---- the first order

-- what it calls is what one of the orders calls
pub record Ordered (calls : List ℕ) (to k : ℕ) : Type 0 where
  pub index : ℕ
  pub most : index < to
  pub is : get_or calls index 0 ≡ k

order_held : (p : ℕ → Bool) (triggers calls : List ℕ) {k : ℕ} → first_order p triggers calls ≡ Some k → Ordered calls (length calls) k
unfolding first_order
order_held p [] calls {k} e = absurd (none-some k e)
order_held p (c ∷ cs) [] {k} e = absurd (none-some k e)
order_held p (c ∷ cs) (x ∷ xs) {k} e = go (p c) (order_held p cs xs) e
  where
    go : (b : Bool) → (first_order p cs xs ≡ Some k → Ordered xs (length xs) k)
        → elim b [ true ↦ Some x | false ↦ first_order p cs xs ] ≡ Some k → Ordered (x ∷ xs) (suc (length xs)) k
    go true later q = record { index = 0; most = omega arith; is = same_Some x k q }
    go false later q = let w = later q in record { index = suc w.index; most = omega (arith, w.most); is = w.is }

pub order_called : (p : ℕ → Bool) (triggers calls : List ℕ) (from to : ℕ) {k : ℕ} → to ≤ length calls
    → first_order p (slice from to triggers) (slice from to calls) ≡ Some k → Ordered calls to k
order_called p triggers calls from to h e =
    let w = order_held p (slice from to triggers) (slice from to calls) e in
    let l : from + w.index < to = omega (arith, w.most, length-slice from to calls h) in
    record {
      index = from + w.index;
      most = l;
      is = sym (get_or-drop from (take to calls) w.index 0 ∙ get_or-take to calls (from + w.index) 0 l) ∙ w.is;
    }
