-- Orders as rows of codes: what a store does to the columns, and how long they are. Assumes nothing.
use mathlib.Core.Path.{◌≡◌, refl, sym, ap, ◌∙◌}
use mathlib.Core.List.{List, [], ◌∷◌}
use Prim.Native.Nat.{ℕ, zero, suc, ◌+◌, ◌*◌, ◌≤◌}
use native.Mathlib.Omega.{arith}
use lib.ListN.{length, get_or, drop, set}
use lib.Seq.{drop-nil}
use Rattle.tables.specs.Layout.{order_width, column, triggers_in, calls_in}

-- the k-th code of order i
pub column_at : (k : ℕ) (l : List ℕ) (i : ℕ) → get_or (column k l) i 0 ≡ get_or l (order_width * i + k) 0
unfolding column
column_at k [] i = refl
column_at zero (x ∷ l) zero = refl
column_at zero (x ∷ l) (suc i) =
    let e : order_width * suc i + 0 ≡ suc (order_width * i + 1) = omega arith in
    rw e (column_at 1 l i)
column_at (suc k) (x ∷ l) i =
    let e : order_width * i + suc k ≡ suc (order_width * i + k) = omega arith in
    rw e (column_at k l i)

pub trigger_at : (l : List ℕ) (i : ℕ) → get_or l (order_width * i) 0 ≡ get_or (triggers_in l) i 0
trigger_at l i =
    let e : order_width * i ≡ order_width * i + 0 = omega arith in
    ap (λ (m : ℕ). get_or l m 0) e ∙ sym (column_at 0 l i)

pub call_at : (l : List ℕ) (i : ℕ) → get_or l (order_width * i + 1) 0 ≡ get_or (calls_in l) i 0
call_at l i = sym (column_at 1 l i)

-- a code that is stored is one of its column
pub column_set : (k : ℕ) (l : List ℕ) (i v : ℕ) → column k (set l (order_width * i + k) v) ≡ set (column k l) i v
unfolding column
column_set k [] i v = refl
column_set zero (x ∷ l) zero v = refl
column_set zero (x ∷ l) (suc i) v =
    let e : order_width * suc i + 0 ≡ suc (order_width * i + 1) = omega arith in
    rw e (ap (λ (r : List ℕ). x ∷ r) (column_set 1 l i v))
column_set (suc k) (x ∷ l) i v =
    let e : order_width * i + suc k ≡ suc (order_width * i + k) = omega arith in
    rw e (column_set k l i v)

-- and of no other
pub column_other : (k : ℕ) (l : List ℕ) (m v : ℕ) → ((i : ℕ) → m ≡ order_width * i + k → ⊥) → column k (set l m v) ≡ column k l
unfolding column
column_other k [] m v h = refl
column_other zero (x ∷ l) zero v h = absurd (h 0 (omega arith))
column_other zero (x ∷ l) (suc m) v h = ap (λ (r : List ℕ). x ∷ r) (column_other 1 l m v (λ i e. h (suc i) (omega arith)))
column_other (suc k) (x ∷ l) zero v h = refl
column_other (suc k) (x ∷ l) (suc m) v h = column_other k l m v (λ i e. h i (omega arith))

-- an order that is stored
pub order_stored : (l : List ℕ) (i trigger called : ℕ) {a b : List ℕ} → a ≡ set l (order_width * i) trigger → b ≡ set a (order_width * i + 1) called
    → (triggers_in b ≡ set (triggers_in l) i trigger) × (calls_in b ≡ set (calls_in l) i called)
order_stored l i trigger called {a} e f =
    let z : order_width * i ≡ order_width * i + 0 = omega arith in
    let at : a ≡ set l (order_width * i + 0) trigger = e ∙ ap (λ (m : ℕ). set l m trigger) z in (
      ap triggers_in f ∙ column_other 0 a (order_width * i + 1) called (λ j h. omega arith) ∙ ap triggers_in at ∙ column_set 0 l i trigger,
      ap calls_in f ∙ column_set 1 a i called ∙ ap (λ (r : List ℕ). set (calls_in r) i called) at
          ∙ ap (λ (r : List ℕ). set r i called) (column_other 1 l (order_width * i + 0) trigger (λ j h. omega arith)),
    )

-- ---- lengths

pub column_length : (k : ℕ) (l : List ℕ) (n : ℕ) → order_width * n + k ≤ length l + 1 → length l ≤ order_width * n + k → length (column k l) ≡ n
unfolding column
column_length k [] n g h = omega arith
column_length zero (x ∷ l) zero g h = let e : ⊥ = omega arith in absurd e
column_length zero (x ∷ l) (suc n) g h = ap suc (column_length 1 l n (omega arith) (omega arith))
column_length (suc k) (x ∷ l) n g h = column_length k l n (omega arith) (omega arith)

pub columns_length : (l : List ℕ) → length (triggers_in l) + length (calls_in l) ≡ length l
unfolding column
columns_length [] = refl
columns_length (x ∷ l) = omega (arith, columns_length l)

-- ---- what follows so many orders

pub triggers_drop : (n : ℕ) (l : List ℕ) → drop n (triggers_in l) ≡ triggers_in (drop (order_width * n) l)
unfolding column
triggers_drop zero l = refl
triggers_drop (suc n) [] = sym (ap triggers_in (drop-nil (order_width * suc n)))
triggers_drop (suc n) (x ∷ []) =
    let e : order_width * suc n ≡ suc (suc (order_width * n)) = omega arith in
    rw e (drop-nil n)
triggers_drop (suc n) (x ∷ y ∷ l) =
    let e : order_width * suc n ≡ suc (suc (order_width * n)) = omega arith in
    rw e (triggers_drop n l)

pub calls_drop : (n : ℕ) (l : List ℕ) → drop n (calls_in l) ≡ calls_in (drop (order_width * n) l)
unfolding column
calls_drop zero l = refl
calls_drop (suc n) [] = sym (ap calls_in (drop-nil (order_width * suc n)))
calls_drop (suc n) (x ∷ []) =
    let e : order_width * suc n ≡ suc (suc (order_width * n)) = omega arith in
    rw e
calls_drop (suc n) (x ∷ y ∷ l) =
    let e : order_width * suc n ≡ suc (suc (order_width * n)) = omega arith in
    rw e (calls_drop n l)
