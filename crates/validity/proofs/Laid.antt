-- Tables that are laid out from rows, tones, changes and orders: each test holds where it holds of each of them. Assumes nothing.
use mathlib.Core.Path.{◌≡◌, refl, sym, ap, ◌∙◌}
use mathlib.Core.Bool.{Bool, true, not, ◌&&◌}
use mathlib.Core.List.{List, [], ◌∷◌, map}
use Prim.Native.Nat.{ℕ, zero, suc, ◌+◌, ◌-◌, ◌*◌, ◌<◌}
use native.Mathlib.Nat.{zero-add}
use native.Mathlib.Omega.{arith}
use borrow.Author.Tests.{not-true, not-false}
use lib.IntN.{ℤ, pos}
use lib.ListN.{length, length-map, length-replicate, get_or, drop, replicate}
use lib.Seq.{take_at, drop_at, drop-cons, drop-length}
use Rattle.tuning.specs.Desk.{is_tone, beyond}
use Rattle.tuning.specs.State.{heard}
use Rattle.tuning.specs.declared.Tone.{Tone}
use Rattle.tuning.specs.declared.Tone.TheVariants.{Muted, At}
use Rattle.tuning.specs.declared.ToneChange.{ToneChange}
use Rattle.tuning.specs.declared.ToneChange.TheVariants.{Mute, Move, Set}
use Rattle.tuning.proofs.Lists.{every, both}
use Rattle.tables.specs.declared.Row.{Row}
use Rattle.tables.specs.declared.Row.TheVariants.{Unused}
use Rattle.tables.specs.Layout.{Tables, used, row_count, tone_count, change_count, order_count, row_width, most_rows, most_tones, most_changes, most_orders, counts_size, numbers_of, row_at, written_all, sounding_of, pitch_of, change_code, change_number, full}
use Rattle.tables.proofs.Stored.{number_read, row_read}
use Rattle.validity.specs.Valid.{is_sum, is_trigger, is_called, refers_to, declaration_right, is_own, rows_right, declarations, kinds, kinds_from, kinds_right, ends, parts_follow, orders_right, tone_right, change_right, each_right, all_zero, all_nought, list_right, valid_tables}
use Rattle.validity.proofs.Same.{same_both}
use Rattle.validity.proofs.Sizes.{Sizes, sizes_is, Room, room_is}

-- ---- the test put together

pub record Parts (t : Tables) : Type 0 where
  pub sizes : Sizes t
  pub room : Room (used t)
  pub rows : rows_right t 0 (row_count t) ≡ true
  pub kinds : kinds_right (kinds_from (kinds 0 0 0 0 0 0) (declarations t.rows 0 (row_count t))) ≡ true
  pub parts : parts_follow (used t) (ends 0 0 0) (declarations t.rows 0 (row_count t)) ≡ true
  pub rows_after : all_zero (drop (row_width * row_count t) t.rows) ≡ true
  pub tones : list_right tone_right (tone_count t) t.sounding t.tones ≡ true
  pub changes : list_right change_right (change_count t) t.kinds t.changes ≡ true
  pub orders : orders_right t 0 (order_count t) ≡ true
  pub triggers_after : all_nought (drop (order_count t) t.triggers) ≡ true
  pub calls_after : all_nought (drop (order_count t) t.calls) ≡ true

pub valid_is : (t : Tables) → Parts t → valid_tables t ≡ true
unfolding valid_tables
valid_is t p =
    rw (sizes_is t p.sizes)
    (all_true (room_is (used t) p.room) p.rows p.kinds p.parts p.rows_after p.tones p.changes p.orders p.triggers_after p.calls_after)
  where
    all_true : {a b c d e f g h i j : Bool} → a ≡ true → b ≡ true → c ≡ true → d ≡ true → e ≡ true → f ≡ true → g ≡ true → h ≡ true → i ≡ true → j ≡ true
        → a && b && c && d && e && f && g && h && i && j ≡ true
    all_true ha hb hc hd he hf hg hh hi hj = rw (ha, hb, hc, hd, he, hf, hg, hh, hi, hj)

-- ---- zeros after what is used

zeros : (n : ℕ) → all_zero (replicate n (pos 0)) ≡ true
unfolding all_zero
zeros zero = refl
zeros (suc n) = zeros n

noughts : (n : ℕ) → all_nought (replicate n 0) ≡ true
unfolding all_nought
noughts zero = refl
noughts (suc n) = noughts n

pub zeros_after : (size n : ℕ) (l : List ℤ) → length l ≡ n → all_zero (drop n (full (pos 0) size l)) ≡ true
zeros_after size n l e = rw (drop_at l (replicate (size - length l) (pos 0)) n e) (zeros (size - length l))

pub noughts_after : (size n : ℕ) (l : List ℕ) → length l ≡ n → all_nought (drop n (full 0 size l)) ≡ true
noughts_after size n l e = rw (drop_at l (replicate (size - length l) 0) n e) (noughts (size - length l))

-- ---- tones and changes

module _ {A : Type 0} (ok : ℕ → ℤ → Bool) (g : A → ℕ) (h : A → ℤ) where
  -- the test of one of them
  abbrev right : A → Bool
  right x = ok (g x) (h x)

  each_laid : (l : List A) → each_right ok (map g l) (map h l) ≡ every right l
  unfolding each_right every
  each_laid [] = refl
  each_laid (x ∷ l) = ap (λ (b : Bool). right x && b) (each_laid l)

  list_laid : (size n : ℕ) (l : List A) → length l ≡ n → every right l ≡ true → list_right ok n (full 0 size (map g l)) (full (pos 0) size (map h l)) ≡ true
  list_laid size n l e k =
      let ks = map g l in
      let zs = map h l in
      let m : length ks ≡ n = length-map l g ∙ e in
      let o : length zs ≡ n = length-map l h ∙ e in
      rw (
        take_at ks (replicate (size - length ks) 0) n m,
        take_at zs (replicate (size - length zs) (pos 0)) n o,
        each_laid l,
        k,
        noughts_after size n ks m,
        zeros_after size n zs o,
      )

every_implied : {A : Type 0} (p q : A → Bool) (l : List A) → ((x : A) → p x ≡ true → q x ≡ true) → every p l ≡ true → every q l ≡ true
unfolding every
every_implied p q [] h k = refl
every_implied p q (x ∷ l) h k = let a = both (p x) (every p l) k in rw (h x a.0, every_implied p q l h a.1)

pub tones_laid : (size n : ℕ) (l : List Tone) → length l ≡ n → every (λ (x : Tone). not (beyond (heard x))) l ≡ true
    → list_right tone_right n (full 0 size (map sounding_of l)) (full (pos 0) size (map pitch_of l)) ≡ true
tones_laid size n l e h =
    list_laid tone_right sounding_of pitch_of size n l e
    (every_implied (λ (x : Tone). not (beyond (heard x))) (right tone_right sounding_of pitch_of) l one h)
  where
    one : (x : Tone) → not (beyond (heard x)) ≡ true → right tone_right sounding_of pitch_of x ≡ true
    one Muted h = refl
    one (At p) h = rw (same_both p.0, not-false (is_tone p.0) (not-true (beyond (heard (At p))) h))

pub changes_laid : (size n : ℕ) (l : List ToneChange) → length l ≡ n → every (λ (x : ToneChange). is_sum (change_number x)) l ≡ true
    → list_right change_right n (full 0 size (map change_code l)) (full (pos 0) size (map change_number l)) ≡ true
changes_laid size n l e h =
    list_laid change_right change_code change_number size n l e
    (every_implied (λ (x : ToneChange). is_sum (change_number x)) (right change_right change_code change_number) l one h)
  where
    one : (x : ToneChange) → is_sum (change_number x) ≡ true → right change_right change_code change_number x ≡ true
    one Mute h = refl
    one (Move d) h = rw (same_both d.0, h)
    one (Set p) h = rw (same_both p.0, h)

-- ---- rows

module _ (t : Tables) (size : ℕ) (rs : List Row) (e : t.rows ≡ full (pos 0) size (written_all rs)) where
  pub row_laid : (i : ℕ) → i < length rs → row_at t i ≡ get_or rs i Unused
  row_laid i h = rw e (row_read size rs i h)

  own_laid : (i : ℕ) → i < length rs → is_own t.rows i ≡ true
  unfolding is_own
  own_laid i h =
      let n = numbers_of (get_or rs i Unused) in
      let rest = replicate (size - length (written_all rs)) (pos 0) in
      rw (
        row_laid i h,
        e,
        number_read rs rest i 0 h (omega arith),
        number_read rs rest i 1 h (omega arith),
        number_read rs rest i 2 h (omega arith),
        number_read rs rest i 3 h (omega arith),
        number_read rs rest i 4 h (omega arith),
        same_both (pos n.form),
        same_both n.first,
        same_both n.second,
        same_both (pos n.from),
        same_both (pos n.to),
      )

  pub rows_laid : ((i : ℕ) → i < length rs → declaration_right t (get_or rs i Unused) ≡ true) → rows_right t 0 (length rs) ≡ true
  unfolding rows_right
  rows_laid right = go (length rs) 0 (zero-add (length rs))
    where
      go : (n i : ℕ) → i + n ≡ length rs → rows_right t i n ≡ true
      go zero i q = refl
      go (suc n) i q =
          rw (
            own_laid i (omega arith),
            ap (declaration_right t) (row_laid i (omega arith)) ∙ right i (omega arith),
            go n (suc i) (omega arith),
          )

  -- the declarations are the rows
  pub declarations_laid : declarations t.rows 0 (length rs) ≡ rs
  unfolding declarations
  declarations_laid = go (length rs) 0 (zero-add (length rs))
    where
      go : (n i : ℕ) → i + n ≡ length rs → declarations t.rows i n ≡ drop i rs
      go zero i q = let s : i ≡ length rs = omega arith in rw s (sym (drop-length rs))
      go (suc n) i q = rw (drop-cons rs i Unused (omega arith), row_laid i (omega arith), go n (suc i) (omega arith))

-- ---- orders

pub orders_laid : (t : Tables) (n : ℕ)
    → ((i : ℕ) → i < n → is_trigger t (get_or t.triggers i 0) && refers_to is_called t (get_or t.calls i 0) ≡ true) → orders_right t 0 n ≡ true
unfolding orders_right
orders_laid t n right = go n 0 (zero-add n)
  where
    go : (m i : ℕ) → i + m ≡ n → orders_right t i m ≡ true
    go zero i e = refl
    go (suc m) i e = rw (right i (omega arith), go m (suc i) (omega arith))

-- ---- the tables of a text that declares nothing

abbrev pub nothing : Tables
nothing = record {
  rows = replicate (row_width * most_rows) (pos 0);
  sounding = replicate most_tones 0;
  tones = replicate most_tones (pos 0);
  kinds = replicate most_changes 0;
  changes = replicate most_changes (pos 0);
  triggers = replicate most_orders 0;
  calls = replicate most_orders 0;
  counts = replicate counts_size 0;
}

none_laid : (ok : ℕ → ℤ → Bool) (n : ℕ) → list_right ok 0 (replicate n 0) (replicate n (pos 0)) ≡ true
unfolding each_right
none_laid ok n = rw (noughts n, zeros n)

pub nothing_valid : valid_tables nothing ≡ true
unfolding rows_right orders_right declarations kinds_from parts_follow
nothing_valid = valid_is nothing (record {
  sizes = record {
    rows = length-replicate (row_width * most_rows) (pos 0);
    sounding = length-replicate {A = ℕ} most_tones 0;
    tones = length-replicate most_tones (pos 0);
    kinds = length-replicate {A = ℕ} most_changes 0;
    changes = length-replicate most_changes (pos 0);
    triggers = length-replicate {A = ℕ} most_orders 0;
    calls = length-replicate {A = ℕ} most_orders 0;
    counts = length-replicate {A = ℕ} counts_size 0;
  };
  room = record { rows = omega arith; tones = omega arith; changes = omega arith; orders = omega arith };
  rows = refl;
  kinds = refl;
  parts = refl;
  rows_after = zeros (row_width * most_rows);
  tones = none_laid tone_right most_tones;
  changes = none_laid change_right most_changes;
  orders = refl;
  triggers_after = noughts most_orders;
  calls_after = noughts most_orders;
})
