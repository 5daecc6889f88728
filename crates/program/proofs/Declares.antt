-- What stands after a declared name, with numbers in the place of names: which declaration it is, and that its numbers are allowed.
use mathlib.Core.Path.{◌≡◌, refl, sym, ◌∙◌, ap, subst}
use mathlib.Core.List.{List, [], ◌∷◌, ◌++◌}
use Rattle.std.specs.Prelude.{None}
use Prim.Native.Nat.{ℕ, suc, ◌+◌, ◌≤◌}
use native.Mathlib.Omega.{arith}
use lib.ListN.{length}
use Rattle.limits.specs.Limits.{most_amount, most_harmony_key, most_harmony_keys}
use Rattle.harmonies.specs.Harmonies.{HarmonyKey}
use Rattle.grammar.specs.declared.Kind.{Kind}
use Rattle.grammar.specs.declared.Kind.TheVariants.{Retuning}
use Rattle.grammar.specs.declared.Form.{Form}
use Rattle.grammar.specs.declared.Form.TheVariants.{AnchorTo, AnchorUp, AnchorDown, WidthTo, WidthUp, WidthDown, WidthTimes, WidthOver}
use Rattle.grammar.specs.declared.Item.{Item}
use Rattle.grammar.specs.declared.Item.TheVariants as item
use Rattle.grammar.specs.Reading.{most_terms}
use Rattle.names.specs.Parts as parts
use Rattle.names.specs.Parts.{Part, declares, gives, uses, says, part}
use Rattle.names.specs.Names.{Named, named_by, declared, meant}
use Rattle.program.specs.Program.{Declaration, sequence, system, fresh_period, tones, logic, harmony, Trigger, by_letter, by_harmony, Program}
use Rattle.program.specs.Program.{term_then, terms_of, system_positions_of, grouped, ordered, orders_of, start_of, keys_of, period_of, declaration_of, up_to, parts_of, program_then, program_of}
use Rattle.program.specs.Allowed.{kind_of, Refers, Callable, Each, FitTerm, Terms, FitSystemPosition, FitPosition, FitStart, FitTrigger, FitOrder, FitLogic, NamedOnce, FitHarmony, Fits, order_count}
use Rattle.program.proofs.Formed.{TermItems, no_term_holds, add_term, subtract_term, PlaceItems, no_place, muted_place, tone_place}
use Rattle.program.proofs.Formed.{PositionItems, no_position, muted_position, kept_position, tone_position}
use Rattle.program.proofs.Formed.{StartItems, no_start, a_start, by_letter_case, by_harmony_case, OrderItems, no_order_holds, an_order, KeyItems, no_key, plain_key, starred_key_case, NotEmpty, something}
use Rattle.program.proofs.Formed.{Body, a_ratio, a_root, a_sequence, a_frequency, from_tone, a_system, a_tones, a_logic, a_harmony}
use Rattle.program.proofs.Formed.{anchor_kept_case, width_kept_case, an_amount, an_amount_name, after_names, fresh_period_case, onward_period_case, NameItems, no_name_case, a_name, NumberItems, no_number_case, a_number}
use Rattle.program.proofs.Formed.{order_part, order_items, start_part, start_items, some_start, start_count}

-- ---- items inside of a declaration: no declared name, n orders and m starts; the numbers of calls are allowed

-- "whole numbers from 0 to 9,999"
abbrev FitGiven : parts.Given → ℕ → Type 0
FitGiven parts.argument v = v ≤ most_amount
FitGiven parts.ratio v = Unit
FitGiven parts.root v = Unit
FitGiven parts.frequency v = Unit
FitGiven parts.anchor_key v = Unit
FitGiven (parts.amount f) v = Unit
FitGiven parts.letter v = Unit
FitGiven parts.key v = Unit
FitGiven parts.starred_key v = Unit
FitGiven (parts.wanting f) v = Unit
FitGiven parts.placeholder v = Unit

abbrev pub Plain : Part → Type 0
Plain (declares k p) = ⊥
Plain (gives g a b) = FitGiven g a
Plain (says m) = Unit
Plain (uses parts.add f n) = Unit
Plain (uses parts.subtract f n) = Unit
Plain (uses parts.base f n) = Unit
Plain (uses parts.position f n) = Unit
Plain (uses parts.start f n) = ⊥
Plain (uses parts.order f n) = ⊥
Plain (uses parts.trigger f n) = Unit

pub data Inside : ℕ → ℕ → List Item → Type 0 where
  no_item : Inside 0 0 []
  plain : {n m : ℕ} {i : Item} {is : List Item} → Plain (part i) → Inside n m is → Inside n m (i ∷ is)
  one_order : {n m q k : ℕ} {is : List Item} → Inside n m is → Inside (suc n) m (item.Order q k ∷ is)
  one_start : {n m q k : ℕ} {is : List Item} → Inside n m is → Inside n (suc m) (item.Start q k ∷ is)

before : {n m : ℕ} {xs ys : List Item} → Inside 0 0 xs → Inside n m ys → Inside n m (xs ++ ys)
before no_item w = w
before (plain h v) w = plain h (before v w)

-- in each of the five ways in which items are read, a plain item adds nothing but itself
module _ (i : Item) (xs ys : List Item) (ds : Program) (ns : List Named) (n m : ℕ) where
  plain_item : (q : Part) → Plain q → (up_to q i xs ≡ i ∷ xs) × (program_then q ys ds ≡ ds) × (named_by q ns ≡ ns) × (order_part q n ≡ n)
      × (start_part q m ≡ m)
  plain_item (declares k p) h = absurd h
  plain_item (gives g a b) h = (refl, refl, refl, refl, refl)
  plain_item (says m) h = (refl, refl, refl, refl, refl)
  plain_item (uses parts.add a p) h = (refl, refl, refl, refl, refl)
  plain_item (uses parts.subtract a p) h = (refl, refl, refl, refl, refl)
  plain_item (uses parts.base a p) h = (refl, refl, refl, refl, refl)
  plain_item (uses parts.position a p) h = (refl, refl, refl, refl, refl)
  plain_item (uses parts.start a p) h = absurd h
  plain_item (uses parts.order a p) h = absurd h
  plain_item (uses parts.trigger a p) h = (refl, refl, refl, refl, refl)

-- what stands behind them is read as if it stood alone
pub record Passed (n m : ℕ) (is rest : List Item) : Type 0 where
  pub these : parts_of (is ++ rest) ≡ is ++ parts_of rest
  pub program : program_of (is ++ rest) ≡ program_of rest
  pub names : declared (is ++ rest) ≡ declared rest
  pub orders : order_items (is ++ rest) ≡ n + order_items rest
  pub starts : start_items (is ++ rest) ≡ m + start_items rest

pub passed : {n m : ℕ} {is : List Item} (rest : List Item) → Inside n m is → Passed n m is rest
unfolding parts_of program_of declared order_items start_items
passed rest no_item = record { these = refl; program = refl; names = refl; orders = omega arith; starts = omega arith }
passed rest (plain {i} {is} h w) =
    let p = passed rest w in
    let l = plain_item i (parts_of (is ++ rest)) (is ++ rest) (program_of (is ++ rest)) (declared (is ++ rest)) (order_items (is ++ rest)) (start_items (is ++ rest)) (part i) h in
    record { these = l.0 ∙ ap (λ xs. i ∷ xs) p.these; program = l.1 ∙ p.program; names = l.2 ∙ p.names; orders = l.3 ∙ p.orders; starts = l.4 ∙ p.starts }
passed rest (one_order {q} {k} w) =
    let p = passed rest w in
    record { these = ap (λ xs. item.Order q k ∷ xs) p.these; program = p.program; names = p.names; orders = ap suc p.orders ∙ omega arith; starts = p.starts }
passed rest (one_start {q} {k} w) =
    let p = passed rest w in
    record { these = ap (λ xs. item.Start q k ∷ xs) p.these; program = p.program; names = p.names; orders = p.orders; starts = ap suc p.starts ∙ omega arith }

terms_inside : {n : ℕ} {is : List Item} → TermItems n is → Inside 0 0 is
terms_inside no_term_holds = no_item
terms_inside (add_term h w) = plain tt (terms_inside w)
terms_inside (subtract_term h w) = plain tt (terms_inside w)

places_inside : {n : ℕ} {is : List Item} → PlaceItems n is → Inside 0 0 is
places_inside no_place = no_item
places_inside (muted_place w) = plain tt (places_inside w)
places_inside (tone_place w) = plain tt (places_inside w)

positions_inside : {n : ℕ} {is : List Item} → PositionItems n is → Inside 0 0 is
positions_inside no_position = no_item
positions_inside (muted_position w) = plain tt (positions_inside w)
positions_inside (kept_position t w) = plain tt (before (terms_inside t) (positions_inside w))
positions_inside (tone_position t w) = plain tt (before (terms_inside t) (positions_inside w))

names_inside : {n : ℕ} {is : List Item} → NameItems n is → Inside 0 0 is
names_inside no_name_case = no_item
names_inside (a_name w) = plain tt (names_inside w)

numbers_inside : {n : ℕ} {is : List Item} → NumberItems n is → Inside 0 0 is
numbers_inside no_number_case = no_item
numbers_inside (a_number h w) = plain h (numbers_inside w)

-- the numbers of a call are passed over
orders_past : {n : ℕ} {ns : List Item} (is : List Item) → NumberItems n ns → orders_of (ns ++ is) ≡ orders_of is
unfolding ordered
orders_past is no_number_case = refl
orders_past is (a_number h w) = orders_past is w

start_past : {n : ℕ} {ns : List Item} (is : List Item) → NumberItems n ns → start_of (ns ++ is) ≡ start_of is
unfolding start_of
start_past is no_number_case = refl
start_past is (a_number h w) = start_past is w

orders_inside : {is : List Item} → OrderItems is → Inside (length (orders_of is)) 0 is
unfolding ordered
orders_inside no_order_holds = no_item
orders_inside (an_order {is} (by_letter_case c) ns w) = rw (orders_past is ns) (plain tt (one_order (before (numbers_inside ns) (orders_inside w))))
orders_inside (an_order {is} by_harmony_case ns w) = rw (orders_past is ns) (plain tt (one_order (before (numbers_inside ns) (orders_inside w))))

keys_inside : {set n : ℕ} {is : List Item} → KeyItems set n is → Inside 0 0 is
keys_inside no_key = no_item
keys_inside (plain_key l e w) = plain tt (keys_inside w)
keys_inside (starred_key_case l e w) = plain tt (keys_inside w)

-- ---- what is read out of the parts of a body

pub sequence_of : {n : ℕ} {is : List Item} → TermItems n is → declaration_of is ≡ sequence (terms_of is)
unfolding terms_of
sequence_of no_term_holds = refl
sequence_of (add_term h w) = refl
sequence_of (subtract_term h w) = refl

pub period_of_holds : {n : ℕ} {is : List Item} → TermItems n is → period_of is ≡ fresh_period (terms_of is)
unfolding terms_of
period_of_holds no_term_holds = refl
period_of_holds (add_term h w) = refl
period_of_holds (subtract_term h w) = refl

pub tones_of_holds : {n : ℕ} {is : List Item} → PositionItems n is → NotEmpty is → declaration_of is ≡ tones (grouped is).positions
tones_of_holds no_position x = elim x [ ]
tones_of_holds (muted_position w) something = refl
tones_of_holds (kept_position t w) something = refl
tones_of_holds (tone_position t w) something = refl

pub harmony_of_holds : {set n : ℕ} {is : List Item} → KeyItems set n is → NotEmpty is → declaration_of is ≡ harmony (keys_of is)
unfolding keys_of
harmony_of_holds no_key x = elim x [ ]
harmony_of_holds (plain_key l e w) something = refl
harmony_of_holds (starred_key_case l e w) something = refl

-- the keys of a harmony
keys_each : {set n : ℕ} {is : List Item} → KeyItems set n is
    → (length (keys_of is) ≤ n) × Each (λ (k : HarmonyKey). k.key ≤ most_harmony_key) (keys_of is) × NamedOnce set (keys_of is)
unfolding keys_of
keys_each no_key = (omega arith, tt, tt)
keys_each (plain_key l e w) = let k = keys_each w in (omega (arith, k.0), (l, k.1), (e, k.2))
keys_each (starred_key_case l e w) = let k = keys_each w in (omega (arith, k.0), (l, k.1), (e, k.2))

some_key : {set n : ℕ} {is : List Item} → KeyItems set n is → NotEmpty is → 1 ≤ length (keys_of is)
unfolding keys_of
some_key no_key x = elim x [ ]
some_key (plain_key l e w) something = omega arith
some_key (starred_key_case l e w) something = omega arith

keys_fit : {is : List Item} → KeyItems 0 most_harmony_keys is → NotEmpty is → FitHarmony (keys_of is)
keys_fit w s = let k = keys_each w in record { some = some_key w s; few = k.0; each = k.1; once = k.2 }

-- a tone system: positions, and then the terms of its period
period_after : {n : ℕ} {is : List Item} (ts : List Item) → PlaceItems n is → terms_of (is ++ ts) ≡ terms_of ts
unfolding terms_of
period_after ts no_place = refl
period_after ts (muted_place w) = period_after ts w
period_after ts (tone_place w) = period_after ts w

no_places_holds : {n : ℕ} {is : List Item} → TermItems n is → system_positions_of is ≡ []
unfolding system_positions_of
no_places_holds no_term_holds = refl
no_places_holds (add_term h w) = no_places_holds w
no_places_holds (subtract_term h w) = no_places_holds w

-- a tones retuning: each position, and then its terms
none_before : {n : ℕ} {is : List Item} → PositionItems n is → (grouped is).before ≡ []
unfolding grouped
none_before no_position = refl
none_before (muted_position w) = refl
none_before (kept_position t w) = refl
none_before (tone_position t w) = refl

terms_before : {m n : ℕ} {ts is : List Item} → TermItems m ts → PositionItems n is
    → ((grouped (ts ++ is)).before ≡ terms_of ts) × ((grouped (ts ++ is)).positions ≡ (grouped is).positions)
unfolding grouped terms_of
terms_before no_term_holds v = (none_before v, refl)
terms_before (add_term {f} {q} h w) v = let t = terms_before w v in (ap (term_then (uses parts.add f q)) t.0, t.1)
terms_before (subtract_term {f} {q} h w) v = let t = terms_before w v in (ap (term_then (uses parts.subtract f q)) t.0, t.1)

-- a logic: its start, and then its orders
no_start_in : {is : List Item} → OrderItems is → start_of is ≡ None
unfolding start_of
no_start_in no_order_holds = refl
no_start_in (an_order {is} (by_letter_case c) ns w) = start_past is ns ∙ no_start_in w
no_start_in (an_order {is} by_harmony_case ns w) = start_past is ns ∙ no_start_in w

orders_after : {is : List Item} (os : List Item) → StartItems is → orders_of (is ++ os) ≡ orders_of os
unfolding ordered
orders_after os no_start = refl
orders_after os (a_start ns) = orders_past os ns

start_inside : {ss os : List Item} → StartItems ss → OrderItems os → Inside (length (orders_of os)) (some_start (start_of (ss ++ os))) (ss ++ os)
unfolding start_of
start_inside no_start w = rw (no_start_in w) (orders_inside w)
start_inside (a_start ns) w = one_start (before (numbers_inside ns) (orders_inside w))

-- the names of placeholders are passed over
pub names_past : {n : ℕ} {ns : List Item} (is : List Item) → NameItems n ns → declaration_of (ns ++ is) ≡ declaration_of is
names_past is no_name_case = refl
names_past is (a_name w) = names_past is w

-- ---- what is read out is allowed, where the numbers in the place of names refer to declarations of p

module _ (p : Program) where
  abbrev pub Refer : Part → Type 0
  Refer (declares k q) = Unit
  Refer (gives g a b) = Unit
  Refer (uses parts.add a n) = Refers p (meant parts.add) n
  Refer (uses parts.subtract a n) = Refers p (meant parts.subtract) n
  Refer (uses parts.base a n) = Refers p (meant parts.base) n
  Refer (uses parts.position a n) = Refers p (meant parts.position) n
  Refer (uses parts.start a n) = Callable p (meant parts.start) n
  Refer (uses parts.order a n) = Callable p (meant parts.order) n
  Refer (uses parts.trigger a n) = Refers p (meant parts.trigger) n
  Refer (says m) = Unit

  abbrev pub AllRefer : List Item → Type 0
  AllRefer is = Each (λ (i : Item). Refer (part i)) is

  pub both : (xs ys : List Item) → AllRefer (xs ++ ys) → AllRefer xs × AllRefer ys
  both [] ys w = (tt, w)
  both (x ∷ xs) ys w = let v = both xs ys w.1 in ((w.0, v.0), v.1)

  terms_each : {n : ℕ} {is : List Item} → TermItems n is → AllRefer is → (length (terms_of is) ≤ n) × Each (FitTerm p) (terms_of is)
  unfolding terms_of
  terms_each no_term_holds r = (omega arith, tt)
  terms_each (add_term h w) r = let t = terms_each w r.1 in (omega arith, (record { factor = h; of = r.0 }, t.1))
  terms_each (subtract_term h w) r = let t = terms_each w r.1 in (omega arith, (record { factor = h; of = r.0 }, t.1))

  terms_fit : {is : List Item} → TermItems most_terms is → AllRefer is → Terms p (terms_of is)
  terms_fit w r = let t = terms_each w r in record { few = t.0; each = t.1 }

  module _ {m : ℕ} {ts : List Item} (t : TermItems m ts) where
    places_each : {n : ℕ} {is : List Item} → PlaceItems n is → AllRefer is
        → (length (system_positions_of (is ++ ts)) ≤ n) × Each (FitSystemPosition p) (system_positions_of (is ++ ts))
    unfolding system_positions_of
    places_each no_place r = rw (no_places_holds t) (omega arith, tt)
    places_each (muted_place w) r = let l = places_each w r.1 in (omega arith, (tt, l.1))
    places_each (tone_place w) r = let l = places_each w r.1 in (omega arith, (r.0, l.1))

    some_place : {n : ℕ} {is : List Item} → PlaceItems n is → NotEmpty is → 1 ≤ length (system_positions_of (is ++ ts))
    unfolding system_positions_of
    some_place no_place x = elim x [ ]
    some_place (muted_place w) something = omega arith
    some_place (tone_place w) something = omega arith

  positions_each : {n : ℕ} {is : List Item} → PositionItems n is → AllRefer is
      → (length (grouped is).positions ≤ n) × Each (FitPosition p) (grouped is).positions
  unfolding grouped
  positions_each no_position r = (omega arith, tt)
  positions_each (muted_position w) r = let l = positions_each w r.1 in (omega arith, (tt, l.1))
  positions_each (kept_position {ts} {is} t w) r =
      let b = terms_before t w in
      let s = both ts is r.1 in
      let l = positions_each w s.1 in
      rw (b.0, b.1) (omega arith, (terms_fit t s.0, l.1))
  positions_each (tone_position {ts} {is} t w) r =
      let b = terms_before t w in
      let s = both ts is r.1 in
      let l = positions_each w s.1 in
      rw (b.0, b.1) (omega arith, ((r.0, terms_fit t s.0), l.1))

  some_position : {n : ℕ} {is : List Item} → PositionItems n is → NotEmpty is → 1 ≤ length (grouped is).positions
  unfolding grouped
  some_position no_position x = elim x [ ]
  some_position (muted_position w) something = omega arith
  some_position (kept_position t w) something = omega arith
  some_position (tone_position t w) something = omega arith

  start_fits : {is os : List Item} → StartItems is → OrderItems os → AllRefer is → FitStart p (start_of (is ++ os))
  unfolding start_of
  start_fits no_start w r = rw (no_start_in w) tt
  start_fits (a_start ns) w r = r.0

  orders_fit : {is : List Item} → OrderItems is → AllRefer is → Each (FitOrder p) (orders_of is)
  unfolding ordered
  orders_fit no_order_holds r = tt
  orders_fit (an_order {ns} {is} (by_letter_case c) m w) r =
      rw (orders_past is m) (record { trigger = c; calls = r.1.0 }, orders_fit w (both ns is r.1.1).1)
  orders_fit (an_order {ns} {is} by_harmony_case m w) r =
      rw (orders_past is m) (record { trigger = r.0; calls = r.1.0 }, orders_fit w (both ns is r.1.1).1)

  logic_fits : {c : Trigger} {ss os : List Item} → FitTrigger p c → StartItems ss → OrderItems os → AllRefer (ss ++ os)
      → FitLogic p c (start_of (ss ++ os)) (orders_of os)
  logic_fits {ss} {os} c s w r = let v = both ss os r in record { trigger = c; start = start_fits s w v.0; orders = orders_fit w v.1 }

  -- ---- a body declares something of its kind that fits

  pub record Declares (k : Kind) (is : List Item) : Type 0 where
    pub kind : kind_of (declaration_of is) ≡ k
    pub inside : Inside (order_count (declaration_of is)) (start_count (declaration_of is)) is
    pub fits : AllRefer is → Fits p (declaration_of is)

  -- a number or a mark alone
  alone : {k : Kind} {i : Item} → kind_of (declaration_of (i ∷ [])) ≡ k → Inside (order_count (declaration_of (i ∷ []))) (start_count (declaration_of (i ∷ []))) (i ∷ [])
      → Fits p (declaration_of (i ∷ [])) → Declares k (i ∷ [])
  alone e w h = record { kind = e; inside = w; fits = λ r. h }

  -- of which the declaration is known
  known : {k : Kind} {is : List Item} (d : Declaration) → declaration_of is ≡ d → kind_of d ≡ k → Inside (order_count d) (start_count d) is
      → (AllRefer is → Fits p d) → Declares k is
  known {is} d e h w f =
      record { kind = ap kind_of e ∙ h; inside = subst (λ c. Inside (order_count c) (start_count c) is) (sym e) w; fits = λ r. subst (Fits p) (sym e) (f r) }

  amount_fits : (f : Form) (n : ℕ) → n ≤ most_amount → Declares Retuning (item.Amount f n ∷ [])
  amount_fits AnchorTo n h = alone refl (plain tt no_item) h
  amount_fits AnchorUp n h = alone refl (plain tt no_item) h
  amount_fits AnchorDown n h = alone refl (plain tt no_item) h
  amount_fits WidthTo n h = alone refl (plain tt no_item) h
  amount_fits WidthUp n h = alone refl (plain tt no_item) h
  amount_fits WidthDown n h = alone refl (plain tt no_item) h
  amount_fits WidthTimes n h = alone refl (plain tt no_item) h
  amount_fits WidthOver n h = alone refl (plain tt no_item) h

  behind_names : {k : Kind} {n : ℕ} {ns is : List Item} → NameItems n ns → Declares k is → Declares k (ns ++ is)
  behind_names {ns} {is} w d =
      known (declaration_of is) (names_past is w) d.kind (before (names_inside w) d.inside) (λ r. d.fits (both ns is r).1)

  pub declares_fit : {k : Kind} {is : List Item} → Body k is → Declares k is
  declares_fit (a_ratio a b) = alone refl (plain tt no_item) (a, b)
  declares_fit (a_root a b) = alone refl (plain tt no_item) (a, b)
  declares_fit (a_sequence {is} w) = known (sequence (terms_of is)) (sequence_of w) refl (terms_inside w) (terms_fit w)
  declares_fit (a_frequency f) = alone refl (plain tt no_item) f
  declares_fit (from_tone w) = record { kind = refl; inside = plain tt (terms_inside w); fits = λ r. (r.0, terms_fit w r.1) }
  declares_fit (a_system {a} {ps} {is} h w s t) =
      known (system a (system_positions_of (ps ++ is)) (terms_of is)) (ap (system a (system_positions_of (ps ++ is))) (period_after is w)) refl
      (plain tt (before (places_inside w) (terms_inside t))) (λ r.
      let v = both ps is r.1 in
      let l = places_each t w v.0 in
      record { anchor = h; positions = record { some = some_place t w s; few = l.0 }; each = l.1; period = terms_fit t v.1 })
  declares_fit anchor_kept_case = alone refl (plain tt no_item) tt
  declares_fit width_kept_case = alone refl (plain tt no_item) tt
  declares_fit (an_amount {f} {n} h) = amount_fits f n h
  declares_fit an_amount_name = alone refl (plain tt no_item) tt
  declares_fit (after_names ns b) = behind_names ns (declares_fit b)
  declares_fit (fresh_period_case {is} w) = known (fresh_period (terms_of is)) (period_of_holds w) refl (plain tt (terms_inside w)) (λ r. terms_fit w r.1)
  declares_fit (onward_period_case w) = record { kind = refl; inside = plain tt (plain tt (terms_inside w)); fits = λ r. terms_fit w r.1.1 }
  declares_fit (a_tones {is} w s) = known (tones (grouped is).positions) (tones_of_holds w s) refl (positions_inside w) (λ r.
      let l = positions_each w r in
      record { positions = record { some = some_position w s; few = l.0 }; each = l.1 })
  declares_fit (a_logic {ss} {os} (by_letter_case {c} l) s w) =
      known (logic (by_letter c) (start_of (ss ++ os)) (orders_of os)) (ap (logic (by_letter c) (start_of (ss ++ os))) (orders_after os s)) refl
      (plain tt (start_inside s w)) (λ r. logic_fits l s w r.1)
  declares_fit (a_logic {ss} {os} (by_harmony_case {q}) s w) =
      known (logic (by_harmony q) (start_of (ss ++ os)) (orders_of os)) (ap (logic (by_harmony q) (start_of (ss ++ os))) (orders_after os s)) refl
      (plain tt (start_inside s w)) (λ r. logic_fits r.0 s w r.1)
  declares_fit (a_harmony {is} w s) = known (harmony (keys_of is)) (harmony_of_holds w s) refl (keys_inside w) (λ r. keys_fit w s)
