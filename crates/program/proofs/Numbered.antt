-- Items keep their form where numbers of declarations take the place of the names that they use.
use mathlib.Core.Path.{◌≡◌, refl, ◌∙◌, ap, ap₂, subst}
use mathlib.Core.List.{List, [], ◌∷◌, map, map-append}
use Prim.Native.Nat.{ℕ}
use Rattle.status.specs.Status.{done}
use Rattle.symbols.specs.Names.{name_at}
use Rattle.std.specs.Prelude.{Option, Some, None}
use Rattle.grammar.specs.declared.Kind.{Kind}
use Rattle.grammar.specs.declared.Item.{Item}
use Rattle.names.specs.Parts.{Part, declares, gives, uses, says, part, Use, add, subtract, base, position, start, order, trigger}
use Rattle.names.specs.Names.{Named, declared, called_in, meant, numbered, Resolved, all, missing, and_then, if_found, resolved_by, resolved, meanings}
use Rattle.names.proofs.Meanings.{accepted}
use Rattle.program.proofs.Formed.{TermItems, no_term_holds, add_term, subtract_term, PlaceItems, no_place, muted_place, tone_place}
use Rattle.program.proofs.Formed.{PositionItems, no_position, muted_position, kept_position, tone_position}
use Rattle.program.proofs.Formed.{StartItems, no_start, a_start, by_letter_case, by_harmony_case, OrderItems, no_order_holds, an_order, KeyItems, no_key, plain_key, starred_key_case, NotEmpty, something}
use Rattle.program.proofs.Formed.{Body, a_ratio, a_root, a_sequence, a_frequency, from_tone, a_system, a_tones, a_logic, a_harmony}
use Rattle.program.proofs.Formed.{anchor_kept_case, width_kept_case, an_amount, an_amount_name, after_names, fresh_period_case, onward_period_case, NameItems, no_name_case, a_name, NumberItems, no_number_case, a_number}
use Rattle.program.proofs.Formed.{Formed, no_more, declaration, order_part, order_items, FormedText}

-- an item with the number of its name's declaration; `number` gives it from the use and the place of the name
abbrev with_number : (Use → ℕ → ℕ) → Part → Item → Item
with_number number (declares k p) i = i
with_number number (gives g a b) i = i
with_number number (uses u a p) i = numbered u a (number u p)
with_number number (says m) i = i

abbrev with_numbers : (Use → ℕ → ℕ) → List Item → List Item
with_numbers number is = map (λ i. with_number number (part i) i) is

-- ---- the form is kept

module _ (number : Use → ℕ → ℕ) where
  terms_kept : {n : ℕ} {is : List Item} → TermItems n is → TermItems n (with_numbers number is)
  terms_kept no_term_holds = no_term_holds
  terms_kept (add_term h w) = add_term h (terms_kept w)
  terms_kept (subtract_term h w) = subtract_term h (terms_kept w)

  places_kept : {n : ℕ} {is : List Item} → PlaceItems n is → PlaceItems n (with_numbers number is)
  places_kept no_place = no_place
  places_kept (muted_place w) = muted_place (places_kept w)
  places_kept (tone_place w) = tone_place (places_kept w)

  positions_kept : {n : ℕ} {is : List Item} → PositionItems n is → PositionItems n (with_numbers number is)
  positions_kept no_position = no_position
  positions_kept (muted_position w) = muted_position (positions_kept w)
  positions_kept (kept_position t w) = rw map-append (kept_position (terms_kept t) (positions_kept w))
  positions_kept (tone_position t w) = rw map-append (tone_position (terms_kept t) (positions_kept w))

  names_kept : {n : ℕ} {is : List Item} → NameItems n is → NameItems n (with_numbers number is)
  names_kept no_name_case = no_name_case
  names_kept (a_name w) = a_name (names_kept w)

  numbers_kept : {n : ℕ} {is : List Item} → NumberItems n is → NumberItems n (with_numbers number is)
  numbers_kept no_number_case = no_number_case
  numbers_kept (a_number h w) = a_number h (numbers_kept w)

  start_kept : {is : List Item} → StartItems is → StartItems (with_numbers number is)
  start_kept no_start = no_start
  start_kept (a_start ns) = a_start (numbers_kept ns)

  orders_kept : {is : List Item} → OrderItems is → OrderItems (with_numbers number is)
  orders_kept no_order_holds = no_order_holds
  orders_kept (an_order (by_letter_case c) ns w) = rw map-append (an_order (by_letter_case c) (numbers_kept ns) (orders_kept w))
  orders_kept (an_order by_harmony_case ns w) = rw map-append (an_order by_harmony_case (numbers_kept ns) (orders_kept w))

  keys_kept : {set n : ℕ} {is : List Item} → KeyItems set n is → KeyItems set n (with_numbers number is)
  keys_kept no_key = no_key
  keys_kept (plain_key l e w) = plain_key l e (keys_kept w)
  keys_kept (starred_key_case l e w) = starred_key_case l e (keys_kept w)

  some_kept : {is : List Item} → NotEmpty is → NotEmpty (with_numbers number is)
  some_kept something = something

  body_kept : {k : Kind} {is : List Item} → Body k is → Body k (with_numbers number is)
  body_kept (a_ratio p q) = a_ratio p q
  body_kept (a_root a b) = a_root a b
  body_kept (a_sequence w) = a_sequence (terms_kept w)
  body_kept (a_frequency f) = a_frequency f
  body_kept (from_tone w) = from_tone (terms_kept w)
  body_kept (a_system a w s t) = rw map-append (a_system a (places_kept w) (some_kept s) (terms_kept t))
  body_kept anchor_kept_case = anchor_kept_case
  body_kept width_kept_case = width_kept_case
  body_kept (an_amount h) = an_amount h
  body_kept an_amount_name = an_amount_name
  body_kept (after_names ns b) = rw map-append (after_names (names_kept ns) (body_kept b))
  body_kept (fresh_period_case w) = fresh_period_case (terms_kept w)
  body_kept (onward_period_case w) = onward_period_case (terms_kept w)
  body_kept (a_tones w s) = a_tones (positions_kept w) (some_kept s)
  body_kept (a_logic (by_letter_case c) s w) = rw map-append (a_logic (by_letter_case c) (start_kept s) (orders_kept w))
  body_kept (a_logic by_harmony_case s w) = rw map-append (a_logic by_harmony_case (start_kept s) (orders_kept w))
  body_kept (a_harmony w s) = a_harmony (keys_kept w) (some_kept s)

  formed_kept : {is : List Item} → Formed is → Formed (with_numbers number is)
  formed_kept no_more = no_more
  formed_kept (declaration b w) = rw map-append (declaration (body_kept b) (formed_kept w))

  -- so many orders as before
  order_counted_step : (q : Part) (i : Item) (n : ℕ) → part i ≡ q → order_part (part (with_number number q i)) n ≡ order_part q n
  order_counted_step (declares k p) i n e = rw e
  order_counted_step (gives g a b) i n e = rw e
  order_counted_step (says m) i n e = rw e
  order_counted_step (uses add a p) i n e = refl
  order_counted_step (uses subtract a p) i n e = refl
  order_counted_step (uses base a p) i n e = refl
  order_counted_step (uses position a p) i n e = refl
  order_counted_step (uses start a p) i n e = refl
  order_counted_step (uses order a p) i n e = refl
  order_counted_step (uses trigger a p) i n e = refl

  orders_counted : (is : List Item) → order_items (with_numbers number is) ≡ order_items is
  unfolding order_items
  orders_counted [] = refl
  orders_counted (i ∷ is) = order_counted_step (part i) i _ refl ∙ ap (order_part (part i)) (orders_counted is)

-- ---- the items of a text whose names are all declared

abbrev number_in : Option ℕ → ℕ
number_in (Some n) = n
number_in None = 0

module _ (text : List ℕ) (ds : List Named) where
  abbrev number : Use → ℕ → ℕ
  number u p = number_in (called_in text ds (meant u) (name_at text p))

  abbrev Becomes : List Item → Resolved → Type 0
  Becomes is (all js) = js ≡ with_numbers number is
  Becomes is (missing p) = Unit

  becomes_one : (i j : Item) (is : List Item) → j ≡ with_number number (part i) i → (r : Resolved) → Becomes is r → Becomes (i ∷ is) (and_then j r)
  becomes_one i j is e (all js) w = ap₂ (λ x xs. x ∷ xs) e w
  becomes_one i j is e (missing p) w = tt

  becomes : (is : List Item) → Becomes is (resolved text ds is)
  unfolding resolved
  becomes [] = refl
  becomes (i ∷ is) = by (part i) refl (resolved text ds is) (becomes is)
    where
      by : (q : Part) → part i ≡ q → (r : Resolved) → Becomes is r → Becomes (i ∷ is) (resolved_by text ds i q r)
      by (declares k p) e r w = becomes_one i i is (rw e) r w
      by (gives g a b) e r w = becomes_one i i is (rw e) r w
      by (says m) e r w = becomes_one i i is (rw e) r w
      by (uses u a p) e r w = found (called_in text ds (meant u) (name_at text p)) refl
        where
          found : (f : Option ℕ) → called_in text ds (meant u) (name_at text p) ≡ f → Becomes (i ∷ is) (if_found u a p f r)
          found (Some n) c = becomes_one i (numbered u a n) is (rw (e, c)) r w
          found None c = tt

-- the items with their meanings are formed as those that were read
pub formed_meant : (text : List ℕ) (is : List Item) → FormedText is → (meanings text is).number ≡ done → FormedText (meanings text is).items
formed_meant text is w e =
    let a = accepted text is e in
    let names = a.settles.same_names in
    let same = subst (Becomes text (declared is) is) a.resolves (becomes text (declared is) is) in
    record {
      formed = rw same (formed_kept (number text (declared is)) w.formed);
      few = λ k. rw names (w.few k);
      orders = rw (same, orders_counted) w.orders;
    }
