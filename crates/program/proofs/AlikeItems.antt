-- Items that differ only in which declarations are called have one form.
-- Assumes nothing.
use mathlib.Core.Path.{◌≡◌, refl, ap, subst}
use mathlib.Core.List.{List, [], ◌∷◌, ◌++◌}
use Prim.Native.Nat.{ℕ, suc}
use Rattle.limits.specs.Limits.{most_placeholders}
use Rattle.grammar.specs.declared.Kind.{Kind}
use Rattle.grammar.specs.declared.Kind.TheVariants.{Retuning, System, Logic}
use Rattle.grammar.specs.declared.Item.{Item}
use Rattle.grammar.specs.declared.Item.TheVariants as item
use Rattle.names.specs.Parts.{part}
use Rattle.placeholders.proofs.Alike.{Alike, none, same, start, order}
use Rattle.program.proofs.Formed.{TermItems, no_term_holds, add_term, subtract_term, PlaceItems, no_place, muted_place, tone_place}
use Rattle.program.proofs.Formed.{PositionItems, no_position, muted_position, kept_position, tone_position}
use Rattle.program.proofs.Formed.{NameItems, no_name_case, a_name, NumberItems, no_number_case, a_number}
use Rattle.program.proofs.Formed.{StartItems, no_start, a_start, TriggerItem, by_letter_case, by_harmony_case, OrderItems, no_order_holds, an_order, KeyItems, no_key, plain_key, starred_key_case, NotEmpty, something}
use Rattle.program.proofs.Formed.{Body, a_ratio, a_root, a_sequence, a_frequency, from_tone, a_system, a_tones, a_logic, a_harmony}
use Rattle.program.proofs.Formed.{anchor_kept_case, width_kept_case, an_amount, an_amount_name, after_names, fresh_period_case, onward_period_case}
use Rattle.program.proofs.Formed.{Formed, no_more, declaration, order_part, order_items}

-- two lists one after the other
pub record Split (xs ys zs : List Item) : Type 0 where
  pub first : List Item
  pub second : List Item
  pub joined : first ++ second ≡ zs
  pub left : Alike xs first
  pub right : Alike ys second

one_more_holds : {x z : Item} {xs ys zs : List Item} (s : Split xs ys zs) → Alike (x ∷ xs) (z ∷ s.first) → Split (x ∷ xs) ys (z ∷ zs)
one_more_holds {z} s a = record { first = z ∷ s.first; second = s.second; joined = ap (λ (l : List Item). z ∷ l) s.joined; left = a; right = s.right }

pub split : (xs ys : List Item) {zs : List Item} → Alike (xs ++ ys) zs → Split xs ys zs
split [] ys {zs} a = record { first = []; second = zs; joined = refl; left = none; right = a }
split (x ∷ xs) ys (same a) = let s = split xs ys a in one_more_holds s (same s.left)
split (item.Start q k ∷ xs) ys (start a) = let s = split xs ys a in one_more_holds s (start s.left)
split (item.Order q k ∷ xs) ys (order a) = let s = split xs ys a in one_more_holds s (order s.left)

terms_alike : {n : ℕ} {is js : List Item} → TermItems n is → Alike is js → TermItems n js
terms_alike no_term_holds none = no_term_holds
terms_alike (add_term h w) (same a) = add_term h (terms_alike w a)
terms_alike (subtract_term h w) (same a) = subtract_term h (terms_alike w a)

places_alike : {n : ℕ} {is js : List Item} → PlaceItems n is → Alike is js → PlaceItems n js
places_alike no_place none = no_place
places_alike (muted_place w) (same a) = muted_place (places_alike w a)
places_alike (tone_place w) (same a) = tone_place (places_alike w a)

positions_alike : {n : ℕ} {is js : List Item} → PositionItems n is → Alike is js → PositionItems n js
positions_alike no_position none = no_position
positions_alike (muted_position w) (same a) = muted_position (positions_alike w a)
positions_alike {n} (kept_position {ts = ts} {is = is} t w) (same a) =
    let s = split ts is a in
    subst (λ (l : List Item). PositionItems n (item.KeptPosition ∷ l)) s.joined (kept_position (terms_alike t s.left) (positions_alike w s.right))
positions_alike {n} (tone_position {q = q} {ts = ts} {is = is} t w) (same a) =
    let s = split ts is a in
    subst (λ (l : List Item). PositionItems n (item.TonePosition q ∷ l)) s.joined (tone_position (terms_alike t s.left) (positions_alike w s.right))

names_alike : {n : ℕ} {is js : List Item} → NameItems n is → Alike is js → NameItems n js
names_alike no_name_case none = no_name_case
names_alike (a_name w) (same a) = a_name (names_alike w a)

numbers_alike : {n : ℕ} {is js : List Item} → NumberItems n is → Alike is js → NumberItems n js
numbers_alike no_number_case none = no_number_case
numbers_alike (a_number h w) (same a) = a_number h (numbers_alike w a)

start_alike : {is js : List Item} → StartItems is → Alike is js → StartItems js
start_alike no_start none = no_start
start_alike (a_start w) (same a) = a_start (numbers_alike w a)
start_alike (a_start w) (start a) = a_start (numbers_alike w a)

ordered : {i : Item} {q k : ℕ} {ns is zs : List Item} → TriggerItem i → (s : Split ns is zs) → NumberItems most_placeholders s.first → OrderItems s.second
    → OrderItems (i ∷ item.Order q k ∷ zs)
ordered {i} {q} {k} t s m w = subst (λ (l : List Item). OrderItems (i ∷ item.Order q k ∷ l)) s.joined (an_order t m w)

orders_alike : {is js : List Item} → OrderItems is → Alike is js → OrderItems js
orders_alike no_order_holds none = no_order_holds
orders_alike (an_order {ns = ns} {is = is} (by_letter_case c) m w) (same (same a)) =
    let s = split ns is a in
    ordered (by_letter_case c) s (numbers_alike m s.left) (orders_alike w s.right)
orders_alike (an_order {ns = ns} {is = is} (by_letter_case c) m w) (same (order a)) =
    let s = split ns is a in
    ordered (by_letter_case c) s (numbers_alike m s.left) (orders_alike w s.right)
orders_alike (an_order {ns = ns} {is = is} by_harmony_case m w) (same (same a)) =
    let s = split ns is a in
    ordered by_harmony_case s (numbers_alike m s.left) (orders_alike w s.right)
orders_alike (an_order {ns = ns} {is = is} by_harmony_case m w) (same (order a)) =
    let s = split ns is a in
    ordered by_harmony_case s (numbers_alike m s.left) (orders_alike w s.right)

keys_alike : {set n : ℕ} {is js : List Item} → KeyItems set n is → Alike is js → KeyItems set n js
keys_alike no_key none = no_key
keys_alike (plain_key l e w) (same a) = plain_key l e (keys_alike w a)
keys_alike (starred_key_case l e w) (same a) = starred_key_case l e (keys_alike w a)

some_alike : {is js : List Item} → NotEmpty is → Alike is js → NotEmpty js
some_alike something (same a) = something
some_alike something (start a) = something
some_alike something (order a) = something

logic_alike : {i : Item} {ss os zs : List Item} → TriggerItem i → StartItems ss → OrderItems os → Alike (ss ++ os) zs → Body Logic (i ∷ zs)
logic_alike {i} {ss} {os} t s w a =
    let p = split ss os a in
    subst (λ (l : List Item). Body Logic (i ∷ l)) p.joined (a_logic t (start_alike s p.left) (orders_alike w p.right))

body_alike : {k : Kind} {is js : List Item} → Body k is → Alike is js → Body k js
body_alike (a_ratio p q) (same none) = a_ratio p q
body_alike (a_root p q) (same none) = a_root p q
body_alike (a_sequence w) a = a_sequence (terms_alike w a)
body_alike (a_frequency f) (same none) = a_frequency f
body_alike (from_tone w) (same a) = from_tone (terms_alike w a)
body_alike (a_system {a = n} {ps = ps} {is = is} h w s t) (same a) =
    let p = split ps is a in
    subst (λ (l : List Item). Body System (item.AnchorKey n ∷ l)) p.joined
    (a_system h (places_alike w p.left) (some_alike s p.left) (terms_alike t p.right))
body_alike anchor_kept_case (same none) = anchor_kept_case
body_alike width_kept_case (same none) = width_kept_case
body_alike (an_amount h) (same none) = an_amount h
body_alike an_amount_name (same none) = an_amount_name
body_alike (fresh_period_case w) (same a) = fresh_period_case (terms_alike w a)
body_alike (onward_period_case w) (same (same a)) = onward_period_case (terms_alike w a)
body_alike (a_tones w s) a = a_tones (positions_alike w a) (some_alike s a)
body_alike (after_names {ns = ns} {is = is} w b) a =
    let p = split ns is a in
    subst (Body Retuning) p.joined (after_names (names_alike w p.left) (body_alike b p.right))
body_alike (a_logic (by_letter_case c) s w) (same a) = logic_alike (by_letter_case c) s w a
body_alike (a_logic by_harmony_case s w) (same a) = logic_alike by_harmony_case s w a
body_alike (a_harmony w s) a = a_harmony (keys_alike w a) (some_alike s a)

pub formed_alike : {is js : List Item} → Formed is → Alike is js → Formed js
formed_alike no_more none = no_more
formed_alike (declaration {k = k} {p = p} {body = body} {rest = rest} b w) (same a) =
    let s = split body rest a in
    subst (λ (l : List Item). Formed (item.Declared k p ∷ l)) s.joined (declaration (body_alike b s.left) (formed_alike w s.right))

-- there are as many orders
pub orders_alike_count : {is js : List Item} → Alike is js → order_items js ≡ order_items is
unfolding order_items
orders_alike_count none = refl
orders_alike_count (same {i = i} a) = ap (order_part (part i)) (orders_alike_count a)
orders_alike_count (start a) = orders_alike_count a
orders_alike_count (order a) = ap suc (orders_alike_count a)
