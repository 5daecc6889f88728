-- Laws of the lists that items give, item by item. Assumes nothing.
use mathlib.Core.Path.{◌≡◌, refl, ◌∙◌, ap}
use mathlib.Core.List.{List, [], ◌∷◌, ◌++◌}
use Rattle.std.specs.Prelude.{Option, Some, None}
use Prim.Native.Nat.{ℕ, ◌+◌, ◌-◌, ◌≤◌, ◌<◌}
use native.Mathlib.Numerals.{add-one}
use native.Mathlib.Nat.{le_refl}
use lib.ListN.{length, get_or, take, drop, length-drop, drop_of_length-le}
use lib.Seq.{drop-cons, take_all}
use Rattle.grammar.specs.declared.Item.{Item}
use Rattle.names.specs.Parts.{part}
use Rattle.values.specs.Values.{Term}
use Rattle.harmonies.specs.Harmonies.{HarmonyKey}
use Rattle.program.specs.Program.{Trigger, Order, Grouped, Ordered, AsListed, unlisted, a_term, muted_position, kept_position, tone_position, a_start, a_trigger, a_call, a_key, as_listed}
use Rattle.program.specs.Program.{with_term, term_then, terms_of, with_system_position, system_position_then, system_positions_of, with_group, group_then, grouped, triggered_by, with_order, order_then, ordered, orders_of, start_then, start_of, with_key, key_then, keys_of}
use Rattle.filling.specs.Inner.{position_by, order_by}

-- ---- what the first item gives, and what those after it give

pub term_first : (q : AsListed) (ts : List Term) → with_term q ts ≡ with_term q [] ++ ts
term_first unlisted ts = refl
term_first (a_term t) ts = refl
term_first muted_position ts = refl
term_first kept_position ts = refl
term_first (tone_position n) ts = refl
term_first (a_start n) ts = refl
term_first (a_trigger x) ts = refl
term_first (a_call n) ts = refl
term_first (a_key k) ts = refl

place_first : (q : AsListed) (l : List (Option ℕ)) → with_system_position q l ≡ with_system_position q [] ++ l
place_first unlisted l = refl
place_first (a_term t) l = refl
place_first muted_position l = refl
place_first kept_position l = refl
place_first (tone_position n) l = refl
place_first (a_start n) l = refl
place_first (a_trigger x) l = refl
place_first (a_call n) l = refl
place_first (a_key k) l = refl

trigger_first : (x : Trigger) (called : Option ℕ) (l : List Order) → (triggered_by x called l).orders ≡ (triggered_by x called []).orders ++ l
trigger_first x None l = refl
trigger_first x (Some n) l = refl

order_first : (q : AsListed) (g : Ordered) → (with_order q g).orders ≡ (with_order q (record { call = g.call; orders = [] })).orders ++ g.orders
order_first unlisted g = refl
order_first (a_term t) g = refl
order_first muted_position g = refl
order_first kept_position g = refl
order_first (tone_position n) g = refl
order_first (a_start n) g = refl
order_first (a_trigger x) g = trigger_first x g.call g.orders
order_first (a_call n) g = refl
order_first (a_key k) g = refl

position_first : (q : AsListed) (g : Grouped) → (with_group q g).positions ≡ (with_group q (record { before = g.before; positions = [] })).positions ++ g.positions
position_first unlisted g = refl
position_first (a_term t) g = refl
position_first muted_position g = refl
position_first kept_position g = refl
position_first (tone_position n) g = refl
position_first (a_start n) g = refl
position_first (a_trigger x) g = refl
position_first (a_call n) g = refl
position_first (a_key k) g = refl

key_first : (q : AsListed) (ks : List HarmonyKey) → with_key q ks ≡ with_key q [] ++ ks
key_first unlisted ks = refl
key_first (a_term t) ks = refl
key_first muted_position ks = refl
key_first kept_position ks = refl
key_first (tone_position n) ks = refl
key_first (a_start n) ks = refl
key_first (a_trigger x) ks = refl
key_first (a_call n) ks = refl
key_first (a_key k) ks = refl

-- the items after the i-th, as a part of a slice has them
abbrev pub rest_after : ℕ → List Item → List Item
rest_after i l = take (length l - (i + 1)) (drop (i + 1) l)

pub rest_after_is : (i : ℕ) (l : List Item) → rest_after i l ≡ drop (i + 1) l
rest_after_is i l = take_all (length l - (i + 1)) (drop (i + 1) l) (rw length-drop (le_refl (length l - (i + 1))))

-- ---- the same from the i-th item on

module _ (l : List Item) (i : ℕ) where
  module _ (k : length l ≤ i) where
    pub terms_end : terms_of (drop i l) ≡ []
    unfolding terms_of
    terms_end = ap terms_of (drop_of_length-le l k)

    pub places_end : system_positions_of (drop i l) ≡ []
    unfolding system_positions_of
    places_end = ap system_positions_of (drop_of_length-le l k)

    pub ordered_end : ordered (drop i l) ≡ record { call = None; orders = [] }
    unfolding ordered
    ordered_end = ap ordered (drop_of_length-le l k)

    pub groups_end : grouped (drop i l) ≡ record { before = []; positions = [] }
    unfolding grouped
    groups_end = ap grouped (drop_of_length-le l k)

    pub start_end : start_of (drop i l) ≡ None
    unfolding start_of
    start_end = ap start_of (drop_of_length-le l k)

    pub keys_end : keys_of (drop i l) ≡ []
    unfolding keys_of
    keys_end = ap keys_of (drop_of_length-le l k)

  module _ (k : i < length l) (none : Item) where
    abbrev x : Item
    x = get_or l i none

    pub item_next : drop i l ≡ x ∷ drop (i + 1) l
    item_next = rw add-one (drop-cons l i none k)

    pub terms_next : terms_of (drop i l) ≡ term_then (part x) [] ++ terms_of (drop (i + 1) l)
    unfolding terms_of
    terms_next = ap terms_of item_next ∙ term_first (as_listed (part x)) (terms_of (drop (i + 1) l))

    pub places_next : system_positions_of (drop i l) ≡ system_position_then (part x) [] ++ system_positions_of (drop (i + 1) l)
    unfolding system_positions_of
    places_next = ap system_positions_of item_next ∙ place_first (as_listed (part x)) (system_positions_of (drop (i + 1) l))

    pub ordered_next : ordered (drop i l) ≡ order_then (part x) (ordered (drop (i + 1) l))
    unfolding ordered
    ordered_next = ap ordered item_next

    pub orders_next : orders_of (drop i l)
        ≡ order_by (part x) (ordered (drop (i + 1) l)).call ++ orders_of (drop (i + 1) l)
    orders_next = ap (λ (g : Ordered). g.orders) ordered_next ∙ order_first (as_listed (part x)) (ordered (drop (i + 1) l))

    pub groups_next : grouped (drop i l) ≡ group_then (part x) (grouped (drop (i + 1) l))
    unfolding grouped
    groups_next = ap grouped item_next

    pub positions_next : (grouped (drop i l)).positions
        ≡ position_by (part x) (grouped (drop (i + 1) l)).before ++ (grouped (drop (i + 1) l)).positions
    positions_next = ap (λ (g : Grouped). g.positions) groups_next ∙ position_first (as_listed (part x)) (grouped (drop (i + 1) l))

    pub start_next : start_of (drop i l) ≡ start_then (part x) (start_of (drop (i + 1) l))
    unfolding start_of
    start_next = ap start_of item_next

    pub keys_next : keys_of (drop i l) ≡ key_then (part x) [] ++ keys_of (drop (i + 1) l)
    unfolding keys_of
    keys_next = ap keys_of item_next ∙ key_first (as_listed (part x)) (keys_of (drop (i + 1) l))
