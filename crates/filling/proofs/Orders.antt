-- The order that begins with an item: its trigger, and what the next item calls. Assumes nothing.
use mathlib.Core.Path.{◌≡◌, refl, sym, ◌∙◌, ap}
use mathlib.Core.List.{List, [], ◌∷◌}
use Rattle.std.specs.Prelude.{Option, Some, None}
use Prim.Native.Nat.{ℕ}
use native.Mathlib.Omega.{arith}
use lib.ListN.{length}
use Rattle.grammar.specs.declared.Item.{Item}
use Rattle.grammar.specs.declared.Item.TheVariants as item
use Rattle.names.specs.Parts.{part}
use Rattle.program.specs.Program.{Trigger, AsListed, unlisted, a_term, muted_position, kept_position, tone_position, a_start, a_trigger, a_call, a_key, as_listed, triggered_by, with_order, ordered}
use Rattle.filling.specs.Inner.{as_trigger, order_by}
use Rattle.filling.proofs.Inside.{inside, some_or_none, some_same, no_call_holds}

-- ---- what begins an order

no_order_holds : (q : AsListed) → as_trigger q ≡ None → (called : Option ℕ) → (with_order q (record { call = called; orders = [] })).orders ≡ []
no_order_holds (a_trigger x) e called = absurd (some_or_none e)
no_order_holds unlisted e called = refl
no_order_holds (a_term t) e called = refl
no_order_holds muted_position e called = refl
no_order_holds kept_position e called = refl
no_order_holds (tone_position n) e called = refl
no_order_holds (a_start n) e called = refl
no_order_holds (a_call n) e called = refl
no_order_holds (a_key k) e called = refl

is_trigger_holds : (q : AsListed) {x : Trigger} → as_trigger q ≡ Some x → q ≡ a_trigger x
is_trigger_holds (a_trigger y) e = ap a_trigger (some_same e)
is_trigger_holds unlisted e = absurd (some_or_none (sym e))
is_trigger_holds (a_term t) e = absurd (some_or_none (sym e))
is_trigger_holds muted_position e = absurd (some_or_none (sym e))
is_trigger_holds kept_position e = absurd (some_or_none (sym e))
is_trigger_holds (tone_position n) e = absurd (some_or_none (sym e))
is_trigger_holds (a_start n) e = absurd (some_or_none (sym e))
is_trigger_holds (a_call n) e = absurd (some_or_none (sym e))
is_trigger_holds (a_key k) e = absurd (some_or_none (sym e))

-- ---- what it calls

nothing_left : (is : List Item) → length is ≡ 0 → is ≡ []
nothing_left [] e = refl
nothing_left (i ∷ is) e = absurd (omega (arith, e))

module _ (x : Item) (rest : List Item) where
  pub nothing_begins : None ≡ as_trigger (as_listed (part x)) → [] ≡ order_by (part x) (ordered rest).call
  nothing_begins h = sym (no_order_holds (as_listed (part x)) (sym h) (ordered rest).call)

  module _ {t : Trigger} (q : Some t ≡ as_trigger (as_listed (part x))) where
    at_trigger : {called : Option ℕ} → (ordered rest).call ≡ called → (triggered_by t called []).orders ≡ order_by (part x) (ordered rest).call
    at_trigger p =
        ap (λ (c : Option ℕ). (triggered_by t c []).orders) (sym p)
        ∙ ap (λ (y : AsListed). (with_order y (record { call = (ordered rest).call; orders = [] })).orders) (sym (is_trigger_holds (as_listed (part x)) (sym q)))

    pub trigger_last : length rest ≡ 0 → [] ≡ order_by (part x) (ordered rest).call
    unfolding ordered
    trigger_last e = at_trigger (ap (λ (is : List Item). (ordered is).call) (nothing_left rest e))

    module _ {y : Item} {more : List Item} (f : rest ≡ y ∷ more) where
      pub trigger_alone : ((q n : ℕ) → y ≡ item.Order q n → ⊥) → [] ≡ order_by (part x) (ordered rest).call
      unfolding ordered
      trigger_alone h = at_trigger (ap (λ (is : List Item). (ordered is).call) f ∙ no_call_holds (inside y) h _)

      pub trigger_and_call : {q n : ℕ} → y ≡ item.Order q n → record { trigger = t; calls = n } ∷ [] ≡ order_by (part x) (ordered rest).call
      unfolding ordered
      trigger_and_call r = at_trigger (ap (λ (is : List Item). (ordered is).call) (f ∙ ap (λ (i : Item). i ∷ more) r))
