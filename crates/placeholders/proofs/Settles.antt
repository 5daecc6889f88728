-- Laws of both steps together: where a name is wrong, and where none is.
-- Assumes nothing.
use mathlib.Core.Path.{◌≡◌, refl, sym, ◌∙◌, ap, subst}
use mathlib.Core.List.{List, []}
use Prim.Native.Nat.{ℕ}
use lib.ListN.{length, take}
use lib.Seq.{length-take-le}
use Rattle.status.specs.declared.Reason.TheVariants.{PlaceholderWrong}
use Rattle.grammar.specs.declared.Item.{Item}
use Rattle.grammar.specs.Items.{holding}
use Rattle.names.specs.Inner.{beginnings}
use Rattle.std.specs.Prelude.{Option, Some, None, Ok, Err}
use Rattle.placeholders.specs.declared.Settled.{Settled}
use Rattle.placeholders.specs.Placeholders.{fault_from, fault_of}
use Rattle.placeholders.specs.Filling.{settled}
use Rattle.placeholders.specs.Inner.{takes_by, Begun, Fills, Settles}

-- as many declarations begin as there are
pub begun_count : {is : List Item} {starts : List ℕ} {n : ℕ} → Begun is starts n → n ≡ length (beginnings is)
begun_count {is} {starts} {n} b = sym (length-take-le n starts b.within) ∙ ap length b.begun

all_begun : {is : List Item} {starts : List ℕ} {n : ℕ} → Begun is starts n → Begun is starts (length (beginnings is))
all_begun {is} {starts} b = subst (Begun is starts) (begun_count b) b

module _ (text : List ℕ) (is : List Item) {starts : List ℕ} {n : ℕ} (b : Begun is starts n) {f : Option ℕ}
    (e : f ≡ fault_from text (takes_by (take n starts) is) [] is) where
  -- the fault that is found is that of the items
  fault_of_step : {g : Option ℕ} → f ≡ g → fault_of text is ≡ g
  fault_of_step z = sym (sym z ∙ e ∙ ap (λ (bs : List ℕ). fault_from text (takes_by bs is) [] is) b.begun)

  pub settles_wrong : {p : ℕ} → f ≡ Some p → {items : List Item} → items ≡ holding is items
      → Settles text is items (Err (record { reason = PlaceholderWrong; place = p })) items starts
  unfolding settled
  settles_wrong z {items} h =
      let g = fault_of_step z in
      record { told = rw g (refl, refl); count = tt; declarations = tt; left = rw g h; begun = rw g (all_begun b) }

  pub settles_filled : f ≡ None → {items : List Item} {r : Settled} {items' : List Item} {starts' : List ℕ} → Fills text is items r items' starts'
      → Settles text is items (Ok r) items' starts'
  unfolding settled
  settles_filled z {items} w =
      let g = fault_of_step z in
      record { told = rw g (refl, refl); count = rw g w.count; declarations = rw g (begun_count w.begun); left = rw g w.left; begun = rw g (all_begun w.begun) }
