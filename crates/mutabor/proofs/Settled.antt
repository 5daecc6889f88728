-- Once the calls are filled in, the items are ready to be valued; or the text is refused where a name in brackets is wrong.
-- Assumes nothing.
use mathlib.Core.Path.{◌≡◌, sym, ◌∙◌, ap, subst}
use mathlib.Core.List.{List}
use Prim.Native.Nat.{ℕ, ◌+◌, ◌≤◌}
use native.Mathlib.Omega.{arith}
use lib.ListN.{length, take, drop, length-append}
use lib.Seq.{take_at}
use Rattle.limits.specs.Limits.{most_bytes}
use Rattle.status.specs.declared.Refusal.{Refusal}
use Rattle.grammar.specs.declared.Item.{Item}
use Rattle.grammar.specs.Items.{holding}
use Rattle.grammar.specs.Reading.{read_items}
use Rattle.names.specs.Names.{declared, meanings}
use Rattle.names.specs.Inner.{beginnings}
use Rattle.names.proofs.Meanings.{AllMean, accepted}
use Rattle.placeholders.specs.declared.Settled.{Settled}
use Rattle.std.specs.Prelude.{Option, None, Result, Ok, Err}
use Rattle.placeholders.specs.Placeholders.{fault_of}
use Rattle.placeholders.specs.Filling.{filled_in, settled}
use Rattle.placeholders.specs.Inner.{Roomy, left_by, Settles}
use Rattle.placeholders.proofs.Beginnings.{as_many}
use Rattle.placeholders.proofs.FilledLaws.{settled_done}
use Rattle.tables.specs.Layout.{Tables}
use Rattle.program.specs.Program.{program_of}
use Rattle.program.specs.Meaning.{valued}
use Rattle.program.specs.Text.{Verdict, by_value, by_settling}
use Rattle.program.proofs.Formed.{FormedText}
use Rattle.program.proofs.ItemCount.{few_items}
use Rattle.program.proofs.ReadFormed.{read_formed}
use Rattle.program.proofs.Numbered.{formed_meant}
use Rattle.program.proofs.AllowedText.{few_filled, declared_few, filled_declared, filled_items, filled_allowed}
use Rattle.valuation.specs.Inner.{Ready}
use Rattle.filling.specs.Inner.{blank}
use Rattle.mutabor.specs.Reading.{by_verdict, Leaves}
use Rattle.mutabor.specs.Inner.{Resolved}
use Rattle.mutabor.proofs.Steps.{if_zero_holds, part_refused}

module _ {text : List ℕ} {is : List Item} {starts : List ℕ} {n : ℕ} (w : Resolved text is starts n) where
  formed : FormedText is
  formed = subst FormedText w.these (formed_meant text (read_items text).items (read_formed text w.read) w.meant)

  means : AllMean (declared is) is
  means =
      let s = (accepted text (read_items text).items w.meant).settles in
      subst (λ (l : List Item). AllMean (declared l) l) w.these (subst (λ ds. AllMean ds (meanings text (read_items text).items).items) (sym s.same_names) s.means)

  few : length is ≤ most_bytes + 1
  few = omega (arith, ap length w.these, (accepted text (read_items text).items w.meant).settles.same_length, few_items text)

  -- there is room for what is filled in
  pub roomy : Roomy text is starts
  roomy =
      let f = few_filled text is formed in
      record {
        fits_items = omega (arith, f, few, filled_items text is formed);
        fits_starts = omega (arith, f, as_many 0 (filled_in text is), filled_declared text is formed, declared_few text is formed, w.room);
      }

  module _ {items items' : List Item} {starts' : List ℕ} where
    pub not_settled : {e : Refusal} {after : Tables} → Settles text is items (Err e) items' starts' → after ≡ blank
        → Leaves (by_verdict blank (by_settling (settled text is))) (Err e) after
    not_settled s g = part_refused (settled text is).number (settled text is).place _ s.told.0 s.told.1 g

    module _ {r : Settled} (s : Settles text is items (Ok r) items' starts') where
      right : (fault_of text is ≡ None) × ((settled text is).items ≡ filled_in text is)
      right = settled_done text is s.told.0

      these : left_by (fault_of text is) is (filled_in text is) ≡ filled_in text is
      these = ap (λ (f : Option ℕ). left_by f is (filled_in text is)) right.0

      left : items' ≡ holding (filled_in text is) items
      left = s.left ∙ ap (λ (l : List Item). holding l items) these

      same_count : r.items ≡ length (filled_in text is)
      same_count = s.count ∙ ap length these

      counted : take r.items items' ≡ filled_in text is
      counted =
          let is' = filled_in text is in
          ap (take r.items) left ∙ take_at is' (drop (length is') items) r.items (sym same_count)

      pub items_within : r.items ≤ length items'
      items_within =
          let is' = filled_in text is in
          omega (arith, same_count, ap length left, length-append is' (drop (length is') items))

      pub starts_within : r.declarations ≤ length starts'
      starts_within = omega (arith, s.declarations, s.begun.within)

      begun : take r.declarations starts' ≡ beginnings (filled_in text is)
      begun = ap (λ (k : ℕ). take k starts') s.declarations ∙ s.begun.begun ∙ ap beginnings these

      -- as the slices have them now
      pub ready_now : Ready (take r.items items') (take r.declarations starts')
      ready_now =
          subst (λ (l : List Item). Ready l (take r.declarations starts')) (sym counted)
          (record { begun = begun; allowed = filled_allowed text is formed means })

      pub settled_on : {q : Result Unit Refusal} {after : Tables}
          → Leaves (by_verdict blank (by_value (program_of (take r.items items')) (valued (program_of (take r.items items'))))) q after
          → Leaves (by_verdict blank (by_settling (settled text is))) q after
      settled_on {q} {after} v =
          let x = subst (λ (l : List Item). Leaves (by_verdict blank (by_value (program_of l) (valued (program_of l)))) q after) (counted ∙ sym right.1) v in
          subst (λ (z : Verdict). Leaves (by_verdict blank z) q after) (sym (if_zero_holds (settled text is).number (settled text is).place _ s.told.0)) x
