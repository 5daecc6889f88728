-- Once the names are resolved, the items are ready for what is in brackets.
-- Assumes nothing.
use mathlib.Core.Path.{◌≡◌, sym, ◌∙◌, ap, subst}
use mathlib.Core.List.{List}
use Prim.Native.Nat.{ℕ}
use native.Mathlib.Omega.{arith}
use lib.ListN.{length, take}
use lib.Seq.{take_all}
use Rattle.limits.specs.Limits.{most_rows}
use Rattle.std.specs.Prelude.{Result, Ok}
use Rattle.status.specs.Status.{done}
use Rattle.grammar.specs.declared.Item.{Item}
use Rattle.grammar.specs.Reading.{read_items}
use Rattle.names.specs.Names.{declared, meanings}
use Rattle.names.specs.Inner.{beginnings, distinct, BothPasses}
use Rattle.names.proofs.Lists.{begun_taken}
use Rattle.names.proofs.Meanings.{Accepted, accepted}
use Rattle.placeholders.specs.Filling.{settled}
use Rattle.placeholders.proofs.Beginnings.{as_many}
use Rattle.tables.specs.Layout.{Tables}
use Rattle.program.specs.Text.{Verdict, by_settling, by_meaning}
use Rattle.program.proofs.Formed.{FormedText}
use Rattle.program.proofs.ReadFormed.{read_formed}
use Rattle.program.proofs.Numbered.{formed_meant}
use Rattle.program.proofs.AllowedText.{declared_few}
use Rattle.filling.specs.Inner.{blank}
use Rattle.status.specs.declared.Refusal.{Refusal}
use Rattle.mutabor.specs.Reading.{by_verdict, Leaves}
use Rattle.mutabor.specs.Inner.{Resolved}
use Rattle.mutabor.proofs.Steps.{if_zero_holds}

module _ (text : List ℕ) (is : List Item) {names starts : List ℕ} {is' : List Item} {names' starts' : List ℕ} {n : ℕ}
    (b : BothPasses text is names starts (Ok n) is' names' starts') where
  meant : (meanings text is).number ≡ done
  meant = b.told.0

  js : List Item
  js = (meanings text is).items

  known : Accepted text is
  known = accepted text is meant

  left : is' ≡ js
  unfolding js
  left = b.left ∙ known.left

  kept : n ≡ length (declared is)
  kept = b.count ∙ known.kept

  same_beginnings : beginnings js ≡ beginnings is
  unfolding js
  same_beginnings = known.settles.same_starts 0

  begun : take n starts' ≡ beginnings js
  begun =
      let m = as_many 0 is in
      let d : distinct text is ≡ length (beginnings is) = known.kept ∙ sym m in
      ap (λ (k : ℕ). take k starts') b.count ∙ ap (take (distinct text is)) b.begun ∙ begun_taken (beginnings is) starts (distinct text is) (omega arith)
      ∙ take_all (distinct text is) (beginnings is) (omega arith) ∙ sym same_beginnings

  -- the items with their meanings
  module _ (f : (read_items text).items ≡ is) (g : (read_items text).number ≡ done) where
    pub resolved_now : (m : length starts' ≡ most_rows) → Resolved text is' starts' n
    unfolding js
    resolved_now m =
        let few = declared_few text (meanings text is).items (formed_meant text is (subst FormedText f (read_formed text g)) meant) in
        record {
          read = g;
          meant = rw f meant;
          these = ap (λ (l : List Item). (meanings text l).items) f ∙ sym left;
          begun = record {
            within = omega (arith, kept, m, few, ap length known.settles.same_names);
            begun = begun ∙ ap beginnings (sym left);
          };
          room = m;
        }

    -- what is left then is what is left of the names' meanings
    pub names_resolved : {q : Result Unit Refusal} {after : Tables} → Leaves (by_verdict blank (by_settling (settled text is'))) q after
        → Leaves (by_verdict blank (by_meaning text (meanings text is))) q after
    unfolding js
    names_resolved {q} {after} w =
        let x = subst (λ (l : List Item). Leaves (by_verdict blank (by_settling (settled text l))) q after) left w in
        subst (λ (v : Verdict). Leaves (by_verdict blank v) q after) (sym (if_zero_holds (meanings text is).number (meanings text is).place _ meant)) x
