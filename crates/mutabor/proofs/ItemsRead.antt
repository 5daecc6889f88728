-- Once a text is read into items, the slice begins with them.
-- Assumes nothing.
use mathlib.Core.Path.{◌≡◌, sym, ◌∙◌, ap, subst}
use mathlib.Core.List.{List}
use Prim.Native.Nat.{ℕ, ◌≤◌}
use native.Mathlib.Omega.{arith}
use lib.ListN.{length, take, drop, length-append}
use lib.Seq.{take_at}
use Rattle.std.specs.Prelude.{Result, Ok, Err}
use Rattle.status.specs.Status.{done}
use Rattle.status.specs.declared.Refusal.{Refusal}
use Rattle.grammar.specs.declared.Item.{Item}
use Rattle.grammar.specs.declared.Stopped.{Stopped}
use Rattle.grammar.specs.Items.{holding}
use Rattle.grammar.specs.Reading.{read_items, Answered}
use Rattle.names.specs.Names.{meanings}
use Rattle.tables.specs.Layout.{Tables}
use Rattle.program.specs.Text.{by_meaning, read_text}
use Rattle.filling.specs.Inner.{blank}
use Rattle.mutabor.specs.Reading.{by_verdict, Leaves}
use Rattle.mutabor.proofs.Steps.{items_refused, items_read}

-- the text is refused
pub not_read : (text : List ℕ) (e : Stopped) → Answered (read_items text) (Err e) → {after : Tables} → after ≡ blank → Leaves (by_verdict blank (read_text text)) (Err e.refusal) after
not_read text e w h = items_refused text w.1 w.2 h

-- or its items are read, so many
module _ (text : List ℕ) (items : List Item) {items' : List Item} {n : ℕ} (w : Answered (read_items text) (Ok n)) (h : items' ≡ holding (read_items text).items items) where
  pub all_read : (read_items text).number ≡ done
  all_read = w.1

  pub same_items : (read_items text).items ≡ take n items'
  same_items =
      let is = (read_items text).items in
      sym (ap (take n) h ∙ take_at is (drop (length is) items) n (sym w.0))

  pub count_within : n ≤ length items'
  count_within =
      let is = (read_items text).items in
      omega (arith, w.0, ap length h, length-append is (drop (length is) items))

  module _ {q : Result Unit Refusal} {after : Tables} where
    pub names_meant : Leaves (by_verdict blank (by_meaning text (meanings text (take n items')))) q after → Leaves (by_verdict blank (read_text text)) q after
    names_meant x = items_read text all_read (subst (λ (l : List Item). Leaves (by_verdict blank (by_meaning text (meanings text l))) q after) (sym same_items) x)
