-- What is found is called, whatever house presses the letter.
use mathlib.Core.Path.{◌≡◌, sym, ap, ◌∙◌}
use borrow.Author.Rules.{rules}
use Prim.Native.Nat.{◌<◌}
use mathlib.Core.List.{List}
use lib.IntN.{ℤ}
use lib.ListN.{length}
use Rattle.status.specs.Status.{letter_unbound}
use Rattle.tuning.proofs.Lists.{length_mapped}
use Rattle.tables.specs.Layout.{harmony_base, triggers_in, calls_in}
use Rattle.protocol.specs.Triggers.{itself, first_order}
use Rattle.protocol.specs.Inner.{is_trigger, called_in, called_by}
use Rattle.protocol.specs.OnBoard.{tables_on}
use Rattle.protocol.proofs.Active.{called_logic, called_order}
use Rattle.protocol.proofs.Struck.{found_within, found_step}
use Rattle.protocol.proofs.Stays.{desk_within}
use Rattle.protocol.proofs.board.Board.search_letter.Goals.{After-ok_or, in-Some, in-None}
use Rattle.protocol.proofs.board.Board.search_letter.Goals as goal

-- a letter is one of the codes
small : (c : goal.After-ok_or) → c.args.letter < harmony_base
small c = search rules

long : (c : goal.After-ok_or) → length c.args.desk.tuning.tones ≡ 60
long c = search length_mapped

found : (c : goal.After-ok_or) → c.match-self-letter.found ≡ called_by (tables_on c.args.self.now) c.args.desk.active (itself c.args.letter)
found c =
    let t = tables_on c.args.self.now in
    let a = c.args.desk.active in
    let logic = sym (c.args.self.now.indexed.letter c.args.letter (small c)) in
    elim c.match-self-letter.branch [
      | in-Some w ↦ w.found-is ∙ called_logic t a (itself c.args.letter) (logic ∙ w.in-Some.is)
      | in-None w ↦
          w.found-is
          ∙ w.find_order-found.ensures
          ∙ ap (λ (rows : List ℤ). called_in rows (first_order (is_trigger c.args.letter) (triggers_in w.orders_of.result.now) (calls_in w.orders_of.result.now))) w.rows.ensures
          ∙ called_order t a (itself c.args.letter) (logic ∙ w.in-None.is) w.orders_of.ensures
    ]

pub returns : goal.returns
returns c house =
    let t = tables_on c.args.self.now in
    let d = c.args.desk in
    let x = itself c.args.letter in
    let here = goal.at.returns c in
    rw c.ok_or.ensures.value (record {
      within = found_within t house d x letter_unbound (found here.After-ok_or) (desk_within t d c.requires (long here.After-ok_or) x);
      leaves = found_step t house d x letter_unbound (found here.After-ok_or);
    })
