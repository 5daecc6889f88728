-- The invariant: what is found from the present item on is what is found among all.
-- Assumes nothing.
use Prim.Native.Nat.{ℕ, ◌+◌}
use mathlib.Core.Bool.{Bool, true, false, cond}
use mathlib.Core.List.{List, ◌∷◌}
use mathlib.Core.Path.{◌≡◌, sym, ◌∙◌, ap}
use lib.ListN.{drop}
use Rattle.symbols.specs.Bytes.{same}
use Rattle.symbols.specs.Names.{name_at}
use Rattle.placeholders.specs.Placeholders.{is_among}
use Rattle.placeholders.specs.Inner.{names_in}
use Rattle.placeholders.proofs.Items.{names_end, names_more, names_skip}
use Rattle.placeholders.proofs.brackets.is_among.Goals as goal
use Rattle.placeholders.proofs.brackets.is_among.Goals.{in-Names+else-same_name, in_default}

-- a name at the front that is the same, or not
first_name : (text name ps : List ℕ) (p : ℕ) {r b : Bool} → r ≡ same (name_at text p) name → r ≡ b → cond b true (is_among text ps name) ≡ is_among text (p ∷ ps) name
unfolding is_among
first_name text name ps p {b = true} e f = rw (is_among, ← e, f)
first_name text name ps p {b = false} e f = rw (is_among, ← e, f)

pub returns-then-same_name : goal.returns-then-same_name
returns-then-same_name c =
    let a = c.args in
    let more = names_more a.items.now _ c.loop-item-test.true _ c.see.ensures c.in-Names.is in
    first_name a.text.now (name_at a.text.now a.at) (names_in (drop (c.loop-item.item-index + 1) a.items.now)) _ c.same_name.ensures c.if-same_name.true
    ∙ sym (ap (λ ps. is_among a.text.now ps (name_at a.text.now a.at)) more)
    ∙ c.loop-item.invariant

pub loop-item-preserved : goal.loop-item-preserved
loop-item-preserved c =
    let a = c.args in
    elim c.match-see.branch [
      | in-Names+else-same_name w ↦
          first_name a.text.now (name_at a.text.now a.at) (names_in (drop (c.loop-item.item-index + 1) a.items.now)) _ w.same_name.ensures w.if-same_name.false
          ∙ sym (ap (λ ps. is_among a.text.now ps (name_at a.text.now a.at)) (names_more a.items.now _ c.loop-item-test.true _ c.see.ensures w.in-Names.is))
          ∙ c.loop-item.invariant
      | in_default w ↦
          sym (ap (λ ps. is_among a.text.now ps (name_at a.text.now a.at)) (names_skip a.items.now _ c.loop-item-test.true _ c.see.ensures w.in_default.not-Names)) ∙ c.loop-item.invariant
    ]

pub returns : goal.returns
unfolding is_among
returns c =
    let a = c.args in
    sym (ap (λ ps. is_among a.text.now ps (name_at a.text.now a.at)) (names_end a.items.now _ c.loop-item-test.false)) ∙ c.loop-item.invariant
