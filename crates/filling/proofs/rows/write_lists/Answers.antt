-- By the first item: each arm writes what its declaration has.
use mathlib.Core.Path.{◌≡◌, refl, sym, ◌∙◌, ap, subst}
use mathlib.Core.Bool.{true}
use mathlib.Core.List.{List, ◌∷◌}
use Rattle.std.specs.Prelude.{Option, Some}
use Rattle.std.specs.Option.{option_map}
use Rattle.grammar.specs.declared.Item.{Item}
use Rattle.names.specs.Parts.{part}
use Rattle.program.specs.Program.{Declaration, form_of, tones, grouped, logic, start_of, orders_of, harmony, keys_of}
use Rattle.program.specs.Program.{as_listed}
use Rattle.filling.specs.declared.triggers.Trigger.{Trigger}
use Rattle.filling.specs.Inner.{begins, as_trigger, trigger_by, Writable}
use Rattle.filling.proofs.Inside.{inside}
use Rattle.filling.proofs.Forms.{as_tones, as_logic_holds, plain_first, starred_first, harmony_rowed}
use Rattle.filling.proofs.Slices.{rowed_in_as, system_in, tones_in_step, logic_in_step}
use Rattle.filling.proofs.rows.write_lists.Goals.{In-Some}
use Rattle.filling.proofs.rows.write_lists.Goals as goal

-- the declaration by its first item
module _ (c : goal.In-Some) where
  abbrev body : List Item
  body = c.args.items.now

  abbrev rest : List Item
  rest = c.in-Some.rest.now

  there : {x : Item} → c.in-Some.item.now ≡ x → body ≡ x ∷ rest
  there e = c.in-Some.ensures.cases.0 ∙ ap (λ (y : Item). y ∷ rest) e

  positions : begins (part c.in-Some.item.now) ≡ true → form_of body ≡ tones (grouped body).positions
  positions e =
      ap form_of (there refl)
      ∙ as_tones (inside c.in-Some.item.now) e rest
      ∙ ap (λ (is : List Item). tones (grouped is).positions) (sym (there refl))

  keys : {x : Item} → c.in-Some.item.now ≡ x → form_of (x ∷ rest) ≡ harmony (keys_of (x ∷ rest)) → form_of body ≡ harmony (keys_of body)
  keys e q = ap form_of (there e) ∙ q ∙ ap (λ (is : List Item). harmony (keys_of is)) (sym (there e))

  -- whatever it is equal to can be written
  writable : {d : Declaration} → form_of body ≡ d → Writable c.args.values.now c.args.used d
  writable e = subst (λ (d : Declaration). Writable c.args.values.now c.args.used d) e c.requires.writable

-- a logic, by the trigger with which it begins
triggered : (c : goal.In-Some) {t : Trigger} {r : Option Trigger} → r ≡ Some t → option_map trigger_by r ≡ as_trigger (as_listed (part c.in-Some.item.now))
    → form_of (body c) ≡ logic (trigger_by t) (start_of (rest c)) (orders_of (rest c))
triggered c q e = ap form_of (there c refl) ∙ as_logic_holds (inside c.in-Some.item.now) (sym e ∙ ap (option_map trigger_by) q) (rest c)

pub returns-then-is_position : goal.returns-then-is_position
returns-then-is_position c =
    let w = c.write_tones in
    rowed_in_as (positions (goal.at.returns-then-is_position c).In-Some (sym c.is_position.ensures ∙ c.if-is_position.true))
    (tones_in_step c.requires.slices w.new.kinds w.new.changes w.auto.kinds w.auto.changes w.ensures.value w.ensures.stored)

pub returns-in-Some-read_trigger : goal.returns-in-Some-read_trigger
returns-in-Some-read_trigger c =
    let w = c.write_logic in
    rowed_in_as (triggered (goal.at.returns-in-Some-read_trigger c).In-Some c.in-Some-read_trigger.is c.read_trigger.ensures)
    (logic_in_step c.requires.slices w.new.orders w.auto.orders w.ensures.value w.ensures.stored)

pub make_harmony-requires : goal.make_harmony-requires
make_harmony-requires c =
    let here = (goal.at.make_harmony-requires c).In-Some in
    (writable here (keys here c.in-Key.is (plain_first _ _))).parts

pub make_harmony-requires-in-StarredKey : goal.make_harmony-requires-in-StarredKey
make_harmony-requires-in-StarredKey c =
    let here = (goal.at.make_harmony-requires-in-StarredKey c).In-Some in
    (writable here (keys here c.in-StarredKey.is (starred_first _ _))).parts

pub returns-in-AnchorKey : goal.returns-in-AnchorKey
returns-in-AnchorKey c =
    let w = c.write_system in
    let here = (goal.at.returns-in-AnchorKey c).In-Some in
    rowed_in_as (ap form_of (there here c.in-AnchorKey.is))
    (system_in c.requires.slices w.new.sounding w.new.tones w.auto.sounding w.auto.tones w.ensures.value w.ensures.stored)

pub returns-in-Key : goal.returns-in-Key
returns-in-Key c =
    let here = (goal.at.returns-in-Key c).In-Some in
    rowed_in_as (keys here c.in-Key.is (plain_first _ _)) (record { rowed = harmony_rowed c.make_harmony.ensures; rows = refl })

pub returns-in-StarredKey : goal.returns-in-StarredKey
returns-in-StarredKey c =
    let here = (goal.at.returns-in-StarredKey c).In-Some in
    rowed_in_as (keys here c.in-StarredKey.is (starred_first _ _)) (record { rowed = harmony_rowed c.make_harmony-in-StarredKey.ensures; rows = refl })
