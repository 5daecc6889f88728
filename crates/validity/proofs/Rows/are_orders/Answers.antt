-- `validity::Rows::are_orders` meets its contract. The loop's invariant: what is left gives the answer. Assumes nothing.
use mathlib.Core.Path.{◌≡◌, sym, ◌∙◌}
use mathlib.Core.Bool.{◌&&◌}
use Prim.Native.Nat.{◌*◌}
use native.Mathlib.Omega.{arith}
use lib.ListN.{get_or}
use mir.Syntax.{w32}
use mir.ValLaws.{to_z_pos}
use Rattle.tables.specs.Layout.{order_width, triggers_in, calls_in}
use Rattle.validity.proofs.Runs.{order_right, order_wrong, orders_turn, orders_end}
use Rattle.validity.proofs.Slices.{order_told}
use Rattle.validity.proofs.Rows.are_orders.Goals.{After-has_form}
use Rattle.validity.proofs.Rows.are_orders.Goals as goal

-- whether the order is right
told : (c : After-has_form) → let a = c.args in
    let i = c.loop-i.i in
    c.is_trigger.result && c.has_form.result ≡ order_right a.self.numbers.now a.self.count (triggers_in a.orders.now) (calls_in a.orders.now) i
told c =
    let a = c.args in
    let i = c.loop-i.i in
    let n = get_or a.orders.now (order_width * i) 0 in
    order_told a.self.numbers.now a.self.count a.orders.now i
    (simp (to_z_pos w32 n (omega (arith, c.type_inv.orders (order_width * i)))) at c.is_trigger.ensures) c.has_form.ensures

pub returns-then-not-right : goal.returns-then-not-right
returns-then-not-right c = let a = c.args in
    let i = c.loop-i.i in
    let os = a.orders.now in
    let wrong = sym (told (goal.at.returns-then-not-right c).After-has_form) ∙ c.if-not-right.true in
    sym (order_wrong a.self.numbers.now a.self.count (triggers_in os) (calls_in os) i a.count c.loop-i-test.true wrong) ∙ c.loop-i.invariant

pub loop-i-preserved : goal.loop-i-preserved
loop-i-preserved c = let a = c.args in
    let i = c.loop-i.i in
    let os = a.orders.now in
    let taken = c.loop-i-test.true in
    let right = sym (told (goal.at.loop-i-preserved c).After-has_form) ∙ c.if-not-right.false in
    orders_turn a.self.numbers.now a.self.count (triggers_in os) (calls_in os) i a.count taken right ∙ c.loop-i.invariant

pub returns : goal.returns
returns c = let a = c.args in
    let os = a.orders.now in
    sym (orders_end a.self.numbers.now a.self.count (triggers_in os) (calls_in os) c.loop-i.i a.count c.loop-i-test.false) ∙ c.loop-i.invariant
