-- The measure is `left`. The loop's invariant: the uses before `place` are gathered in `parts`, and the memo has grown.
use Prim.Native.Nat.{ℕ, ◌+◌, ◌≤◌, ◌<◌}
use mathlib.Core.Path.{◌≡◌, ◌∙◌, ap}
use mathlib.Core.List.{◌∷◌}
use native.Mathlib.Omega.{arith}
use borrow.Author.Rules.{rules}
use lib.ListN.{length, get_or}
use Rattle.values.specs.Values.{ranged}
use Rattle.values.specs.Rows.{no_row, own_in}
use Rattle.values.specs.Inner.{largest_product, used_in, farthest_step}
use Rattle.values.proofs.Used.{uses_from, place_passed, place_used, uses_out}
use Rattle.values.proofs.Visits.{Going, visited_zero, going_start, going_same, going_used, used_small, going_on_step, going_out, going_end}
use Rattle.values.proofs.memo.+visit.Goals.{After-of}
use Rattle.values.proofs.memo.+visit.Goals as goal

-- the next use: its declaration is one of the rows, and what is to be gathered starts with it
module _ (t : ℕ) (c : goal.After-of t) where
  going :
      Going
      (own_in c.args.rows.now)
      (length c.args.rows.now)
      c.args.row
      c.args.memo.now
      c.loop-place.memo
      c.loop-place.parts
      (c.in-Some-use_at.used ∷ uses_from (get_or c.args.rows.now c.args.row no_row) (c.loop-place.place + 1))
  going = going_same _ _ _ _ _ (place_used (get_or c.args.rows.now c.args.row no_row) c.loop-place.place c.use_at.ensures c.in-Some-use_at.is) c.loop-place.invariant.2

  used_below : used_in c.in-Some-use_at.used < length c.args.rows.now
  used_below = c.requires.0.closed c.args.row _ (going_used _ _ _ _ _ c.loop-place.memo _ _ _ going)

pub returns-in_err-rest : goal.returns-in_err-rest
returns-in_err-rest t c =
    let none : c.args.left ≡ 0 = let h = c.in_err-rest.ensures in search (rules, h) in
    rw c.from_residual.ensures (visited_zero _ _ _ _ _ none c.requires.3)

pub loop-place-init : goal.loop-place-init
loop-place-init t c =
    let s = c.begin-parts.ensures.1 in
    (s.start, omega (arith, s.sum), rw c.begin-parts.ensures.0 (going_start (own_in c.args.rows.now) _ _ _ c.requires.3))

pub loop-place-preserved-in_default-use_at : goal.loop-place-preserved-in_default-use_at
loop-place-preserved-in_default-use_at t c = (
  c.loop-place.invariant.0,
  omega (arith, c.loop-place.invariant.1),
  going_same _ _ _ _ _ (place_passed (get_or c.args.rows.now c.args.row no_row) c.loop-place.place c.use_at.ensures c.in_default-use_at.is) c.loop-place.invariant.2,
)

pub visit-requires : goal.visit-requires
visit-requires t c = (
  omega (arith, c.decreases, c.in_ok-rest.ensures),
  (
    c.requires.0,
    c.loop-place.auto.memo ∙ c.requires.1,
    rw c.of.ensures (used_below t c),
    c.loop-place.invariant.2.grown.good,
  ),
)

pub returns-in_err-value : goal.returns-in_err-value
returns-in_err-value t c =
    let next = (goal.at.returns-in_err-value t c).After-of in
    rw c.from_residual-in_err-value.ensures (going_out _ _ _ _ _ _ _ _ _ (going t next) c.of.ensures c.visit.ensures c.in_ok-rest.ensures c.in_err-value.was)

pub take-parts-requires : goal.take-parts-requires
take-parts-requires t c =
    let next = (goal.at.take-parts-requires t c).After-of in
    let below : c.of.result < length c.args.rows.now = rw c.of.ensures (used_below t next) in (
      record { start = c.loop-place.invariant.0; sum = omega (arith, c.loop-place.invariant.1, c.loop-place-test.true, c.count_places-place-end.ensures.1) },
      used_small _ _ _ _ _ _ _ _ _ (going t next) c.of.ensures c.visit.ensures below c.in_ok-value.was,
    )

pub loop-place-preserved : goal.loop-place-preserved
loop-place-preserved t c =
    let next = (goal.at.loop-place-preserved t c).After-of in
    let below : c.of.result < length c.args.rows.now = rw c.of.ensures (used_below t next) in
    let step : farthest_step c.in-Some-use_at.used ≤ largest_product = search rules in
    let e = c.take-parts.ensures in (
      e.1,
      omega (arith, e.2, step, c.loop-place.invariant.1, c.loop-place-test.true, c.count_places-place-end.ensures.1),
      going_on_step _ _ _ _ _ _ _ _ _ (going t next) c.of.ensures c.visit.ensures below c.in_ok-value.was e.0,
    )

pub returns : goal.returns
returns t c =
    let l : c.args.row < length c.loop-place.memo = omega (arith, c.loop-place.auto.memo, c.requires.1, c.requires.2) in
    let out = uses_out (get_or c.args.rows.now c.args.row no_row) c.loop-place.place (omega (arith, c.count_places-place-end.ensures.0, c.loop-place-test.false)) in
    going_end _ _ _ _ _ _ _ (going_same _ _ _ _ _ out c.loop-place.invariant.2) c.requires.2 l (c.limit-value.ensures ∙ ap (ranged _) c.shift.ensures)
