-- The measure is `left`. The loop's invariant: all that the uses before `place` are of was gone through.
use Prim.Native.Nat.{ℕ, ◌+◌, ◌<◌}
use mathlib.Core.Path.{sym, ◌∙◌, ap}
use mathlib.Core.Bool.{true}
use mathlib.Core.List.{[], ◌∷◌, map}
use native.Mathlib.Omega.{arith}
use lib.ListN.{length, get_or, set, length-set}
use Rattle.values.specs.Rows.{no_row, own_in}
use Rattle.values.specs.Inner.{used_in, refs_of, here, marked}
use Rattle.values.proofs.Chains.{counted_lt}
use Rattle.values.proofs.Used.{uses_from, place_used, uses_out, refs_all}
use Rattle.values.proofs.Marks.{Scanning, scan_same, passed_seen, searched_no, searched_yes, scan_start, one_more_marked, scan_on, scan_end, leads_here, leads_there}
use Rattle.values.proofs.circular.+search.Goals.{After-of-of}
use Rattle.values.proofs.circular.+search.Goals as goal

-- the next use: its declaration is one of the rows, and what is to be gone through starts with it
module _ (t : ℕ) (c : goal.After-of-of t) where
  scanning :
      Scanning
      (refs_of (own_in c.args.rows.now))
      (length c.args.rows.now)
      c.args.target
      c.args.row
      (set c.args.marks.now c.args.row true)
      c.loop-place.marks
      (used_in c.in-Some.used ∷ map used_in (uses_from (get_or c.args.rows.now c.args.row no_row) (c.loop-place.place + 1)))
  scanning = scan_same _ _ _ _ _ _ (ap (map used_in) (place_used (get_or c.args.rows.now c.args.row no_row) c.loop-place.place c.use_at.ensures c.in-Some.is)) c.loop-place.invariant.2

  used_below : c.of-of.result < length c.args.rows.now
  used_below = c.requires.0.closed c.args.row c.of-of.result (scanning.part c.of-of.result (here (sym c.of-of.ensures)))

pub loop-place-init : goal.loop-place-init
loop-place-init t c =
    let q = counted_lt (marked c.args.marks.now) (length c.args.rows.now) c.args.row c.requires.2 c.requires.4 in
    let m = one_more_marked (refs_of (own_in c.args.rows.now)) (length c.args.rows.now) c.args.target c.args.row c.args.marks.now c.requires.2 (omega (arith, c.requires.0.few, c.requires.1, c.requires.2)) c.requires.4 in
    (omega (arith, q, c.requires.3), omega (arith, q, m, c.requires.3), scan_same _ _ _ _ _ _ (refs_all (get_or c.args.rows.now c.args.row no_row)) (scan_start _ _ _ _ _))

pub returns-then-of-target : goal.returns-then-of-target
returns-then-of-target t c =
    let next = (goal.at.returns-then-of-target t c).After-of-of in
    searched_yes _ _ _ _ _ _ _ (leads_here _ _ _ _ _ _ [] _ _ (scanning t next) c.of-of.ensures _ c.loop-place.invariant.0 c.if-of-target.true)

pub bounds-marks-of : goal.bounds-marks-of
bounds-marks-of t c = omega (arith, used_below t (goal.at.bounds-marks-of t c).After-of-of, c.requires.1, c.requires.0.few, simp length-set at c.loop-place.auto.marks)

pub loop-place-preserved-then-marks-of : goal.loop-place-preserved-then-marks-of
loop-place-preserved-then-marks-of t c =
    let next = (goal.at.loop-place-preserved-then-marks-of t c).After-of-of in
    (c.loop-place.invariant.0, c.loop-place.invariant.1, scan_on _ _ _ _ _ _ _ _ _ (scanning t next) c.of-of.ensures c.if-of-target.false (passed_seen _ _ _ _ _ c.if-marks-of.true))

pub search-requires : goal.search-requires
search-requires t c = (
  omega (arith, c.decreases, c.loop-place.invariant.0),
  (
    c.requires.0,
    simp length-set at c.loop-place.auto.marks ∙ c.requires.1,
    used_below t (goal.at.search-requires t c).After-of-of,
    omega (arith, c.loop-place.invariant.2.more, c.loop-place.invariant.1),
    c.if-marks-of.false,
  ),
)

pub returns-then-search : goal.returns-then-search
returns-then-search t c =
    let next = (goal.at.returns-then-search t c).After-of-of in
    searched_yes _ _ _ _ _ _ _ (leads_there _ _ _ _ _ _ [] _ _ (scanning t next) c.of-of.ensures _ c.loop-place.invariant.0 (c.search.ensures.yes c.if-search.true))

pub loop-place-preserved : goal.loop-place-preserved
loop-place-preserved t c =
    let next = (goal.at.loop-place-preserved t c).After-of-of in
    (c.loop-place.invariant.0, c.loop-place.invariant.1, scan_on _ _ _ _ _ _ _ _ _ (scanning t next) c.of-of.ensures c.if-of-target.false (c.search.ensures.no c.if-search.false))

pub returns : goal.returns
returns t c =
    let l : c.args.row < length c.args.marks.now = omega (arith, c.requires.0.few, c.requires.1, c.requires.2) in
    searched_no _ _ _ _ _ _ _ (scan_end _ _ _ _ _ c.requires.2 l c.requires.4 _ (scan_same _ _ _ _ _ _ (ap (map used_in) (uses_out (get_or c.args.rows.now c.args.row no_row) _ (omega (arith, c.count_places-place-end.ensures.0, c.loop-place-test.false)))) c.loop-place.invariant.2))
