-- The memo of all values is judged; where all is well it is handed over, and else all is zero.
use mathlib.Core.Path.{◌≡◌, ◌∙◌, ap}
use borrow.Author.Rules.{rules}
use lib.IntN.{pos}
use lib.ListN.{length, replicate}
use Rattle.std.proofs.lemmas.Result.{err_from_is_err_and}
use Rattle.values.specs.Rows.{rows}
use Rattle.values.proofs.Visits.{none_known}
use Rattle.values.proofs.Verdict.{clear, refused, accepted}
use Rattle.values.proofs.resolve.Goals.{After-visit_all}
use Rattle.values.proofs.resolve.Goals as goal

-- the memo has a place for each row, and the values begin as zeros
module _ (c : goal.After-visit_all) where
  full : length c.visit_all.new.memo ≡ length c.args.rows.now
  full = c.visit_all.auto.memo ∙ (none_known (length c.args.rows.now) rows c.requires.0.few).0

  zeros : c.fill.new.self ≡ replicate rows (pos 0)
  zeros =
      let e : c.fill.new.self ≡ replicate (length c.args.values.now) (pos 0) = search rules in
      e ∙ ap (λ k. replicate k (pos 0)) c.requires.1

pub visit_all-requires : goal.visit_all-requires
visit_all-requires c = let m = none_known (length c.args.rows.now) rows c.requires.0.few in (c.requires.0, m.0, m.1)

pub judge-requires : goal.judge-requires
judge-requires c =
    let l = full (goal.at.judge-requires c).After-visit_all in
    (c.requires.0, l, clear _ _ _ l c.visit_all.ensures)

pub returns-in_err-judge : goal.returns-in_err-judge
returns-in_err-judge c =
    let here = (goal.at.returns-in_err-judge c).After-visit_all in
    let p = err_from_is_err_and c.from_residual.result c.from_residual.ensures.1 in
    rw (p.1, p.2) (refused _ _ _ (full here) c.visit_all.ensures c.requires.0.closed c.judge.ensures c.in_err-judge.was (zeros here))

pub returns : goal.returns
returns c =
    let here = (goal.at.returns c).After-visit_all in
    accepted _ _ _ (full here) c.visit_all.ensures c.requires.0.closed c.judge.ensures c.in_ok-judge.was (rw (← zeros here) c.hand_over.ensures)
