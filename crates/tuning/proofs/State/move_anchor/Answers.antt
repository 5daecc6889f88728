-- `tuning::State::move_anchor` meets its contract, each return by the law of its outcome. Assumes nothing.
use mathlib.Core.Bool.{true, not}
use mathlib.Core.Path.{◌≡◌, sym, ap, ◌∙◌}
use Prim.Native.Nat.{ℕ, ◌≤◌}
use native.Mathlib.Omega.{arith}
use borrow.Author.Rules.{rules}
use lib.IntN.{ℤ, pos, nat_abs}
use lib.ListN.{length}
use lib.Signed.{le_z}
use mir.Facts.{to_z-of_z}
use mir.Syntax.{w32}
use mir.Val.{SFits}
use Rattle.tuning.specs.Tuning.{amounts}
use Rattle.tuning.specs.Desk.{is_anchor}
use Rattle.tuning.proofs.Lists.{length_mapped}
use Rattle.tuning.proofs.Valid.{valid_of}
use Rattle.tuning.proofs.Steps.{natural, from_first, above_first}
use Rattle.tuning.proofs.Outcomes.{reached, Within, within, tones_tested, anchor_out, anchor_silent, anchor_beyond, anchor_taken, reply_refused, reply_taken}
use Rattle.tuning.proofs.State.move_anchor.Goals.{Start, After-is_between, After-shift-anchor}
use Rattle.tuning.proofs.State.move_anchor.Goals as goal

-- the state has sixty places
long : (c : Start) → length c.args.self.tones ≡ 60
long c = search length_mapped

-- where the anchor is tested: the steps that are asked for
abbrev steps : After-is_between → ℤ
steps c = c.amount_of-b.result.0

meant : (c : After-is_between) → amounts c.args.asked c.args.self.anchor.0 ≡ steps c
meant c = sym (c.amount_of-b.ensures ∙ ap (λ (z : ℤ). amounts c.args.asked (nat_abs z)) (c.distance.ensures ∙ from_first _))

tested : (c : After-is_between) → c.is_between.result ≡ is_anchor (steps c)
tested c = let fits : SFits w32 (steps c) = search rules in c.is_between.ensures ∙ ap is_anchor (to_z-of_z fits)

-- past the test they lead to a key
new : (c : After-is_between) → c.is_between.result ≡ true → Within 0 127 (steps c)
new c h = within 0 127 (steps c) (sym (tested c) ∙ h)

key : (c : After-shift-anchor) → pos c.shift-anchor.result.0 ≡ c.amount_of-b.result.0
key c = c.shift-anchor.ensures ∙ above_first _

most : {n : ℕ} {z : ℤ} → pos n ≡ z → Within 0 127 z → n ≤ 127
most e w = omega (arith, w.most, ap nat_abs e)

pub amount_of-b-requires : goal.amount_of-b-requires
amount_of-b-requires c =
    rw (c.distance.ensures ∙ from_first c.args.self.anchor.0) (natural c.args.self.anchor.0, omega (arith, (valid_of c.args.self c.requires).anchor))

pub returns-then-not-is_between : goal.returns-then-not-is_between
returns-then-not-is_between c =
    let t = (goal.at.returns-then-not-is_between c).After-is_between in
    c.refused.ensures ∙ reply_refused c.args.self _ c.requires (long (goal.at.returns-then-not-is_between c).Start) 10 (anchor_out _ _ (ap is_anchor (meant t) ∙ sym (tested t) ∙ c.if-not-is_between.true))

pub shift-anchor-requires : goal.shift-anchor-requires
shift-anchor-requires c =
    let n = new (goal.at.shift-anchor-requires c).After-is_between c.if-not-is_between.false in
    let f = above_first c.amount_of-b.result.0 ∙ n.whole in
    (ap (le_z (pos 0)) f ∙ natural (nat_abs c.amount_of-b.result.0), omega (arith, ap nat_abs f, n.most))

pub reach-requires : goal.reach-requires
reach-requires c =
    (c.requires, omega (arith, most (key (goal.at.reach-requires c).After-shift-anchor) (new (goal.at.reach-requires c).After-is_between c.if-not-is_between.false)))

pub returns-in_default : goal.returns-in_default
returns-in_default c =
    let a = goal.at.returns-in_default c in
    let k = key a.After-shift-anchor in
    c.refused-in_default.ensures ∙ reply_refused c.args.self _ c.requires (long a.Start) 13
    (anchor_silent _ _ _ (meant a.After-is_between ∙ sym k) (most k (new a.After-is_between c.if-not-is_between.false)) (reached c.reach.ensures.distance c.in_default.is))

pub with_anchor-next-requires : goal.with_anchor-next-requires
with_anchor-next-requires c = (c.requires, c.in-Some.ensures.near)

pub returns-then-not-has_allowed_tones : goal.returns-then-not-has_allowed_tones
returns-then-not-has_allowed_tones c =
    let a = goal.at.returns-then-not-has_allowed_tones c in
    let k = key a.After-shift-anchor in
    c.refused-then-not-has_allowed_tones.ensures ∙ reply_refused c.args.self _ c.requires (long a.Start) 14
    (anchor_beyond _ _ _ (meant a.After-is_between ∙ sym k) (most k (new a.After-is_between c.if-not-is_between.false)) _ (reached c.reach.ensures.distance c.in-Some.is)
    (tones_tested _ c.with_anchor-next.ensures c.has_allowed_tones.ensures ∙ ap not c.if-not-has_allowed_tones.true))

pub returns : goal.returns
returns c =
    let a = goal.at.returns c in
    let k = key a.After-shift-anchor in
    c.taken.ensures ∙ reply_taken c.args.self _ _
    (anchor_taken _ _ _ (meant a.After-is_between ∙ sym k) (most k (new a.After-is_between c.if-not-is_between.false)) _ (reached c.reach.ensures.distance c.in-Some.is)
    (tones_tested _ c.with_anchor-next.ensures c.has_allowed_tones.ensures ∙ ap not c.if-not-has_allowed_tones.false))
    _ c.with_anchor-next.ensures
