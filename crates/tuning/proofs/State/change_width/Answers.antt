-- `tuning::State::change_width` meets its contract, each return by the law of its outcome. Assumes nothing.
use mathlib.Core.Path.{◌≡◌, sym, ap, ◌∙◌}
use mathlib.Core.Bool.{true, false, not}
use Prim.Native.Nat.{ℕ, ◌+◌}
use native.Mathlib.Omega.{arith}
use borrow.Author.Rules.{rules}
use lib.IntN.{ℤ, pos, nat_abs}
use lib.ListN.{length}
use mir.Facts.{to_z-of_z}
use mir.Syntax.{w32}
use mir.Val.{to_z, of_z, SFits}
use mir.ValLaws.{to_z_pos}
use Rattle.integers.proofs.Signed.{signed}
use Rattle.cents.specs.Passages.{key_shift}
use Rattle.tuning.specs.declared.State.{State}
use Rattle.tuning.specs.Tuning.{width, amounts, reach}
use Rattle.tuning.specs.Desk.{cents, is_width, divides_by_zero}
use Rattle.tuning.specs.State.{held, valid_state}
use Rattle.tuning.specs.Inner.{interval_of}
use Rattle.tuning.proofs.Lists.{length_mapped}
use Rattle.tuning.proofs.Valid.{valid_of}
use Rattle.tuning.proofs.Steps.{natural}
use Rattle.tuning.proofs.Held.{held_width}
use Rattle.tuning.proofs.Outcomes.{reached, Within, within, tones_tested, width_divided, width_out, width_silent, width_beyond, width_period, width_taken, reply_refused, reply_taken}
use Rattle.tuning.proofs.State.change_width.Goals.{After-is_between, After-reach, Start}
use Rattle.tuning.proofs.State.change_width.Goals as goal

-- the state has sixty places
long : (c : goal.Start) → length c.args.self.tones ≡ 60
long c = search length_mapped

-- the width as so many keys
start_steps : (s : State) → valid_state s ≡ true → length s.tones ≡ 60 → to_z w32 s.width ≡ pos (width cents (held s))
start_steps s v n = to_z_pos w32 s.width (omega (arith, (valid_of s v).most)) ∙ ap pos (sym (held_width s v n))

-- the number that is asked for, as the test and the cast read it
abbrev wanted : After-is_between → ℤ
wanted c = to_z w32 (of_z w32 c.amount_of-v.result.0)

read : (c : After-is_between) → wanted c ≡ c.amount_of-v.result.0
read c = let fits : SFits w32 c.amount_of-v.result.0 = search rules in to_z-of_z fits

undivided : (c : After-is_between) → divides_by_zero c.args.asked ≡ false
undivided c = sym c.divides_by_zero.ensures ∙ c.if-divides_by_zero.false

meant : (c : After-is_between) → amounts c.args.asked (width cents (held c.args.self)) ≡ wanted c
meant c =
    let n : length c.args.self.tones ≡ 60 = search length_mapped in
    sym (read c ∙ c.amount_of-v.ensures ∙ ap (λ (z : ℤ). amounts c.args.asked (nat_abs z)) (start_steps c.args.self c.requires n))

-- past the test it is a width
new : (c : After-is_between) → c.is_between.result ≡ true → Within 1 60 (wanted c)
new c h = within 1 60 (wanted c) (sym c.is_between.ensures ∙ h)

-- the key at the other end
steps : (c : After-is_between) → c.is_between.result ≡ true → c.amount_of-v.result.0 ≡ pos (nat_abs (wanted c))
steps c h = sym (read c) ∙ (new c h).whole

key : (a n x : ℕ) (z : ℤ) → pos x ≡ key_shift a z → z ≡ pos n → x ≡ a + n
key a n x z e k =
    let f = e ∙ ap (key_shift a) k in
    omega (signed, f)

spans : (c : After-reach) (n : ℕ) → c.amount_of-v.result.0 ≡ pos n → c.reach.result ≡ interval_of (reach cents (held c.args.self) (c.args.self.anchor.0 + n))
spans c n k = c.reach.ensures.distance ∙ ap (λ (x : ℕ). interval_of (reach cents (held c.args.self) x)) (key c.args.self.anchor.0 n c.shift.result.0 c.amount_of-v.result.0 c.shift.ensures k)

pub returns-then-divides_by_zero : goal.returns-then-divides_by_zero
returns-then-divides_by_zero c =
    c.refused.ensures ∙ reply_refused c.args.self _ c.requires (long (goal.at.returns-then-divides_by_zero c).Start) 25 (width_divided _ _ (sym c.divides_by_zero.ensures ∙ c.if-divides_by_zero.true))

pub amount_of-v-requires : goal.amount_of-v-requires
amount_of-v-requires c =
    let s = c.args.self in
    rw (to_z_pos w32 s.width (omega (arith, (valid_of s c.requires).most))) (natural s.width, omega (arith, (valid_of s c.requires).most))

pub returns-then-not-is_between : goal.returns-then-not-is_between
returns-then-not-is_between c =
    let t = (goal.at.returns-then-not-is_between c).After-is_between in
    c.refused-then-not-is_between.ensures ∙ reply_refused c.args.self _ c.requires (long (goal.at.returns-then-not-is_between c).Start) 11 (width_out _ _ (undivided t) (ap is_width (meant t) ∙ sym t.is_between.ensures ∙ c.if-not-is_between.true))

pub shift-requires : goal.shift-requires
shift-requires c =
    let a = (goal.at.shift-requires c).After-is_between in
    let w = new a c.if-not-is_between.false in
    rw (steps a c.if-not-is_between.false) (natural (c.args.self.anchor.0 + nat_abs (wanted a)), omega (arith, w.most, (valid_of c.args.self c.requires).anchor))

pub reach-requires : goal.reach-requires
reach-requires c =
    let a = (goal.at.reach-requires c).After-is_between in
    let h = c.if-not-is_between.false in
    (c.requires, omega (arith, (new a h).most, key c.args.self.anchor.0 (nat_abs (wanted a)) c.shift.result.0 c.amount_of-v.result.0 c.shift.ensures (steps a h)))

pub returns-in_default : goal.returns-in_default
returns-in_default c =
    let g = goal.at.returns-in_default c in
    let a = g.After-is_between in
    let w = new a c.if-not-is_between.false in
    c.refused-in_default.ensures ∙ reply_refused c.args.self _ c.requires (long g.Start) 13
    (width_silent _ _ (undivided a) _ (meant a ∙ w.whole) w.least w.most (reached (spans g.After-reach _ (steps a c.if-not-is_between.false)) c.in_default.is))

pub overflow_cast-v : goal.overflow_cast-v
overflow_cast-v c = let w = new (goal.at.overflow_cast-v c).After-is_between c.if-not-is_between.false in (w.sign, record { fits = omega (arith, w.most) })

pub with_width-next-requires : goal.with_width-next-requires
with_width-next-requires c = (c.requires, (new (goal.at.with_width-next-requires c).After-is_between c.if-not-is_between.false).most)

pub returns-then-not-has_allowed_tones : goal.returns-then-not-has_allowed_tones
returns-then-not-has_allowed_tones c =
    let g = goal.at.returns-then-not-has_allowed_tones c in
    let a = g.After-is_between in
    let w = new a c.if-not-is_between.false in
    c.refused-then-not-has_allowed_tones.ensures ∙ reply_refused c.args.self _ c.requires (long g.Start) 14
    (width_beyond _ _ (undivided a) _ (meant a ∙ w.whole) w.least w.most _ (reached (spans g.After-reach _ (steps a c.if-not-is_between.false)) c.in-Some.is)
    (tones_tested _ c.with_width-next.ensures c.has_allowed_tones.ensures ∙ ap not c.if-not-has_allowed_tones.true))

pub returns-then-not-is_period : goal.returns-then-not-is_period
returns-then-not-is_period c =
    let g = goal.at.returns-then-not-is_period c in
    let a = g.After-is_between in
    let w = new a c.if-not-is_between.false in
    c.refused-then-not-is_period.ensures ∙ reply_refused c.args.self _ c.requires (long g.Start) 12
    (width_period _ _ (undivided a) _ (meant a ∙ w.whole) w.least w.most _ (reached (spans g.After-reach _ (steps a c.if-not-is_between.false)) c.in-Some.is)
    (tones_tested _ c.with_width-next.ensures c.has_allowed_tones.ensures ∙ ap not c.if-not-has_allowed_tones.false)
    (sym c.is_period.ensures ∙ c.if-not-is_period.true))

pub returns : goal.returns
returns c =
    let g = goal.at.returns c in
    let a = g.After-is_between in
    let w = new a c.if-not-is_between.false in
    c.taken.ensures ∙ reply_taken c.args.self _ _
    (width_taken _ _ (undivided a) _ (meant a ∙ w.whole) w.least w.most _ (reached (spans g.After-reach _ (steps a c.if-not-is_between.false)) c.in-Some.is)
    (tones_tested _ c.with_width-next.ensures c.has_allowed_tones.ensures ∙ ap not c.if-not-has_allowed_tones.false)
    (sym c.is_period.ensures ∙ c.if-not-is_period.false))
    _ c.with_width-next.ensures
