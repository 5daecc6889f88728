-- The first i places hold the start's tones; all twelve are those of the definition, by computing.
use mathlib.Core.Path.{◌≡◌, refl, sym, ap, ◌∙◌}
use mathlib.Core.List.{List}
use Prim.Native.Nat.{ℕ, ◌<◌}
use native.Mathlib.Omega.{arith}
use lib.IntN.{ℤ, pos, ◌*ℤ◌}
use lib.ListN.{replicate, length-replicate}
use mir.Syntax.{w32}
use mir.Val.{to_z}
use mir.ValLaws.{to_z_pos}
use Rattle.integers.proofs.Signed.{signed}
use Rattle.cents.specs.Passages.{shift}
use Rattle.tuning.specs.Tuning.{start}
use Rattle.tuning.specs.Desk.{cents}
use Rattle.tuning.specs.State.{coded, places}
use Rattle.tuning.specs.declared.Tone.{Tone}
use Rattle.tuning.specs.declared.Tone.TheVariants.{At}
use Rattle.tuning.proofs.Part.{part, part_none, part_next}
use Rattle.tuning.proofs.Valid.{none}
use Rattle.tuning.proofs.State.start.Invariants.{started}
use Rattle.tuning.proofs.State.start.Goals as goal

read : (i : ℕ) → i < 12 → to_z w32 i ≡ pos i
read i h = to_z_pos w32 i (omega arith)

all : part started 12 (replicate places none) ≡ (coded (start cents)).tones
unfolding part
all = refl

pub loop-i-init : goal.loop-i-init
loop-i-init c = sym (part_none started (replicate places none))

pub times-requires : goal.times-requires
times-requires c = rw (read c.loop-i.i (omega arith)) (omega signed)

pub shift-requires : goal.shift-requires
shift-requires c = rw (c.times.ensures ∙ ap (λ (z : ℤ). z *ℤ pos 100_000) (read c.loop-i.i (omega arith))) (omega signed)

pub loop-i-preserved : goal.loop-i-preserved
loop-i-preserved c = part_next started (replicate places none) none c.loop-i.invariant (omega (arith, length-replicate {A = Tone} 60 none))
    (ap (λ (z : ℤ). At (record { 0 = z })) (c.shift.ensures ∙ ap (shift (pos 6_000_000)) (c.times.ensures ∙ ap (λ (z : ℤ). z *ℤ pos 100_000) (read c.loop-i.i (omega arith)))))

pub returns : goal.returns
returns c =
    let e : c.loop-i.i ≡ 12 = omega arith in
    ap (λ (l : List Tone). record { anchor = record { 0 = 60 }; width = 12; tones = l; period = record { 0 = pos 1_200_000 } })
    (c.loop-i.invariant ∙ ap (λ (i : ℕ). part started i (replicate places none)) e ∙ all)
