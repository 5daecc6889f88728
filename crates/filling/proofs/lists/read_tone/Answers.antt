-- By the item; one that is no position gives no tone.
use borrow.Enum.Refused.{opened}
use mathlib.Core.Path.{sym, ap}
use mathlib.Core.List.{[], ◌∷◌, map}
use lib.IntN.{ℤ}
use Rattle.tuning.specs.declared.Tone.TheVariants.{At}
use Rattle.filling.specs.Tables.{tone_of}
use Rattle.filling.specs.Inner.{value_in}
use Rattle.filling.proofs.Inside.{inside, no_place}
use Rattle.filling.proofs.lists.read_tone.Goals as goal

pub pitch_at-requires : goal.pitch_at-requires
pitch_at-requires c = (rw c.in-TonePosition.is at c.requires).0

pub returns-in-MutedPosition : goal.returns-in-MutedPosition
returns-in-MutedPosition c = rw c.in-MutedPosition.is

pub returns-in-TonePosition : goal.returns-in-TonePosition
returns-in-TonePosition c = rw c.in-TonePosition.is (ap (λ (z : ℤ). At (record { 0 = z }) ∷ []) c.pitch_at.ensures)

pub returns-in_default : goal.returns-in_default
returns-in_default c = ap (map (tone_of (value_in c.args.values.now))) (sym (no_place (inside c.args.item) (opened c.in_default.in_default-own.keys3)))
