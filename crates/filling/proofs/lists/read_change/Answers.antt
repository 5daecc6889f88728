-- By the item with which a position begins; another one gives no change.
use borrow.Enum.Refused.{opened}
use Prim.Native.Nat.{ℕ}
use mathlib.Core.Path.{◌≡◌, sym, ◌∙◌, ap, ap₂, subst}
use mathlib.Core.List.{List, [], ◌∷◌, map}
use lib.IntN.{ℤ, ◌+ℤ◌}
use Rattle.tuning.specs.declared.ToneChange.TheVariants.{Move, Set}
use Rattle.grammar.specs.declared.Item.{Item}
use Rattle.grammar.specs.declared.Item.TheVariants as item
use Rattle.names.specs.Parts.{part}
use Rattle.values.specs.Values.{Term}
use Rattle.program.specs.Allowed.{Each}
use Rattle.tuning.specs.Capped.{capped}
use Rattle.filling.specs.Tables.{change_of}
use Rattle.filling.specs.Inner.{value_in, position_by, FitValue, Summable, FitPosition}
use Rattle.filling.proofs.Inside.{inside, no_position}
use Rattle.filling.proofs.Terms.{sum_limit}
use Rattle.filling.proofs.lists.read_change.Goals as goal

module _ {x : Item} (values : List ℤ) (ts : List Term) (h : Each (FitPosition values) (position_by (part x) ts)) where
  -- a position that begins with `@`
  kept_fit : x ≡ item.KeptPosition → Summable values ts
  kept_fit q = (subst (λ (y : Item). Each (FitPosition values) (position_by (part y) ts)) q h).0

  -- and one that begins with a tone
  tone_fit : {k : ℕ} → x ≡ item.TonePosition k → FitValue values k × Summable values ts
  tone_fit q = (subst (λ (y : Item). Each (FitPosition values) (position_by (part y) ts)) q h).0

pub sum_group-requires : goal.sum_group-requires
sum_group-requires c = kept_fit _ _ c.requires c.in-KeptPosition.is

pub sum_group-sum-requires : goal.sum_group-sum-requires
sum_group-sum-requires c = (tone_fit _ _ c.requires c.in-TonePosition.is).1

pub pitch_at-requires : goal.pitch_at-requires
pitch_at-requires c = (tone_fit _ _ c.requires c.in-TonePosition.is).0

pub shift-requires : goal.shift-requires
shift-requires c = rw c.sum_group-sum.ensures (sum_limit (tone_fit _ _ c.requires c.in-TonePosition.is).1)

pub returns-in-MutedPosition : goal.returns-in-MutedPosition
returns-in-MutedPosition c = rw c.in-MutedPosition.is

pub returns-in-KeptPosition : goal.returns-in-KeptPosition
returns-in-KeptPosition c = rw c.in-KeptPosition.is (ap (λ (z : ℤ). Move (record { 0 = z }) ∷ []) (c.to_interval.ensures ∙ ap capped c.sum_group.ensures))

pub returns-in-TonePosition : goal.returns-in-TonePosition
returns-in-TonePosition c =
    rw c.in-TonePosition.is (ap (λ (z : ℤ). Set (record { 0 = z }) ∷ []) (c.shift.ensures ∙ ap capped (ap₂ (λ (x y : ℤ). x +ℤ y) c.pitch_at.ensures c.sum_group-sum.ensures)))

pub returns-in_default : goal.returns-in_default
returns-in_default c =
    ap (map (change_of (value_in c.args.values.now))) (sym (no_position (inside c.args.item) (opened c.in_default.in_default-own.keys4) _))
