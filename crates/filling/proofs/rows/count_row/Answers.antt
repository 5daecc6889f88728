-- By the row; one that has no list leaves the other counts as they are.
use borrow.Enum.Refused.{opened}
use mathlib.Core.Path.{◌≡◌, refl}
use mathlib.Core.List.{List, [], ◌∷◌}
use Prim.Native.Nat.{ℕ}
use types.Run.{OneOf, miss}
use denote.Enum.Declared.{tag_of}
use Rattle.tuning.specs.declared.Retuning.{Retuning as RetuningForm}
use Rattle.tuning.specs.declared.Retuning.TheVariants.{Anchor, Width, Period, Tones}
use Rattle.tuning.specs.contracts.Retuning as forms
use Rattle.tables.specs.declared.Counts.{Counts}
use Rattle.tables.specs.declared.Row.{Row}
use Rattle.tables.specs.declared.Row.TheVariants.{Unused, Interval, Tone, System, Retuning, Logic, Harmony, Pattern}
use Rattle.tables.specs.contracts.Row as rows
use Rattle.filling.specs.Inner.{one_more, counted_by}
use Rattle.filling.proofs.rows.count_row.Goals as goal

no_tones : (used : Counts) (r : RetuningForm) (m n : ℕ) → OneOf (0 ∷ 1 ∷ 2 ∷ []) (tag_of forms.the_type r)
    → one_more used used.tones used.changes used.orders ≡ counted_by used (Retuning r m n)
no_tones used (Anchor x) m n h = refl
no_tones used (Width x) m n h = refl
no_tones used (Period x) m n h = refl
no_tones used Tones m n h = absurd (miss (0 ∷ 1 ∷ 2 ∷ []) 3 tt h)

abbrev without_lists : List ℕ
without_lists = 0 ∷ 1 ∷ 2 ∷ 6 ∷ 7 ∷ []

no_list : (used : Counts) (r : Row) → OneOf without_lists (tag_of rows.the_type r) → one_more used used.tones used.changes used.orders ≡ counted_by used r
no_list used Unused h = refl
no_list used (Interval d) h = refl
no_list used (Tone p) h = refl
no_list used (System a P m n) h = absurd (miss without_lists 3 tt h)
no_list used (Retuning r m n) h = absurd (miss without_lists 4 tt h)
no_list used (Logic x s m n) h = absurd (miss without_lists 5 tt h)
no_list used (Harmony y z) h = refl
no_list used Pattern h = refl

pub returns-in-System : goal.returns-in-System
returns-in-System c = rw c.in-System.is

pub returns-in-Tones : goal.returns-in-Tones
returns-in-Tones c = rw (c.in-Retuning.is, c.in-Tones.is)

pub returns-in_default-retuning : goal.returns-in_default-retuning
returns-in_default-retuning c = rw c.in-Retuning.is (no_tones c.args.used c.in-Retuning.retuning c.in-Retuning.from c.in-Retuning.to (opened c.in_default-retuning.in_default-retuning-own.keys2))

pub returns-in-Logic : goal.returns-in-Logic
returns-in-Logic c = rw c.in-Logic.is

pub returns-in_default : goal.returns-in_default
returns-in_default c = no_list _ c.args.row (opened c.in_default.in_default-own.keys4)
