-- The changes are written, and the row says where they stand.
use mathlib.Core.Path.{ap}
use Prim.Native.Nat.{ℕ}
use lib.ListN.{length-map}
use Rattle.tuning.specs.declared.Retuning.TheVariants.{Tones}
use Rattle.tables.specs.declared.Row.TheVariants.{Retuning}
use Rattle.filling.proofs.rows.write_tones.Goals as goal

pub write_changes-end-requires : goal.write_changes-end-requires
write_changes-end-requires c =
    record { each = c.requires.parts; to_bound = rw length-map at c.requires.changes }

pub returns : goal.returns
returns c =
    let used = c.args.used in
    record { value = ap (λ (n : ℕ). Retuning Tones used.changes n) (simp length-map at c.write_changes-end.ensures.count); stored = c.write_changes-end.ensures.stored }
