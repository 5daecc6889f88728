-- The tones are written, and the row says where they stand.
use mathlib.Core.Path.{◌∙◌, ap}
use Prim.Native.Nat.{ℕ}
use lib.IntN.{ℤ}
use lib.ListN.{length-map}
use Rattle.tables.specs.declared.Row.TheVariants.{System}
use Rattle.filling.specs.Inner.{value_in}
use Rattle.filling.proofs.rows.write_system.Goals as goal

pub write_positions-end-requires : goal.write_positions-end-requires
write_positions-end-requires c =
    record { each = c.requires.parts.1; to_bound = rw length-map at c.requires.tones }

pub returns : goal.returns
returns c =
    let args = c.args in
    let used = args.used in
    let key = args.key in
    let z = value_in args.values.now used.rows in
    record {
      value = ap (λ (y : ℤ). System (record { 0 = key }) (record { 0 = y }) used.tones c.write_positions-end.result) c.interval_at.ensures
          ∙ ap (λ (n : ℕ). System (record { 0 = key }) (record { 0 = z }) used.tones n) (simp length-map at c.write_positions-end.ensures.count);
      stored = c.write_positions-end.ensures.stored;
    }
