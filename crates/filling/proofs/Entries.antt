-- A declaration that can be written: the numbers of its row fit the table, and the row says how many there are then. Assumes nothing.
use mathlib.Core.Path.{◌≡◌}
use mathlib.Core.List.{List}
use Prim.Native.Nat.{ℕ, ◌+◌, ◌<◌, ◌^◌}
use native.Mathlib.Nat.{add-zero}
use native.Mathlib.Omega.{arith}
use lib.IntN.{ℤ, pos}
use lib.ListN.{length-map}
use mir.Syntax.{w32}
use mir.Val.{SFits}
use Rattle.integers.proofs.Signed.{signed}
use Rattle.tables.specs.declared.Counts.{Counts}
use Rattle.tables.specs.Layout.{numbers_of}
use Rattle.tables.specs.Values.{NumbersFit}
use Rattle.program.specs.Program.{Declaration, ratio, root, sequence, frequency, from, system, anchor, width, fresh_period, onward_period, tones, pattern, logic, harmony}
use Rattle.filling.specs.Tables.{sum_of, tone_of, change_of}
use Rattle.filling.specs.Inner.{value_in, Writable, row_after, one_more, counted_by, counted}
use Rattle.tuning.proofs.Caps.{capped_small}
use Rattle.tables.proofs.Rows.{harmony_fits}
use Rattle.harmonies.specs.Harmonies.{harmony_of}
use Rattle.filling.proofs.Naming.{harmony_small}

-- ---- the numbers of a row

small : {n : ℕ} → n < 2 ^ 31 → SFits w32 (pos n)
small h = record { sfits = h }

module _ (values : List ℤ) (used : Counts) where
  pub numbers_fit : (d : Declaration) → Writable values used d → NumbersFit (numbers_of (row_after (value_in values) used d))
  numbers_fit (ratio a b) w = record { second = small (omega arith); from = omega arith; to = omega arith }
  numbers_fit (root a b) w = record { second = small (omega arith); from = omega arith; to = omega arith }
  numbers_fit (sequence ts) w = record { second = small (omega arith); from = omega arith; to = omega arith }
  numbers_fit (frequency f) w = record { second = small (omega arith); from = omega arith; to = omega arith }
  numbers_fit (from k ts) w = record { second = small (omega arith); from = omega arith; to = omega arith }
  numbers_fit (system a l ts) w =
      let n = rw length-map at w.tones in
      record { second = omega (signed, w.value.small); from = omega arith; to = omega arith }
  numbers_fit (anchor m) w = record { second = small (omega (arith, w.parts)); from = omega arith; to = omega arith }
  numbers_fit (width m) w = record { second = small (omega (arith, w.parts)); from = omega arith; to = omega arith }
  numbers_fit (fresh_period ts) w = record { second = omega (signed, capped_small (sum_of (value_in values) ts)); from = omega arith; to = omega arith }
  numbers_fit (onward_period ts) w = record { second = omega (signed, capped_small (sum_of (value_in values) ts)); from = omega arith; to = omega arith }
  numbers_fit (tones l) w =
      let n = rw length-map at w.changes in
      record { second = small (omega arith); from = omega arith; to = omega arith }
  numbers_fit pattern w = record { second = small (omega arith); from = omega arith; to = omega arith }
  numbers_fit (logic c s os) w = record { second = small (omega (arith, w.parts.start)); from = omega (arith, w.orders); to = omega (arith, w.orders) }
  numbers_fit (harmony ks) w =
      let y = harmony_of ks in
      let s = harmony_small ks w.parts in
      harmony_fits y.needed y.named s.needed s.named

-- ---- how many there are then

module _ (value : ℕ → ℤ) (used : Counts) where
  same : one_more used used.tones used.changes used.orders ≡ one_more used (used.tones + 0) (used.changes + 0) (used.orders + 0)
  same = rw (add-zero used.tones, add-zero used.changes, add-zero used.orders)

  pub counted_same : (d : Declaration) → counted_by used (row_after value used d) ≡ counted value used d
  counted_same (ratio a b) = same
  counted_same (root a b) = same
  counted_same (sequence ts) = same
  counted_same (frequency f) = same
  counted_same (from k ts) = same
  counted_same (system a l ts) = rw (length-map l (tone_of value), add-zero used.changes, add-zero used.orders)
  counted_same (anchor m) = same
  counted_same (width m) = same
  counted_same (fresh_period ts) = same
  counted_same (onward_period ts) = same
  counted_same (tones l) = rw (length-map l (change_of value), add-zero used.tones, add-zero used.orders)
  counted_same (logic c s os) = rw (add-zero used.tones, add-zero used.changes)
  counted_same pattern = same
  counted_same (harmony ks) = same
