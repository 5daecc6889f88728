-- A key and what it is shifted by, as 32 bits hold them; their sum is a byte.
use mathlib.Core.Path.{◌≡◌, ◌∙◌}
use mathlib.Core.Bool.{true}
use Prim.Native.Nat.{ℕ, ◌<◌, ◌≤◌}
use native.Mathlib.Omega.{arith}
use borrow.Author.Rules.{rules}
use lib.IntN.{ℤ, pos, nat_abs, ◌+ℤ◌}
use lib.Dec.{T}
use lib.Signed.{le_z, non_neg}
use mir.Facts.{to_z_pos, to_z-of_z}
use mir.Syntax.{w8, w32}
use mir.Val.{Fits, SFits, to_z, of_z}
use Rattle.integers.proofs.Signed.{signed, abs}
use Rattle.cents.specs.Passages.{key_shift}
use Rattle.cents.proofs.KeyNumber.shift.Goals.{Start}
use Rattle.cents.proofs.KeyNumber.shift.Goals as goal

module _ (a : ℕ) (z : ℤ) (byte : a < 256) (held : SFits w32 z) where
  whole : to_z w32 a +ℤ to_z w32 (of_z w32 z) ≡ key_shift a z
  whole = rw (to_z_pos w32 {n = a} (omega arith), to_z-of_z held)

  module _ (least : le_z (pos 0) (key_shift a z) ≡ true) (most : nat_abs (key_shift a z) ≤ 255) where
    sum_fits : SFits w32 (key_shift a z)
    sum_fits = omega (signed, abs (key_shift a z))

    fits : SFits w32 (to_z w32 a +ℤ to_z w32 (of_z w32 z))
    fits = rw whole sum_fits

    stored : to_z w32 (of_z w32 (to_z w32 a +ℤ to_z w32 (of_z w32 z))) ≡ key_shift a z
    stored = to_z-of_z fits ∙ whole

    casts : T (non_neg (key_shift a z)) × Fits w8 (nat_abs (key_shift a z))
    casts = (omega (signed, abs (key_shift a z)), record { fits = omega arith })

    key : pos (nat_abs (key_shift a z)) ≡ key_shift a z
    key = omega (signed, abs (key_shift a z))

pub overflow_add-result : goal.overflow_add-result
overflow_add-result c =
    let start = (goal.at.overflow_add-result c).Start in
    fits start.args.self.0 start.args.by.0 (search rules) (search rules) start.requires.0 start.requires.1

pub overflow_cast-result-2 : goal.overflow_cast-result-2
overflow_cast-result-2 c =
    let start = (goal.at.overflow_cast-result-2 c).Start in
    rw (stored start.args.self.0 start.args.by.0 (search rules) (search rules) start.requires.0 start.requires.1)
    (casts start.args.self.0 start.args.by.0 (search rules) (search rules) start.requires.0 start.requires.1)

pub returns : goal.returns
returns c =
    let start = (goal.at.returns c).Start in
    let a = start.args.self.0 in
    let z = start.args.by.0 in
    rw (stored a z (search rules) (search rules) start.requires.0 start.requires.1) (key a z (search rules) (search rules) start.requires.0 start.requires.1)
