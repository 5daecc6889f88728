use mathlib.Core.Path.{sym, ap, ◌∙◌}
use Prim.Native.Nat.{ℕ, ◌%◌}
use native.Mathlib.Nat.{mod_self, mod-eq_of_lt}
use native.Mathlib.Omega.{arith}
use Rattle.harmonies.proofs.next_position.Goals as goal

pub returns-then-r-width : goal.returns-then-r-width
returns-then-r-width c = sym (ap (λ (n : ℕ). n % c.args.width) c.if-r-width.true ∙ mod_self c.args.width)

pub returns : goal.returns
returns c = sym (mod-eq_of_lt (omega arith))
