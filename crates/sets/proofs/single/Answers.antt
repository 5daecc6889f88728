use mathlib.Core.Path.{ap, ◌∙◌}
use Prim.Native.Nat.{ℕ, ◌^◌, ◌%◌}
use native.Mathlib.Nat.{mod-eq_of_lt, one-mul}
use borrow.Author.Rules.{rules}
use lib.Pow.{pow-lt}
use Rattle.sets.proofs.single.Goals as goal

pub returns : goal.returns
returns c = let r = c.args.at in ap (λ (n : ℕ). n % 2 ^ 64) (one-mul (2 ^ r)) ∙ mod-eq_of_lt (pow-lt {i = r} {j = 64} c.requires)
