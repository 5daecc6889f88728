-- The place of a declared name, which its item has.
-- Assumes nothing.
use mathlib.Core.Path.{◌≡◌, ◌∙◌, ap}
use mathlib.Core.List.{List}
use Prim.Native.Nat.{ℕ, ◌<◌}
use native.Mathlib.Omega.{arith}
use lib.ListN.{length, get_or}
use Rattle.grammar.specs.declared.Kind.{Kind}
use Rattle.grammar.specs.declared.Item.{Item}
use Rattle.grammar.specs.declared.Item.TheVariants.{Declared}
use Rattle.names.specs.Inner.{beginnings}
use Rattle.program.specs.Program.{program_of}
use Rattle.program.specs.Text.{place_of}
use Rattle.program.proofs.Bodies.{name_at, body_ordered, body_within}
use Rattle.valuation.specs.Inner.{Ready}

module _ {is : List Item} {starts : List ℕ} {d : ℕ} (w : Ready is starts) (h : d < length starts) where
  begins : get_or starts d 0 ≡ get_or (beginnings is) d 0
  begins = ap (λ (l : List ℕ). get_or l d 0) w.begun

  declared_there : d < length (beginnings is)
  declared_there = omega (arith, h, ap length w.begun)

  pub inside : get_or starts d 0 < length is
  inside = omega (arith, begins, body_ordered is d declared_there, body_within is d declared_there)

  -- the item that declares the name
  pub declared_here : (none : Item) → (k : Kind) × (get_or is (get_or starts d 0) none ≡ Declared k (place_of (program_of is) d))
  declared_here none =
      let n = name_at is d declared_there none in
      (n.0, ap (λ (k : ℕ). get_or is k none) begins ∙ n.1)
