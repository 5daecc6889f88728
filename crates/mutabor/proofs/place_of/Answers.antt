-- The item with which the declaration begins declares its name.
use mathlib.Core.Path.{◌≡◌, sym, ◌∙◌}
use Prim.Native.Nat.{ℕ}
use Rattle.grammar.specs.declared.Kind.{Kind}
use Rattle.grammar.specs.declared.Item.TheVariants.{Declared}
use Rattle.mutabor.proofs.NamePlaces.{inside, declared_here}
use Rattle.mutabor.proofs.place_of.Goals as goal

-- an item declares one place
same_place : {k l : Kind} {p q : ℕ} → Declared k p ≡ Declared l q → p ≡ q
same_place e = cc

pub bounds : goal.bounds
bounds c = inside c.requires.ready c.requires.d_in_bounds

pub bounds-items-starts : goal.bounds-items-starts
bounds-items-starts c = inside c.requires.ready c.requires.d_in_bounds

pub unreachable-requires : goal.unreachable-requires
unreachable-requires c = let n = declared_here c.requires.ready c.requires.d_in_bounds _ in absurd (c.in_default.not-Declared _ _ n.1)

pub returns : goal.returns
returns c = let n = declared_here c.requires.ready c.requires.d_in_bounds _ in same_place (sym c.in-Declared.is ∙ n.1)
