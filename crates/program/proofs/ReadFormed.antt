-- The items of a text that is read to its end are formed as document 01 says, and no more than it allows.
-- Assumes nothing.
use mathlib.Core.Path.{◌≡◌}
use mathlib.Core.List.{List}
use Prim.Native.Nat.{ℕ}
use Rattle.status.specs.Status.{done}
use Rattle.grammar.specs.Reading.{read_items}
use Rattle.program.proofs.Formed.{FormedText}
use Rattle.program.proofs.Counted.{few_names, few_orders}
use Rattle.program.proofs.Shape.{read_shape}

pub read_formed : (text : List ℕ) → (read_items text).number ≡ done → FormedText (read_items text).items
read_formed text e = record { formed = read_shape text e; few = few_names text e; orders = few_orders text e }
