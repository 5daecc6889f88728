-- From the present order on the same is found as among all.
use mathlib.Core.Path.{◌≡◌}
use Rattle.tables.specs.Layout.{order_width}
use Rattle.protocol.specs.Inner.{sounds_in}
use Rattle.protocol.proofs.Audible.{Sounding}
use Rattle.protocol.proofs.chords.find_sounding.Given as goal

abbrev pub invariant-loop-order : goal.invariant-loop-order
invariant-loop-order l = (l.order-iterator.size ≡ order_width) × Sounding l.rows (sounds_in l.rows l.chord) l.orders l.order-iterator.rest.now
