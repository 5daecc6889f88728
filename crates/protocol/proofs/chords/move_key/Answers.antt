-- `protocol::chords::move_key` meets its contract, by the way. Assumes nothing.
use Rattle.protocol.proofs.chords.move_key.Goals as goal

pub returns-in-Down : goal.returns-in-Down
returns-in-Down c = rw c.in-Down.is c.press.ensures

pub returns-in-Up : goal.returns-in-Up
returns-in-Up c = rw c.in-Up.is c.release.ensures
