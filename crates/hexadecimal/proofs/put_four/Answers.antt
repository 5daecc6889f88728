-- Four bytes behind each other are all four.
use mathlib.Core.Path.{refl}
use Rattle.hexadecimal.specs.Numbers.{four_of}
use Rattle.hexadecimal.proofs.Written.{written_then}
use Rattle.hexadecimal.proofs.put_four.Goals as goal

pub returns : goal.returns
unfolding four_of
returns c =
    let one = rw c.to_be_bytes.ensures at c.put_byte.ensures in
    let two = written_then _ _ _ _ _ one (rw c.to_be_bytes.ensures at c.put_byte-2.ensures) refl in
    let three = written_then _ _ _ _ _ two (rw c.to_be_bytes.ensures at c.put_byte-3.ensures) refl in
    written_then _ _ _ _ _ three (rw c.to_be_bytes.ensures at c.put_byte-4.ensures) refl
