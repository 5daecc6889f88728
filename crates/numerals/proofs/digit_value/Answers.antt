-- A digit is that of the library.
use Rattle.numerals.proofs.Values.{digit_read}
use Rattle.numerals.proofs.digit_value.Goals as goal

pub returns : goal.returns
returns c = digit_read _ c.from.ensures _ c.to_digit.ensures.value c.unwrap_or.ensures
