-- Worked examples of the definitions, each computed.
use mathlib.Core.Path.{◌≡◌, refl}
use Rattle.ascii.specs.Ascii.{bytes}
use Rattle.symbols.specs.Bytes.{is_digit, is_hex_digit, is_capital, small, take_while}
use Rattle.std.specs.Prelude.{None, Some}
use Rattle.numerals.specs.Numbers.{digit_of, numeral_after, numeral, before_point, places, ranged, ten_thousandths, point_of, decimal_of, whole_of}

-- all that the examples compute with
unfoldable opened : Unit {0}
unfolding is_digit is_hex_digit is_capital small take_while digit_of numeral_after numeral before_point places ranged ten_thousandths point_of decimal_of whole_of
opened = tt

-- "0.0001 to 429496.7295, at most four places"
least : decimal_of (bytes "0.0001") ≡ Some 1
unfolding opened
least = refl

greatest : decimal_of (bytes "429496.7295") ≡ Some 429496_7295
unfolding opened
greatest = refl

too_great : decimal_of (bytes "429496.7296") ≡ None
unfolding opened
too_great = refl

five_places : decimal_of (bytes "1.00000") ≡ None
unfolding opened
five_places = refl

greatest_hex : decimal_of (bytes "#68DB8") ≡ Some 429496_0000
unfolding opened
greatest_hex = refl

leading_zeros : whole_of 0 127 (bytes "0000060") ≡ Some 60
unfolding opened
leading_zeros = refl

hex_whole : whole_of 0 127 (bytes "#7f") ≡ Some 127
unfolding opened
hex_whole = refl

-- "a point where whole is asked"
point_where_whole : whole_of 0 127 (bytes "60.0") ≡ None
unfolding opened
point_where_whole = refl

above_range : whole_of 0 127 (bytes "128") ≡ None
unfolding opened
above_range = refl
