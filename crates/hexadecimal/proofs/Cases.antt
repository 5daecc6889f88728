-- Case S: each answer is its line.
use mathlib.Core.Path.{refl}
use Rattle.hexadecimal.specs.Digits.{hex_of, hexes}
use Rattle.hexadecimal.specs.Numbers.{twos, four_of}
use Rattle.hexadecimal.specs.Cases.{CaseS}

pub case_s_holds : CaseS
unfolding CaseS hex_of hexes twos four_of
case_s_holds = refl
