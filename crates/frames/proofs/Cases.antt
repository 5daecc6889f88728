-- Case S and other lines: each is its frame.
use mathlib.Core.Path.{refl}
use Rattle.hexadecimal.specs.Digits.{digit_of, byte_of, bytes_of}
use Rattle.frames.specs.Frames.{are_capitals, framed, frame_of}
use Rattle.frames.specs.Cases.{CaseS, Others, Rows}

pub case_s_holds : CaseS
unfolding CaseS frame_of framed bytes_of byte_of digit_of
case_s_holds = refl

pub others : Others
unfolding Others frame_of framed bytes_of byte_of digit_of
others = refl

pub rows : Rows
unfolding Rows frame_of framed are_capitals bytes_of byte_of digit_of
rows = refl
