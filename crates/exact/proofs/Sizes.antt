-- What the start's own numbers measure: 440 hertz nothing, the twelfth root of 2 a hundred cents.
use mathlib.Core.Path.{◌≡◌, refl}
use lib.Count.{count_leading_zeros}
use lib.IntN.{pos}
use Rattle.cents.specs.Log.{highest_bit, bits, L}
use Rattle.cents.specs.Measure.{nearest, measure}
use Rattle.exact.specs.Book.{start440, start_root}
use Rattle.exact.proofs.EntryNear.{size_of}

pub size_440 : size_of start440 ≡ pos 0
unfolding size_of start440 measure nearest L bits highest_bit count_leading_zeros
size_440 = refl

pub size_root : size_of start_root ≡ pos 100000
unfolding size_of start_root measure nearest L bits highest_bit count_leading_zeros
size_root = refl
