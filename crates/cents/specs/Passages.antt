-- "A pitch is a place, an interval a distance, a key number neither, and one never stands for another." Shift and distance are the only passages between
-- them: pitches and intervals in thousandths of a cent, keys by their numbers.
use Rattle.std.specs.Prelude.{ℕ, ℤ, pos, ◌+ℤ◌, ◌-ℤ◌}
use Rattle.std.proofs.Math.IntN.{sub_ℕ}

-- the pitch that lies an interval above p
abbrev pub shift : ℤ → ℤ → ℤ
shift p d = p +ℤ d

-- how far p lies above q
abbrev pub distance : ℤ → ℤ → ℤ
distance p q = p -ℤ q

-- a key's number is a byte
abbrev pub most_key : ℕ
most_key = 255

-- the key that lies so many keys above x
abbrev pub key_shift : ℕ → ℤ → ℤ
key_shift x n = pos x +ℤ n

-- how many keys x lies above a
abbrev pub key_distance : ℕ → ℕ → ℤ
key_distance x a = sub_ℕ x a
