-- A whole number z is up z - dn z, two natural numbers of which one is 0.
use Rattle.std.specs.Prelude.{ℕ, suc, ℤ, pos, negsuc}

-- z where z is above 0, else 0
abbrev pub up : ℤ → ℕ
up (pos n) = n
up (negsuc n) = 0

-- -z where z is below 0, else 0; negsuc n is -(n + 1)
abbrev pub dn : ℤ → ℕ
dn (pos n) = 0
dn (negsuc n) = suc n
