-- Division of a whole number by a positive one, rounded down: z = q·w + r with r from 0 to w - 1.
use Rattle.std.specs.Prelude.{ℕ, suc, ◌-◌, ◌/◌, ◌%◌, ℤ, pos, negsuc}

-- q; negsuc n is -(n + 1)
abbrev pub floor_div : ℤ → ℕ → ℤ
floor_div (pos n) w = pos (n / w)
floor_div (negsuc n) w = negsuc (n / w)

-- r
abbrev pub floor_mod : ℤ → ℕ → ℕ
floor_mod (pos n) w = n % w
floor_mod (negsuc n) w = w - suc (n % w)
