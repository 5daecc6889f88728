-- A set of numbers as one number: r is in it when bit r is 1, counted from the lowest.
use Rattle.std.specs.Prelude.{Bool, true, false, cond, not, ◌&&◌, ◌||◌, ℕ, zero, suc, ◌+◌, ◌-◌, ◌*◌, ◌/◌, ◌%◌, ◌^◌, eqb}

-- whether r is in the set
unfoldable pub has : ℕ → ℕ → Bool
has n zero = eqb (n % 2) 1
has n (suc r) = has (n / 2) r

-- the set and r, the set without r
unfoldable pub added : ℕ → ℕ → ℕ
added n r = cond (has n r) n (n + 2 ^ r)

unfoldable pub removed : ℕ → ℕ → ℕ
removed n r = cond (has n r) (n - 2 ^ r) n

-- the set of those of the first n numbers that pass a test
unfoldable pub set_of : ℕ → (ℕ → Bool) → ℕ
set_of zero f = 0
set_of (suc n) f = cond (f 0) 1 0 + set_of n (λ r. f (suc r)) * 2

-- whether all, or any, of the first n numbers pass a test
unfoldable pub all : ℕ → (ℕ → Bool) → Bool
all zero f = true
all (suc n) f = f 0 && all n (λ r. f (suc r))

unfoldable pub any : ℕ → (ℕ → Bool) → Bool
any zero f = false
any (suc n) f = f n || any n f

abbrev pub implies : Bool → Bool → Bool
implies a b = not a || b
