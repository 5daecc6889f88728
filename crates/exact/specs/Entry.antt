-- An entry: whole powers of numbers, and the exact value that it stands for. Document 01, "Exact comparison for demand 3".
use Rattle.std.specs.Prelude.{List, [], ◌∷◌, ℕ, zero, suc, ◌+◌, ◌*◌, ◌^◌, ℤ, pos, negsuc, nat_abs}
use Rattle.cents.specs.Distance.{Compared, Sharply}

-- A number: the degree-th root of over / under, in hertz where `hertz` is 1, and a bare ratio where it is 0. `counts` is 1 for a declared number, and 0
-- for the start's own.
pub record Number : Type 0 where
  pub degree : ℕ
  pub over : ℕ
  pub under : ℕ
  pub hertz : ℕ
  pub counts : ℕ

pub record Factor : Type 0 where
  pub power : ℤ
  pub of : Number

abbrev pub Entry : Type 0
Entry = List Factor

-- "N, the product of the root degrees in the key's entry": those of the numbers with a power other than 0
unfoldable pub degree_of : ℤ → ℕ → ℕ
degree_of (pos zero) A = 1
degree_of (pos (suc k)) A = A
degree_of (negsuc k) A = A

unfoldable pub degrees : Entry → ℕ
degrees [] = 1
degrees (f ∷ l) = degree_of f.power f.of.degree * degrees l

-- "w adds up the declared numbers' powers without their signs"
unfoldable pub weight : Entry → ℕ
weight [] = 0
weight (f ∷ l) = nat_abs f.power * f.of.counts + weight l

-- the upper part of (p/q)^e; its lower part is `part e q p`
unfoldable pub part : ℤ → ℕ → ℕ → ℕ
part (pos k) p q = p ^ k
part (negsuc k) p q = q ^ suc k

-- the exact value to the power `degrees l`, as a fraction: of x^e·r, with x^A and r^D whole fractions, the power A·D is ((x^A)^e)^D·(r^D)^A
unfoldable pub above : Entry → ℕ
above [] = 1
above (f ∷ l) = part f.power f.of.over f.of.under ^ degrees l * above l ^ degree_of f.power f.of.degree

unfoldable pub below : Entry → ℕ
below [] = 1
below (f ∷ l) = part f.power f.of.under f.of.over ^ degrees l * below l ^ degree_of f.power f.of.degree

-- "divide a key's exact frequency by 440 and raise that to N ..; this is a fraction u/v"
abbrev pub u : Entry → ℕ
u l = above l

abbrev pub v : Entry → ℕ
v l = below l * 440 ^ degrees l

-- a comparison over whole numbers, of N, w, u, v and d; and what it makes of an entry and d
abbrev pub Comparison : Type 1
Comparison = ℕ → ℕ → ℕ → ℕ → ℤ → Type 0

abbrev pub Nearness : Type 1
Nearness = Entry → ℤ → Type 0

-- the comparison holds at N and at every multiple of N
pub record AtMultiples (compared : Comparison) (l : Entry) (d : ℤ) : Type 0 where
  pub once : compared (degrees l) (weight l) (u l) (v l) d
  pub again : (k : ℕ) → compared (degrees l * k) (weight l) (u l ^ k) (v l ^ k) d

-- "With d the pitch that kind 02 then answers, less 6,900,000, a distance of at most w"
abbrev pub Within : Nearness
Within = AtMultiples Compared

-- document 02, 10/13: "51 hundredths of a thousandth suffice for each power, in document 01's comparison with a hundred times the exponents"
abbrev pub Sharper : Nearness
Sharper = AtMultiples Sharply
