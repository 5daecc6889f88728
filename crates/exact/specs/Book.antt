-- The exact book. Document 01, "State and retunings", last paragraph.
use Rattle.std.specs.Prelude.{Bool, true, false, cond, List, [], ◌∷◌, ℕ, suc, ℤ, pos, ◌+ℤ◌, ◌-ℤ◌, ◌*ℤ◌, eqb, Option, Some, None}
use Rattle.cents.specs.Measure.{one}
use Rattle.tuning.specs.Scale.{Scale}
use Rattle.tuning.specs.Tuning.{Tuning, Action, done}
use Rattle.tuning.specs.Desk.{if_taken}
use Rattle.exact.specs.Entry.{Number, Entry}

-- ---- "A declared number is one declaration's frequency, `p : q` or `A ROOT B`", each part in ten-thousandths

pub data Declared : Type 0 where
  frequency : ℕ → Declared
  ratio root : ℕ → ℕ → Declared

unfoldable pub number : Declared → Number
number (frequency f) = record { degree = 1; over = f; under = one; hertz = 1; counts = 1 }
number (ratio p q) = record { degree = 1; over = p; under = q; hertz = 0; counts = 1 }
number (root A B) = record { degree = A; over = B; under = one; hertz = 0; counts = 1 }

-- "the start's 440" and "the twelfth root of 2", which are not declared
unfoldable pub start440 : Number
start440 = record { degree = 1; over = 440; under = 1; hertz = 1; counts = 0 }

unfoldable pub start_root : Number
start_root = record { degree = 12; over = 2; under = 1; hertz = 0; counts = 0 }

-- ---- "An entry gives a whole power to each of these, to the start's 440 and to the twelfth root of 2"

pub data Name : Type 0 where
  the440 the_root : Name
  declared : ℕ → Name

abbrev pub Powers : Type 0
Powers = Name → ℤ

abbrev pub same_name : Name → Name → Bool
same_name the440 the440 = true
same_name the440 the_root = false
same_name the440 (declared j) = false
same_name the_root the440 = false
same_name the_root the_root = true
same_name the_root (declared j) = false
same_name (declared i) the440 = false
same_name (declared i) the_root = false
same_name (declared i) (declared j) = eqb i j

-- one number once
unfoldable pub once : Name → Powers
once n m = cond (same_name n m) (pos 1) (pos 0)

-- "sequences and tones add entries, by factor and sign"
abbrev pub entries : Scale
entries = record {
  Tone = Powers;
  Step = Powers;
  shift = λ t d n. t n +ℤ d n;
  distance = λ t u n. t n -ℤ u n;
  none = λ n. pos 0;
  add = λ d e n. d n +ℤ e n;
  times = λ k d n. k *ℤ d n;
  start440 = once the440;
  start_root = once the_root;
}

-- the numbers of a text by their names: what each declaration has of its own, if it is a number
pub record Named : Type 0 where
  pub name : Name
  pub number : Number

unfoldable pub numbered : ℕ → List (Option Declared) → List Named
numbered i [] = []
numbered i (Some d ∷ l) = record { name = declared i; number = number d } ∷ numbered (suc i) l
numbered i (None ∷ l) = numbered (suc i) l

unfoldable pub numbers_of : List (Option Declared) → List Named
numbers_of ds = record { name = the440; number = start440 } ∷ record { name = the_root; number = start_root } ∷ numbered 0 ds

-- an entry as a list of the numbers with their powers
unfoldable pub written : List Named → Powers → Entry
written [] e = []
written (n ∷ ns) e = record { power = e n.name; of = n.number } ∷ written ns e

-- ---- the book, fed the calls with their numbers

-- a call of a tone system or retuning as the book works it out, and the number that it got
pub record Made : Type 0 where
  pub call : Action entries
  pub number : ℕ

-- "A call with number 0 does what its line above says, with entries for pitches and intervals and no checks. Any other number changes nothing."
unfoldable pub book_from : Tuning entries → List Made → Tuning entries
book_from b [] = b
book_from b (m ∷ ms) = book_from (if_taken m.number (done entries b m.call) b) ms
