-- The values of a text's intervals, tones and periods: "Measure", and the numbers 7 and 8.
use Rattle.std.specs.Prelude.{List, [], ℕ, ℤ, pos, get_or, length, unwrap_or, Result}
use Rattle.cents.specs.Measure as measures
use Rattle.values.specs.Values.{Term, Origin, interval, pitch, base, Own, value_at, outcome}
use Rattle.values.specs.declared.Range.{Range}
use Rattle.values.specs.declared.Range.TheVariants.{Tone, Period}
use Rattle.values.specs.declared.Fault.{Fault}
use Rattle.program.specs.Program.{Declaration, ratio, root, sequence, frequency, from, system, anchor, width, fresh_period, onward_period, tones, pattern, logic, harmony, Placed, Program}

-- a value that is what it starts from
abbrev pub measured : Origin → Own
measured o = record { range = Tone; origin = o; terms = [] }

-- a sequence, which starts from the interval 0
abbrev pub sequenced : Range → List Term → Own
sequenced g ts = record { range = g; origin = interval (pos 0); terms = ts }

-- what a declaration has for its value: intervals, tones, and tone systems for their period; the others have no value, and stand at 0
abbrev pub own_of : Declaration → Own
own_of (ratio p q) = measured (interval (measures.ratio p q))
own_of (root a b) = measured (interval (measures.root a b))
own_of (sequence ts) = sequenced Tone ts
own_of (frequency f) = measured (pitch (measures.frequency f))
own_of (from k ts) = record { range = Tone; origin = base k; terms = ts }
own_of (system a l ts) = sequenced Period ts
own_of (anchor m) = sequenced Tone []
own_of (width m) = sequenced Tone []
own_of (fresh_period ts) = sequenced Tone []
own_of (onward_period ts) = sequenced Tone []
own_of (tones l) = sequenced Tone []
own_of pattern = sequenced Tone []
own_of (logic c s os) = sequenced Tone []
own_of (harmony ks) = sequenced Tone []

abbrev pub nothing : Placed
nothing = record { place = 0; is = sequence [] }

abbrev pub declaration_at : Program → ℕ → Declaration
declaration_at p i = (get_or p i nothing).is

abbrev pub own : Program → ℕ → Own
own p i = own_of (declaration_at p i)

-- the value of declaration i; of a text that is accepted every one is in its range
unfoldable pub value_of : Program → ℕ → ℤ
value_of p i = unwrap_or (value_at (own p) (length p) i) (pos 0)

-- 7, 8, or done
unfoldable pub valued : Program → Result Unit Fault
valued p = outcome (own p) (length p)
