-- What the contracts cite: where each declaration's own items stand, and what they have for its value.
use Rattle.std.specs.Prelude.{◌≡◌, Bool, true, false, cond, List, [], ◌∷◌, ℕ, suc, ◌+◌, ◌≤◌, ◌<◌, pos, length, get_or, Option, Some, None}
use Rattle.grammar.specs.declared.Item.{Item}
use Rattle.names.specs.Parts as parts
use Rattle.names.specs.Parts.{Part, declares, gives, uses, says, part}
use Rattle.names.specs.Inner.{beginnings}
use Rattle.cents.specs.Measure as measures
use Rattle.values.specs.Values as values
use Rattle.values.specs.Values.{Own, Origin, interval, pitch, base}
use Rattle.values.specs.declared.Range.{Range}
use Rattle.values.specs.declared.Range.TheVariants as range
use Rattle.values.specs.declared.Row.{Row}
use Rattle.values.specs.Rows.{terms_per_row, own_in, Declared}
use Rattle.limits.specs.Limits.{most_factor, most_rows}
use Rattle.program.specs.Program.{form_of, Program, program_of}
use Rattle.program.specs.Meaning.{own_of, own}
use Rattle.program.specs.Allowed.{Allowed, Each, Decimal, Degree}
use Rattle.valuation.specs.declared.Content.{Content}
use Rattle.valuation.specs.declared.Content.TheVariants.{Ratio, Root, Frequency, Period, Tone, Term}

-- the items of declaration d stand from one place to another
abbrev pub body_from : List Item → ℕ → ℕ
body_from is d = get_or (beginnings is) d 0 + 1

abbrev pub body_to : List Item → ℕ → ℕ
body_to is d = get_or (beginnings is) (suc d) (length is)

-- `starts` has where each declaration of the items begins, and their program keeps document 01's limits
pub record Ready (is : List Item) (starts : List ℕ) : Type 0 where
  pub begun : starts ≡ beginnings is
  pub allowed : Allowed (program_of is)

-- ---- what an item has for the value of its declaration

abbrev pub content_of : Part → Option Content
content_of (declares k p) = None
content_of (gives parts.ratio a b) = Some (Ratio a b)
content_of (gives parts.root a b) = Some (Root a b)
content_of (gives parts.frequency a b) = Some (Frequency a)
content_of (gives parts.anchor_key a b) = Some Period
content_of (gives (parts.amount f) a b) = None
content_of (gives (parts.wanting f) a b) = None
content_of (gives parts.placeholder a b) = None
content_of (gives parts.argument a b) = None
content_of (gives parts.letter a b) = None
content_of (gives parts.key a b) = None
content_of (gives parts.starred_key a b) = None
content_of (uses parts.add f n) = Some (Term false f n)
content_of (uses parts.subtract f n) = Some (Term true f n)
content_of (uses parts.base f n) = Some (Tone n)
content_of (uses parts.position f n) = None
content_of (uses parts.start f n) = None
content_of (uses parts.order f n) = None
content_of (uses parts.trigger f n) = None
content_of (says m) = None

-- the first of a declaration's items tells the form of its value
abbrev pub content_at : List Item → Option Content
content_at [] = None
content_at (i ∷ is) = content_of (part i)

abbrev pub range_by : Option Content → Range
range_by (Some (Ratio p q)) = range.Tone
range_by (Some (Root a b)) = range.Tone
range_by (Some (Frequency f)) = range.Tone
range_by (Some Period) = range.Period
range_by (Some (Tone k)) = range.Tone
range_by (Some (Term m f k)) = range.Tone
range_by None = range.Tone

abbrev pub origin_by : Option Content → Origin
origin_by (Some (Ratio p q)) = interval (measures.ratio p q)
origin_by (Some (Root a b)) = interval (measures.root a b)
origin_by (Some (Frequency f)) = pitch (measures.frequency f)
origin_by (Some Period) = interval (pos 0)
origin_by (Some (Tone k)) = base k
origin_by (Some (Term m f k)) = interval (pos 0)
origin_by None = interval (pos 0)

-- whether the terms among its items are those of its value
abbrev pub has_terms : Option Content → Bool
has_terms (Some (Ratio p q)) = false
has_terms (Some (Root a b)) = false
has_terms (Some (Frequency f)) = false
has_terms (Some Period) = true
has_terms (Some (Tone k)) = true
has_terms (Some (Term m f k)) = true
has_terms None = false

-- ts are the terms among its items
abbrev pub own_by : Option Content → List values.Term → Own
own_by x ts = record { range = range_by x; origin = origin_by x; terms = cond (has_terms x) ts [] }

-- the term that an item is, if it is one
abbrev pub term_in : Option Content → Option values.Term
term_in (Some (Ratio p q)) = None
term_in (Some (Root a b)) = None
term_in (Some (Frequency f)) = None
term_in (Some Period) = None
term_in (Some (Tone k)) = None
term_in (Some (Term m f k)) = Some (record { minus = m; factor = f; of = k })
term_in None = None

-- ---- what can be put into the rows of the values

-- its numbers have a measure, and its base a number
abbrev pub Measurable : Option Content → Type 0
Measurable (Some (Ratio p q)) = Decimal p × Decimal q
Measurable (Some (Root a b)) = Degree a × Decimal b
Measurable (Some (Frequency f)) = Decimal f
Measurable (Some Period) = Unit
Measurable (Some (Tone k)) = k < most_rows
Measurable (Some (Term m f k)) = Unit
Measurable None = Unit

-- a term of one of n declarations; "factor: whole, 0 to 999"
pub record Small (n : ℕ) (t : values.Term) : Type 0 where
  pub factor : t.factor ≤ most_factor
  pub of : t.of < n

-- terms that a row can hold
pub record Holdable (ts : List values.Term) : Type 0 where
  pub few : length ts ≤ terms_per_row
  pub small : Each (Small most_rows) ts

-- the declaration of these items goes into a row
pub record Gatherable (is : List Item) : Type 0 where
  pub measurable : Measurable (content_at is)
  pub terms : Holdable (own_of (form_of is)).terms

-- the rows hold all declarations of a program
pub record Gathered (p : Program) (rows : List Row) : Type 0 where
  pub declared : Declared rows
  pub own_all : (i : ℕ) → own_in rows i ≡ own p i
