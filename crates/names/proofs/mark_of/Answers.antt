-- The tag leaves room for the kind's number.
use mathlib.Core.Path.{◌≡◌, refl}
use native.Mathlib.Omega.{arith}
use denote.Enum.Declared.{tag_of}
use Rattle.grammar.specs.declared.Kind.{Kind}
use Rattle.grammar.specs.declared.Kind.TheVariants.{Interval, Tone, System, Retuning, Logic, Order, Harmony}
use Rattle.grammar.specs.contracts.Kind as variants
use Rattle.grammar.specs.Moves.{kind_number}
use Rattle.symbols.specs.Names.{name_at}
use Rattle.names.proofs.Marks.{kind_few, tag_few}
use Rattle.names.proofs.mark_of.Goals.{After-tag_of}
use Rattle.names.proofs.mark_of.Goals as goal

-- a kind's number in the code is its number
kind_told : (k : Kind) → tag_of variants.the_type k ≡ kind_number k
kind_told Interval = refl
kind_told Tone = refl
kind_told System = refl
kind_told Retuning = refl
kind_told Logic = refl
kind_told Order = refl
kind_told Harmony = refl

pub overflow_mul-result : goal.overflow_mul-result
overflow_mul-result c = omega (arith, c.tag_of.ensures, tag_few (name_at c.args.text.now c.args.at))

pub overflow_add-result : goal.overflow_add-result
overflow_add-result c = omega (arith, overflow_mul-result (goal.at.overflow_add-result c).After-tag_of, kind_told c.args.kind, kind_few c.args.kind)
