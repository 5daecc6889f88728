-- Texts that are read by computation: case S is accepted, and declares what document 01 says; others are refused at their places.
use mathlib.Core.Path.{◌≡◌, refl}
use lib.Count.{count_leading_zeros}
use Rattle.symbols.specs.Bytes as symbolsBytes
use Rattle.symbols.specs.Symbols as symbolsSymbols
use Rattle.symbols.specs.Names as symbolsNames
use Rattle.symbols.specs.Words as symbolsWords
use Rattle.numerals.specs.Numbers as numeralsNumbers
use Rattle.sets.specs.Sets as sets
use Rattle.grammar.specs.Syntax as grammarSyntax
use Rattle.grammar.specs.Terminals as grammarTerminals
use Rattle.grammar.specs.Reading as grammarReading
use Rattle.names.specs.Names as namesNames
use Rattle.placeholders.specs.Placeholders as placeholders
use Rattle.placeholders.specs.Filling as filled
use Rattle.names.specs.Inner as namesInner
use Rattle.values.specs.Values as valuesValues
use Rattle.cents.specs.Log as centsLog
use Rattle.cents.specs.Measure as centsMeasure
use Rattle.program.specs.Program as Program
use Rattle.program.specs.Meaning as Meaning
use Rattle.program.specs.Text as Text
use Rattle.cents.specs.Sums.{Hold}
use Rattle.program.specs.CaseS.{text, program}
use Rattle.program.specs.TwoLogics as twoLogics
use Rattle.program.specs.Chords as chords
use Rattle.program.specs.FarTone as farTone
use Rattle.program.specs.Pentatonic as pentatonic
use Rattle.program.specs.NineOctaves as nine_octaves
use Rattle.program.specs.MutedChord as muted_chord
use Rattle.program.specs.TenOctaves as ten_octaves
use Rattle.program.specs.BothLimits as both_limits
use Rattle.program.specs.FarEnds as far_ends
use Rattle.program.specs.UnplayableChord as unplayableChord
use Rattle.program.specs.NewAnchor as new_anchor
use Rattle.program.specs.Divisors as divisors
use Rattle.program.specs.Unneeded as unneeded
use Rattle.program.specs.OneName as one_name
use Rattle.program.specs.FarStart as far_start
use Rattle.program.specs.Verdicts.{verdicts}

-- all at once, since what is computed is opened at each
read : (Text.read_text text ≡ Text.accepted program) × (Text.read_text twoLogics.text ≡ Text.accepted twoLogics.program)
    × (Text.read_text chords.text ≡ Text.accepted chords.program) × (Text.read_text farTone.text ≡ Text.accepted farTone.program)
    × (Text.read_text pentatonic.text ≡ Text.accepted pentatonic.program) × (Text.read_text nine_octaves.text ≡ Text.accepted nine_octaves.program)
    × (Text.read_text muted_chord.text ≡ Text.accepted muted_chord.program) × (Text.read_text ten_octaves.text ≡ Text.accepted ten_octaves.program)
    × (Text.read_text both_limits.text ≡ Text.accepted both_limits.program) × (Text.read_text far_ends.text ≡ Text.accepted far_ends.program)
    × (Text.read_text unplayableChord.text ≡ Text.accepted unplayableChord.program) × (Text.read_text new_anchor.text ≡ Text.accepted new_anchor.program)
    × (Text.read_text divisors.text ≡ Text.accepted divisors.program) × (Text.read_text unneeded.text ≡ Text.accepted unneeded.program)
    × (Text.read_text one_name.text ≡ Text.accepted one_name.program) × (Text.read_text far_start.text ≡ Text.accepted far_start.program) × Hold verdicts
unfolding Hold verdicts count_leading_zeros sets.has sets.added grammarSyntax.rules symbolsBytes.is_blank symbolsBytes.is_digit symbolsBytes.is_hex_digit symbolsBytes.is_capital
    symbolsBytes.is_letter symbolsBytes.in_name symbolsBytes.small symbolsBytes.take_while symbolsBytes.same symbolsSymbols.marks symbolsSymbols.mark_in
    symbolsSymbols.mark_or symbolsSymbols.mark_at symbolsSymbols.run_end symbolsSymbols.digits_to symbolsSymbols.pointed symbolsSymbols.decimal_at
    symbolsSymbols.hex_at symbolsSymbols.symbol_at symbolsSymbols.next_symbol symbolsSymbols.after symbolsSymbols.cut symbolsSymbols.symbols_from
    symbolsSymbols.symbols symbolsSymbols.symbol_from symbolsSymbols.after_comment symbolsNames.spelled symbolsNames.name_at symbolsNames.letter_of
    symbolsWords.words symbolsWords.word_in symbolsWords.word_of numeralsNumbers.digit_of numeralsNumbers.numeral_after numeralsNumbers.numeral
    numeralsNumbers.before_point numeralsNumbers.places numeralsNumbers.ranged numeralsNumbers.ten_thousandths numeralsNumbers.point_of
    numeralsNumbers.decimal_of numeralsNumbers.whole_of grammarTerminals.picked grammarTerminals.terminal_of grammarReading.acted grammarReading.stepped
    grammarReading.read_from grammarReading.read_items namesNames.declared namesNames.bearer_from namesNames.twice_from namesNames.called_in namesNames.resolved
    namesNames.meanings namesInner.beginnings_from placeholders.named placeholders.handed placeholders.is_among
    placeholders.fault_from filled.wanted_by filled.given filled.filled_from filled.filled_in filled.settled valuesValues.plus valuesValues.total valuesValues.shifted valuesValues.ranged valuesValues.value_at valuesValues.any_of valuesValues.leads
    valuesValues.is_beyond valuesValues.first_from valuesValues.verdict valuesValues.outcome valuesValues.numbers valuesValues.handed
    valuesValues.value_table centsLog.highest_bit centsLog.bits centsLog.L centsMeasure.nearest centsMeasure.measure Program.terms_of Program.system_positions_of
    Program.grouped Program.ordered Program.start_of Program.keys_of Program.parts_of Program.program_of Meaning.value_of Meaning.valued Text.read_text
read =
    (refl, refl, refl, refl, refl, refl, refl, refl, refl, refl, refl, refl, refl, refl, refl, refl, (refl, (refl, (refl, (refl, (refl, (refl, (refl, (refl, (refl, (refl, (refl, (refl, (refl, (refl, (refl, (refl, (refl, (refl, (refl, (refl, (refl, (refl, (refl, (refl, (refl, (refl, (refl, (refl, (refl, (refl, (refl, (refl, (refl, (refl, (refl, (refl, (refl, tt))))))))))))))))))))))))))))))))))))))

pub case_s_read : Text.read_text text ≡ Text.accepted program
case_s_read = read.0

pub two_logics_read : Text.read_text twoLogics.text ≡ Text.accepted twoLogics.program
two_logics_read = read.1

pub chords_read : Text.read_text chords.text ≡ Text.accepted chords.program
chords_read = read.2

pub far_tone_read : Text.read_text farTone.text ≡ Text.accepted farTone.program
far_tone_read = read.3

pub pentatonic_read : Text.read_text pentatonic.text ≡ Text.accepted pentatonic.program
pentatonic_read = read.4

pub nine_octaves_read : Text.read_text nine_octaves.text ≡ Text.accepted nine_octaves.program
nine_octaves_read = read.5

pub muted_chord_read : Text.read_text muted_chord.text ≡ Text.accepted muted_chord.program
muted_chord_read = read.6

pub ten_octaves_read : Text.read_text ten_octaves.text ≡ Text.accepted ten_octaves.program
ten_octaves_read = read.7

pub both_limits_read : Text.read_text both_limits.text ≡ Text.accepted both_limits.program
both_limits_read = read.8

pub far_ends_read : Text.read_text far_ends.text ≡ Text.accepted far_ends.program
far_ends_read = read.9

pub unplayable_chord_read : Text.read_text unplayableChord.text ≡ Text.accepted unplayableChord.program
unplayable_chord_read = read.10

pub new_anchor_read : Text.read_text new_anchor.text ≡ Text.accepted new_anchor.program
new_anchor_read = read.11

pub divisors_read : Text.read_text divisors.text ≡ Text.accepted divisors.program
divisors_read = read.12

pub unneeded_read : Text.read_text unneeded.text ≡ Text.accepted unneeded.program
unneeded_read = read.13

pub one_name_read : Text.read_text one_name.text ≡ Text.accepted one_name.program
one_name_read = read.14

pub far_start_read : Text.read_text far_start.text ≡ Text.accepted far_start.program
far_start_read = read.15

-- each of the texts of specs/Verdicts.antt is read as it says
pub verdicts_hold : Hold verdicts
verdicts_hold = read.16
