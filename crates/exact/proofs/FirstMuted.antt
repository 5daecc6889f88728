-- Document 02, 2/13, of the exact book: where position 0 sounds its distances are document 01's, and by whole periods every key keeps its entry; then the worked
-- streams, by computing. Assumes nothing.
use mathlib.Core.Path.{◌≡◌, refl, sym, fun_ext}
use Prim.Native.Nat.{◌<◌}
use Rattle.std.specs.Option.{option_map_or}
use lib.Count.{count_leading_zeros}
use Rattle.integers.proofs.Difference.{mul_assocℤ}
use Rattle.cents.specs.Log.{highest_bit, bits, L}
use Rattle.cents.specs.Measure.{measure, nearest}
use Rattle.values.specs.Values.{plus, total, shifted, ranged, value_at}
use Rattle.tables.specs.Layout.{written_all, joined, row_of}
use Rattle.filling.specs.Tables.{filled_from, tables_of}
use Rattle.validity.specs.Valid.{valid_tables, declaration_right, is_own, rows_right, declarations, kinds_from, parts_follow, orders_right, each_right, all_zero, all_nought}
use Rattle.tuning.specs.Tuning.{Tuning, width, start}
use Rattle.tuning.specs.FirstMuted.{SoundingFirst, WholePeriods}
use Rattle.tuning.specs.Desk.{called, first_failing, any_beyond}
use Rattle.tuning.specs.State.{valid_state, all_muted}
use Rattle.tuning.proofs.FirstMuted.{Steps, there_and_back, add_twice, sounding_first, whole_periods_holds}
use Rattle.sets.specs.Sets.{has, added, removed, set_of, all, any}
use Rattle.harmonies.specs.Harmonies.{matches}
use Rattle.hexadecimal.specs.Digits.{digit_of, byte_of, bytes_of}
use Rattle.frames.specs.Frames.{framed, frame_of}
use Rattle.protocol.specs.Triggers.{first_logic, first_order, struck}
use Rattle.protocol.specs.Steps.{call_on, desk_from, made_from, triggered, move_step}
use Rattle.protocol.specs.Answers.{letter_outcome, key_outcome, move_outcome, frame_outcome, answer_of}
use Rattle.hexadecimal.specs.Digits.{hex_of, hexes}
use Rattle.hexadecimal.specs.Numbers.{twos, four_of}
use Rattle.protocol.specs.Streams.{desk_after, made_in, lines_of}
use Rattle.program.specs.Meaning.{value_of}
use Rattle.program.specs.Pentatonic as pentatonic
use Rattle.program.specs.NineOctaves as nine_octaves
use Rattle.program.specs.MutedChord as muted_chord
use Rattle.program.proofs.Texts.{pentatonic_read, nine_octaves_read, muted_chord_read}
use Rattle.exact.specs.Book.{entries, book_from, once}
use Rattle.exact.specs.Actions.{entry_within}
use Rattle.exact.specs.Claim.{fed_by}
use Rattle.exact.specs.FirstMuted.{pentatonic_frames, pentatonic_lines, pentatonic_calls, nine_octaves_frames, nine_octaves_lines, nine_octaves_calls, muted_chord_frames, muted_chord_lines, muted_chord_calls, doubled_book, nine_book, chord_book, Whole}
use Rattle.exact.proofs.Fed.{Answers, worked, fed}

-- entries add up as whole numbers do, name by name
entries_steps : Steps entries
entries_steps =
    record {
      back = λ t d. fun_ext (λ n. there_and_back (t n) (d n));
      twice = λ t j k d. fun_ext (λ n. add_twice (t n) j k (d n));
      many = λ j k d. fun_ext (λ n. sym (mul_assocℤ j k (d n)));
    }

-- where position 0 sounds nothing changes, in the book either
pub book_sounding_first : SoundingFirst entries
book_sounding_first = sounding_first entries entries_steps

-- and by whole periods every key keeps its entry
pub book_whole_periods : (b : Tuning entries) → 0 < width entries b → WholePeriods entries b
book_whole_periods = whole_periods_holds entries entries_steps

-- what is answered and what is called, all at once, since what is computed is opened at each
answers : Answers pentatonic.program pentatonic_frames pentatonic_lines pentatonic_calls × Answers nine_octaves.program nine_octaves_frames nine_octaves_lines nine_octaves_calls
    × Answers muted_chord.program muted_chord_frames muted_chord_lines muted_chord_calls
unfolding count_leading_zeros highest_bit bits L measure nearest plus total shifted ranged value_at value_of written_all joined row_of filled_from tables_of
    valid_tables declaration_right is_own rows_right declarations kinds_from parts_follow orders_right each_right all_zero all_nought called first_failing any_beyond valid_state
    all_muted has added removed set_of all any matches digit_of byte_of bytes_of framed frame_of first_logic first_order struck call_on desk_from made_from triggered move_step
    letter_outcome key_outcome move_outcome frame_outcome answer_of lines_of hex_of hexes twos four_of desk_after made_in
answers = ((refl, refl), (refl, refl), (refl, refl))

-- the book, fed these calls
doubled : doubled_book ≡ book_from (start entries) (fed_by pentatonic.program pentatonic_calls)
unfolding doubled_book
doubled = fed pentatonic.program pentatonic_frames pentatonic_calls answers.0.1

nine : nine_book ≡ book_from (start entries) (fed_by nine_octaves.program nine_octaves_calls)
unfolding nine_book
nine = fed nine_octaves.program nine_octaves_frames nine_octaves_calls answers.1.1

chord : chord_book ≡ book_from (start entries) (fed_by muted_chord.program muted_chord_calls)
unfolding chord_book
chord = fed muted_chord.program muted_chord_frames muted_chord_calls answers.2.1

pub first_muted_holds : Whole
unfolding entry_within once fed_by book_from
first_muted_holds =
    record {
      pentatonic = worked pentatonic_read answers.0;
      nine_octaves = worked nine_octaves_read answers.1;
      muted_chord = worked muted_chord_read answers.2;
      doubled_width = rw doubled;
      doubled_period = rw doubled;
      still_silent = rw doubled;
      nine_period = rw nine;
      nine_width = rw nine;
      chord_anchor = rw chord;
      chord_silent = rw chord;
    }
