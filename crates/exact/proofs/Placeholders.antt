-- Document 02, 1/13: the worked streams, by computing. Assumes nothing.
use mathlib.Core.Path.{◌≡◌, refl}
use Rattle.std.specs.Option.{option_map_or}
use lib.Count.{count_leading_zeros}
use Rattle.cents.specs.Log.{highest_bit, bits, L}
use Rattle.cents.specs.Measure.{measure, nearest}
use Rattle.values.specs.Values.{plus, total, shifted, ranged, value_at}
use Rattle.tables.specs.Layout.{written_all, joined, row_of}
use Rattle.filling.specs.Tables.{filled_from, tables_of}
use Rattle.validity.specs.Valid.{valid_tables, declaration_right, is_own, rows_right, declarations, kinds_from, parts_follow, orders_right, each_right, all_zero, all_nought}
use Rattle.tuning.specs.Tuning.{start}
use Rattle.tuning.specs.Desk.{called, first_failing, any_beyond}
use Rattle.tuning.specs.State.{valid_state, all_muted}
use Rattle.sets.specs.Sets.{has, added, removed, set_of, all, any}
use Rattle.harmonies.specs.Harmonies.{matches}
use Rattle.hexadecimal.specs.Digits.{digit_of, byte_of, bytes_of, hex_of, hexes}
use Rattle.hexadecimal.specs.Numbers.{twos, four_of}
use Rattle.frames.specs.Frames.{framed, frame_of}
use Rattle.answers.specs.Answer.{tones_bytes}
use Rattle.protocol.specs.Triggers.{first_logic, first_order, struck}
use Rattle.protocol.specs.Steps.{call_on, desk_from, made_from, triggered, move_step}
use Rattle.protocol.specs.Answers.{letter_outcome, key_outcome, move_outcome, frame_outcome, answer_of}
use Rattle.protocol.specs.Streams.{desk_after, made_in, lines_of}
use Rattle.program.specs.Meaning.{value_of}
use Rattle.program.specs.NewAnchor as new_anchor
use Rattle.program.specs.Divisors as divisors
use Rattle.program.specs.Unneeded as unneeded
use Rattle.program.specs.OneName as one_name
use Rattle.program.proofs.Texts.{new_anchor_read, divisors_read, unneeded_read, one_name_read}
use Rattle.exact.specs.Book.{entries, book_from, once}
use Rattle.exact.specs.Actions.{entry_within}
use Rattle.exact.specs.Claim.{book_after, fed_by}
use Rattle.exact.specs.Placeholders.{new_anchor_frames, new_anchor_lines, new_anchor_calls, divisors_frames, divisors_lines, divisors_calls}
use Rattle.exact.specs.Placeholders.{unneeded_frames, unneeded_lines, unneeded_calls, one_name_frames, one_name_lines, one_name_calls, Whole}
use Rattle.exact.proofs.Fed.{Answers, worked, fed}

-- all at once, since what is computed is opened at each
answers : Answers new_anchor.program new_anchor_frames new_anchor_lines new_anchor_calls × Answers divisors.program divisors_frames divisors_lines divisors_calls
    × Answers unneeded.program unneeded_frames unneeded_lines unneeded_calls × Answers one_name.program one_name_frames one_name_lines one_name_calls
unfolding count_leading_zeros highest_bit bits L measure nearest plus total shifted ranged value_at value_of written_all joined row_of filled_from tables_of
    valid_tables declaration_right is_own rows_right declarations kinds_from parts_follow orders_right each_right all_zero all_nought called first_failing any_beyond valid_state
    all_muted has added removed set_of all any matches digit_of byte_of bytes_of framed frame_of first_logic first_order struck call_on desk_from made_from triggered move_step
    letter_outcome key_outcome move_outcome frame_outcome answer_of lines_of hex_of hexes twos four_of tones_bytes desk_after made_in
answers = ((refl, refl), (refl, refl), (refl, refl), (refl, refl))

-- the book, fed these calls
anchored : book_after new_anchor.program new_anchor_frames ≡ book_from (start entries) (fed_by new_anchor.program new_anchor_calls)
anchored = fed new_anchor.program new_anchor_frames new_anchor_calls answers.0.1

widened : book_after divisors.program divisors_frames ≡ book_from (start entries) (fed_by divisors.program divisors_calls)
widened = fed divisors.program divisors_frames divisors_calls answers.1.1

pub placeholders : Whole
unfolding entry_within once fed_by book_from
placeholders =
    record {
      new_anchor = worked new_anchor_read answers.0;
      divisors = worked divisors_read answers.1;
      unneeded = worked unneeded_read answers.2;
      one_name = worked one_name_read answers.3;
      anchor = rw anchored;
      width = rw widened;
    }
