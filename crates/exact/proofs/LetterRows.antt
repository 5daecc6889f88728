-- Document 02, 3/13: the worked streams, by computing. Assumes nothing.
use mathlib.Core.Path.{◌≡◌, refl}
use mathlib.Core.List.{get_last_d}
use Rattle.std.specs.Option.{option_map_or}
use lib.Count.{count_leading_zeros}
use Rattle.cents.specs.Log.{highest_bit, bits, L}
use Rattle.cents.specs.Measure.{measure, nearest}
use Rattle.values.specs.Values.{plus, total, shifted, ranged, value_at}
use Rattle.tables.specs.Layout.{written_all, joined, row_of}
use Rattle.filling.specs.Tables.{filled_from, tables_of}
use Rattle.validity.specs.Valid.{valid_tables, declaration_right, is_own, rows_right, declarations, kinds_from, parts_follow, orders_right, each_right, all_zero, all_nought}
use Rattle.tuning.specs.Tuning.{start}
use Rattle.tuning.specs.Desk.{called, first_failing, any_beyond}
use Rattle.tuning.specs.State.{valid_state, all_muted}
use Rattle.hexadecimal.specs.Digits.{digit_of, byte_of, bytes_of, hex_of, hexes}
use Rattle.hexadecimal.specs.Numbers.{twos, four_of}
use Rattle.frames.specs.Frames.{are_capitals, framed, frame_of}
use Rattle.answers.specs.Answer.{tones_bytes}
use Rattle.protocol.specs.Triggers.{first_logic, first_order, struck}
use Rattle.protocol.specs.Steps.{call_on, desk_from, made_from, triggered, pressed_in_turn}
use Rattle.protocol.specs.Answers.{letter_row_outcome, key_outcome, frame_outcome, answer_of}
use Rattle.protocol.specs.Streams.{desk_after, made_in, lines_of}
use Rattle.program.specs.Meaning.{value_of}
use Rattle.program.specs.CaseS as case_s
use Rattle.program.specs.FarStart as far_start
use Rattle.program.proofs.Texts.{case_s_read, far_start_read}
use Rattle.exact.specs.Book.{entries, book_from, once}
use Rattle.exact.specs.Actions.{entry_within}
use Rattle.exact.specs.Claim.{book_after, fed_by}
use Rattle.exact.specs.LetterRows.{case_s_frames, case_s_lines, case_s_calls, far_start_frames, far_start_lines, far_start_calls, Whole}
use Rattle.exact.proofs.Fed.{Answers, worked, fed}

-- both at once, since what is computed is opened at each
answers : Answers case_s.program case_s_frames case_s_lines case_s_calls × Answers far_start.program far_start_frames far_start_lines far_start_calls
unfolding get_last_d count_leading_zeros highest_bit bits L measure nearest plus total shifted ranged value_at value_of written_all joined row_of filled_from tables_of
    valid_tables declaration_right is_own rows_right declarations kinds_from parts_follow orders_right each_right all_zero all_nought called first_failing any_beyond valid_state
    all_muted digit_of byte_of bytes_of are_capitals framed frame_of first_logic first_order struck call_on desk_from made_from triggered pressed_in_turn
    letter_row_outcome key_outcome frame_outcome answer_of lines_of hex_of hexes twos four_of tones_bytes desk_after made_in
answers = ((refl, refl), (refl, refl))

-- the book, fed these calls
in_row : book_after case_s.program case_s_frames ≡ book_from (start entries) (fed_by case_s.program case_s_calls)
in_row = fed case_s.program case_s_frames case_s_calls answers.0.1

raised : book_after far_start.program far_start_frames ≡ book_from (start entries) (fed_by far_start.program far_start_calls)
raised = fed far_start.program far_start_frames far_start_calls answers.1.1

pub letter_rows : Whole
unfolding entry_within once fed_by book_from
letter_rows = record {
  case_s = worked case_s_read answers.0;
  far_start = worked far_start_read answers.1;
  anchor = rw in_row;
  width = rw in_row;
  raised = rw raised;
}
