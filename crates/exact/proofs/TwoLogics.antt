-- The second worked stream, by computing. Assumes nothing.
use mathlib.Core.Path.{◌≡◌, refl}
use Rattle.std.specs.Option.{option_map_or}
use lib.Count.{count_leading_zeros}
use Rattle.cents.specs.Log.{highest_bit, bits, L}
use Rattle.cents.specs.Measure.{measure, nearest}
use Rattle.values.specs.Values.{plus, total, shifted, ranged, value_at}
use Rattle.tables.specs.Layout.{written_all, joined, row_of}
use Rattle.filling.specs.Tables.{filled_from, tables_of}
use Rattle.validity.specs.Valid.{valid_tables, declaration_right, is_own, rows_right, declarations, kinds_from, parts_follow, orders_right, each_right, all_zero, all_nought}
use Rattle.tuning.specs.Tuning.{start}
use Rattle.tuning.specs.Desk.{called, first_failing, any_beyond}
use Rattle.tuning.specs.State.{valid_state, all_muted}
use Rattle.hexadecimal.specs.Digits.{digit_of, byte_of, bytes_of}
use Rattle.frames.specs.Frames.{framed, frame_of}
use Rattle.protocol.specs.Triggers.{first_logic, first_order, struck}
use Rattle.protocol.specs.Steps.{call_on, desk_from, made_from, triggered}
use Rattle.protocol.specs.Answers.{letter_outcome, key_outcome, frame_outcome, answer_of}
use Rattle.hexadecimal.specs.Digits.{hex_of, hexes}
use Rattle.hexadecimal.specs.Numbers.{twos, four_of}
use Rattle.answers.specs.Answer.{tones_bytes}
use Rattle.protocol.specs.Streams.{desk_after, made_in, lines_of}
use Rattle.program.specs.Meaning.{value_of}
use Rattle.program.specs.TwoLogics.{program}
use Rattle.program.proofs.Texts.{two_logics_read}
use Rattle.exact.specs.Book.{entries, book_from, once}
use Rattle.exact.specs.Actions.{entry_within}
use Rattle.exact.specs.Claim.{fed_by, book_after}
use Rattle.exact.specs.TwoLogics.{frames, lines, calls, Whole}
use Rattle.exact.proofs.Fed.{Answers, worked, fed}

-- the lines, and the calls
answers : Answers program frames lines calls
unfolding count_leading_zeros highest_bit bits L measure nearest plus total shifted ranged value_at value_of written_all joined row_of filled_from tables_of valid_tables
    declaration_right is_own rows_right declarations kinds_from parts_follow orders_right each_right all_zero all_nought called first_failing any_beyond valid_state
    all_muted digit_of byte_of bytes_of framed frame_of first_logic first_order struck call_on desk_from made_from triggered letter_outcome key_outcome frame_outcome answer_of
    lines_of hex_of hexes twos four_of tones_bytes desk_after made_in
answers = (refl, refl)

-- the book, fed these calls
book : book_after program frames ≡ book_from (start entries) (fed_by program calls)
book = fed program frames calls answers.1

pub two_logics : Whole
unfolding entry_within once fed_by book_from
two_logics =
    record { worked = worked two_logics_read answers; anchor = rw book; width = rw book }
