-- The worked stream of keys and chords, by computing. Assumes nothing.
use mathlib.Core.Path.{◌≡◌, refl}
use Rattle.std.specs.Option.{option_map_or}
use Rattle.values.specs.Values.{plus, total, shifted, ranged, value_at}
use Rattle.tables.specs.Layout.{written_all, joined, row_of}
use Rattle.filling.specs.Tables.{filled_from, tables_of}
use Rattle.validity.specs.Valid.{valid_tables, declaration_right, is_own, rows_right, declarations, kinds_from, parts_follow, orders_right, each_right, all_zero, all_nought}
use Rattle.tuning.specs.Tuning.{start}
use Rattle.tuning.specs.Desk.{called, first_failing, any_beyond}
use Rattle.tuning.specs.State.{valid_state, all_muted}
use Rattle.sets.specs.Sets.{has, added, removed, set_of, all, any}
use Rattle.harmonies.specs.Harmonies.{matches}
use Rattle.hexadecimal.specs.Digits.{digit_of, byte_of, bytes_of}
use Rattle.frames.specs.Frames.{framed, frame_of}
use Rattle.protocol.specs.Triggers.{first_logic, first_order, struck}
use Rattle.protocol.specs.Steps.{call_on, desk_from, made_from, triggered, move_step}
use Rattle.protocol.specs.Answers.{move_outcome, frame_outcome, answer_of}
use Rattle.hexadecimal.specs.Digits.{hex_of, hexes}
use Rattle.hexadecimal.specs.Numbers.{twos, four_of}
use Rattle.protocol.specs.Streams.{desk_after, made_in, lines_of}
use Rattle.program.specs.Meaning.{value_of}
use Rattle.program.specs.Chords.{program}
use Rattle.program.proofs.Texts.{chords_read}
use Rattle.exact.specs.Book.{entries, book_from, once}
use Rattle.exact.specs.Actions.{entry_within}
use Rattle.exact.specs.Claim.{fed_by, book_after}
use Rattle.exact.specs.Chords.{frames, lines, calls, Whole}
use Rattle.exact.proofs.Fed.{Answers, worked, fed}

-- the lines, and the calls
answers : Answers program frames lines calls
unfolding plus total shifted ranged value_at value_of written_all joined row_of filled_from tables_of valid_tables declaration_right is_own rows_right declarations
    kinds_from parts_follow orders_right each_right all_zero all_nought called first_failing any_beyond valid_state all_muted has added removed set_of all any matches
    digit_of byte_of bytes_of framed frame_of first_logic first_order struck call_on desk_from made_from triggered move_step move_outcome frame_outcome answer_of lines_of
    hex_of hexes twos four_of desk_after made_in
answers = (refl, refl)

-- the book, fed these calls
book : book_after program frames ≡ book_from (start entries) (fed_by program calls)
book = fed program frames calls answers.1

pub chords : Whole
unfolding entry_within once fed_by book_from
chords = record { worked = worked chords_read answers; anchor = rw book; width = rw book }
