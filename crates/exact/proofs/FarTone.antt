-- Fewer than 51 hundredths would be too few: after the frames of specs/FarTone.antt key 69 stands at 82BBE4 on the desk, and in the book it has `d` once, with
-- N = 1 and w = 1; and 1153 hertz lie more than fifty hundredths of a thousandth of a cent above that pitch. Assumes nothing.
use mathlib.Core.Path.{◌≡◌, refl, ap}
use mathlib.Core.List.{List, [], ◌∷◌}
use Rattle.std.specs.Option.{option_map_or}
use Prim.Native.Nat.{ℕ, ◌<◌}
use lib.Count.{count_leading_zeros}
use lib.IntN.{pos}
use Rattle.cents.specs.Log.{highest_bit, bits, L}
use Rattle.cents.specs.Measure.{measure, nearest}
use Rattle.cents.specs.Distance.{InHundredths, fewest}
use Rattle.cents.proofs.FarTone.{too_far}
use Rattle.values.specs.Values.{plus, total, shifted, ranged, value_at}
use Rattle.program.specs.Meaning.{value_of}
use Rattle.program.specs.FarTone.{program}
use Rattle.program.proofs.Texts.{far_tone_read}
use Rattle.tables.specs.Layout.{written_all, joined, row_of}
use Rattle.filling.specs.Tables.{filled_from, tables_of}
use Rattle.validity.specs.Valid.{valid_tables, declaration_right, is_own, rows_right, declarations, kinds_from, parts_follow, orders_right, each_right, all_zero, all_nought}
use Rattle.tuning.specs.Scale.{sounds}
use Rattle.tuning.specs.Tuning.{Tuning, sound_of, start}
use Rattle.tuning.specs.Desk.{cents, called, first_failing, any_beyond}
use Rattle.tuning.specs.State.{held, valid_state, all_muted}
use Rattle.hexadecimal.specs.Digits.{digit_of, byte_of, bytes_of}
use Rattle.frames.specs.Frames.{framed, frame_of}
use Rattle.protocol.specs.Triggers.{first_logic, first_order, struck}
use Rattle.protocol.specs.Steps.{Made, call_on, desk_from, made_from, triggered}
use Rattle.protocol.specs.Answers.{start_desk, letter_outcome, key_outcome, frame_outcome, answer_of}
use Rattle.hexadecimal.specs.Digits.{hex_of, hexes}
use Rattle.hexadecimal.specs.Numbers.{twos, four_of}
use Rattle.answers.specs.Answer.{tones_bytes}
use Rattle.protocol.specs.Streams.{desk_after, made_in, lines_of}
use Rattle.exact.specs.Entry.{degree_of, degrees, weight, part, above, below, u, v, AtMultiples}
use Rattle.exact.specs.Book.{entries, number, start440, start_root, once, numbered, numbers_of, written, book_from}
use Rattle.exact.specs.Actions.{entry_within}
use Rattle.exact.specs.Claim.{fed_by}
use Rattle.exact.specs.CaseS.{entry_in}
use Rattle.exact.specs.TwoLogics.{call}
use Rattle.exact.specs.FarTone.{frames, lines, Whole, entry69, NoFewer}
use Rattle.exact.proofs.Fed.{fed}
use Rattle.exact.proofs.CaseS.{sounding_near, in_numbers}

-- One, taken
abbrev calls : List Made
calls = call 2 0 ∷ []

-- the lines, the calls, and the pitch of key 69
desk : (lines_of (tables_of program) start_desk frames ≡ lines) × (made_in (tables_of program) start_desk frames ≡ calls)
    × (sound_of cents (held (desk_after (tables_of program) start_desk frames).tuning) 69 ≡ sounds (pos 0x82bbe4))
unfolding count_leading_zeros highest_bit bits L measure nearest plus total shifted ranged value_at value_of written_all joined row_of filled_from tables_of
    valid_tables declaration_right is_own rows_right declarations kinds_from parts_follow orders_right each_right all_zero all_nought called first_failing any_beyond valid_state all_muted digit_of byte_of bytes_of
    framed frame_of first_logic first_order struck call_on desk_from made_from triggered letter_outcome key_outcome frame_outcome answer_of lines_of hex_of hexes twos
    four_of tones_bytes desk_after made_in
desk = (refl, refl, refl)

pub far_tone : Whole
far_tone = record { read = far_tone_read; answered = desk.0 }

fed_69 : entry69 ≡ entry_in program (sound_of entries (book_from (start entries) (fed_by program calls)) 69)
unfolding entry69
fed_69 = ap (λ (b : Tuning entries). entry_in program (sound_of entries b 69)) (fed program frames calls desk.1)

book : (degrees entry69 ≡ 1) × (weight entry69 ≡ 1) × (u entry69 ≡ 11530000) × (v entry69 ≡ 4400000)
unfolding entry_within once fed_by book_from numbers_of numbered written number start440 start_root degrees degree_of weight above
    below part
book = rw fed_69 (refl, refl, refl, refl)

not_near : (h : ℕ) → h < fewest → AtMultiples (InHundredths h) entry69 (pos 1667780) → ⊥
not_near h few x = too_far h few (in_numbers (InHundredths h) book.0 book.1 book.2 book.3 x)

pub no_fewer : NoFewer
unfolding NoFewer entry69
no_fewer h few agrees = not_near h few (sounding_near program (agrees.key 69) desk.2)
