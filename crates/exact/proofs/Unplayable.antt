-- Document 02, 6/13: what the bytes of a key's answer say of the book; then the worked streams, by computing. Assumes nothing.
use mathlib.Core.Path.{◌≡◌, refl, sym, ap, ◌∙◌, subst}
use mathlib.Core.List.{List}
use Rattle.std.specs.Prelude.{Option}
use Rattle.std.proofs.lemmas.Option.{same_Some}
use Rattle.std.specs.Option.{option_map_or}
use native.Mathlib.Omega.{arith}
use lib.Count.{count_leading_zeros}
use lib.IntN.{ℤ}
use Rattle.cents.specs.Log.{highest_bit, bits, L}
use Rattle.cents.specs.Measure.{measure, nearest}
use Rattle.values.proofs.Cases.{impossible}
use Rattle.values.specs.Values.{plus, total, shifted, ranged, value_at}
use Rattle.tables.specs.Layout.{written_all, joined, row_of}
use Rattle.filling.specs.Tables.{filled_from, tables_of}
use Rattle.validity.specs.Valid.{valid_tables, declaration_right, is_own, rows_right, declarations, kinds_from, parts_follow, orders_right, each_right, all_zero, all_nought}
use Rattle.tuning.specs.Scale.{Sound, muted, sounds}
use Rattle.tuning.specs.Tuning.{start, sound_of}
use Rattle.tuning.specs.Desk.{is_playable, called, first_failing, any_beyond}
use Rattle.tuning.specs.State.{valid_state, all_muted}
use Rattle.sets.specs.Sets.{has, added, removed, set_of, all, any}
use Rattle.harmonies.specs.Harmonies.{matches}
use Rattle.hexadecimal.specs.Digits.{digit_of, byte_of, bytes_of, hex_of, hexes}
use Rattle.hexadecimal.specs.Numbers.{twos, four_of}
use Rattle.frames.specs.Frames.{framed, frame_of}
use Rattle.answers.specs.Answer.{tones_bytes}
use Rattle.answers.specs.Told.{KeyTold}
use Rattle.protocol.specs.Triggers.{first_logic, first_order, struck}
use Rattle.protocol.specs.Steps.{call_on, desk_from, made_from, triggered, move_step}
use Rattle.protocol.specs.Answers.{letter_outcome, key_outcome, move_outcome, frame_outcome, answer_of}
use Rattle.protocol.specs.Streams.{desk_after, made_in, lines_of}
use Rattle.program.specs.Meaning.{value_of}
use Rattle.program.specs.TenOctaves as ten_octaves
use Rattle.program.specs.BothLimits as both_limits
use Rattle.program.specs.FarEnds as far_ends
use Rattle.program.specs.UnplayableChord as unplayableChord
use Rattle.program.proofs.Texts.{ten_octaves_read, both_limits_read, far_ends_read, unplayable_chord_read}
use Rattle.exact.specs.Entry.{Nearness, Within, Sharper}
use Rattle.exact.specs.Book.{Declared, Powers, entries, book_from, once}
use Rattle.exact.specs.Agreement.{KeyAgrees, both_silent, both_sound}
use Rattle.exact.specs.Actions.{declared_in, entry_within}
use Rattle.exact.specs.Claim.{book_after, fed_by, AnswerNear, told_silent, told_unplayable, told_pitch, Claimed, DemandThree, TighterDistance}
use Rattle.exact.specs.Unplayable.{Says, BytesSay, ten_octaves_frames, ten_octaves_lines, ten_octaves_calls, both_limits_frames, both_limits_lines, both_limits_calls}
use Rattle.exact.specs.Unplayable.{far_ends_frames, far_ends_lines, far_ends_calls, chord_frames, chord_lines, chord_calls, far_book, Whole}
use Rattle.exact.proofs.DemandThree.{demand_three, tighter_distance}
use Rattle.exact.proofs.Fed.{Answers, worked, fed}

-- ---- what the bytes say

module _ {near : Nearness} {ds : List (Option Declared)} where
  silent_book : {x : Sound Powers} → KeyAgrees near ds x muted → x ≡ muted
  silent_book both_silent = refl

  sounding_book : {x : Sound Powers} {z : ℤ} → KeyAgrees near ds x (sounds z) → x ≡ muted → ⊥
  sounding_book (both_sound h) e = impossible (cc)

  says : {x : Sound Powers} {told : KeyTold} → AnswerNear near ds x told → Says near ds x told
  says (told_silent h) = record { pitch = λ z e. impossible (cc); silent = λ e. silent_book h; no_other = λ e. refl }
  says (told_unplayable beyond h) =
      record { pitch = λ z e. impossible (cc); silent = λ e. absurd (omega arith); no_other = λ e. absurd (sounding_book h e) }
  says {x} (told_pitch {z = y} within h) =
      record {
        pitch = λ z e. let same : y ≡ z = cc in (ap is_playable (sym same) ∙ within, subst (λ (z : ℤ). KeyAgrees near ds x (sounds z)) same h);
        silent = λ e. absurd (omega arith);
        no_other = λ e. absurd (sounding_book h e);
      }

claimed_say : {near : Nearness} → Claimed near → BytesSay near
claimed_say {near} claimed text p e stream house key room a b c r told line =
    let h = (claimed text p e stream).answer house key room a b c r in
    let same = same_Some _ _ (sym h.line ∙ line) in
    subst (Says near (declared_in p) (sound_of entries (book_after p stream) key)) same (says h.agrees)

pub bytes_say : BytesSay Within
unfolding DemandThree
bytes_say = claimed_say demand_three

pub bytes_say_sharper : BytesSay Sharper
unfolding TighterDistance
bytes_say_sharper = claimed_say tighter_distance

-- ---- the worked streams

-- all at once, since what is computed is opened at each
answers : Answers ten_octaves.program ten_octaves_frames ten_octaves_lines ten_octaves_calls × Answers both_limits.program both_limits_frames both_limits_lines both_limits_calls
    × Answers far_ends.program far_ends_frames far_ends_lines far_ends_calls × Answers unplayableChord.program chord_frames chord_lines chord_calls
unfolding count_leading_zeros highest_bit bits L measure nearest plus total shifted ranged value_at value_of written_all joined row_of filled_from tables_of
    valid_tables declaration_right is_own rows_right declarations kinds_from parts_follow orders_right each_right all_zero all_nought called first_failing any_beyond valid_state
    all_muted has added removed set_of all any matches digit_of byte_of bytes_of framed frame_of first_logic first_order struck call_on desk_from made_from triggered move_step
    letter_outcome key_outcome move_outcome frame_outcome answer_of lines_of hex_of hexes twos four_of tones_bytes desk_after made_in
answers = ((refl, refl), (refl, refl), (refl, refl), (refl, refl))

-- the book, fed these calls
far : far_book ≡ book_from (start entries) (fed_by far_ends.program far_ends_calls)
unfolding far_book
far = fed far_ends.program far_ends_frames far_ends_calls answers.2.1

pub unplayable : Whole
unfolding entry_within once fed_by book_from
unplayable =
    record {
      ten_octaves = worked ten_octaves_read answers.0;
      both_limits = worked both_limits_read answers.1;
      far_ends = worked far_ends_read answers.2;
      chord = worked unplayable_chord_read answers.3;
      far_anchor = rw far;
      far_width = rw far;
      far_octaves = rw far;
      far_root = rw far;
    }
