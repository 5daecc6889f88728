-- Case S as a stream: the desk and the book agree on it and on any other stream of frames; after its frames key 71 stands at 7EB526 on the desk,
-- and in the book it has `a` once and the fifth twice, with N = 1 and w = 3.
use mathlib.Core.Path.{◌≡◌, refl, ap, subst}
use mathlib.Core.List.{List, [], ◌∷◌, map}
use Rattle.std.specs.Option.{option_map_or}
use Prim.Native.Nat.{ℕ, zero, ◌+◌, ◌-◌, ◌*◌, ◌^◌, ◌≤◌, ◌<◌}
use native.Mathlib.Omega.{arith}
use lib.Count.{count_leading_zeros}
use lib.IntN.{ℤ, pos, ◌+ℤ◌, ◌-ℤ◌}
use Rattle.integers.specs.Parts.{up, dn}
use Rattle.integers.proofs.Difference.{is_add, is_diff, is_pos}
use Rattle.integers.proofs.Powers.{Under, under_less, under_ratio_pow}
use Rattle.cents.specs.Log.{highest_bit, bits, L}
use Rattle.cents.specs.Measure.{measure, nearest, pitch440}
use Rattle.cents.specs.Distance.{Compared, hundredfold, fewest, Sharply}
use Rattle.cents.proofs.Near.{parted, suffices}
use Rattle.values.proofs.Cases.{impossible}
use Rattle.values.specs.Values.{plus, total, shifted, ranged, value_at}
use Rattle.program.specs.Program.{Program}
use Rattle.program.specs.Meaning.{value_of}
use Rattle.program.specs.CaseS.{text, program}
use Rattle.program.proofs.Texts.{case_s_read}
use Rattle.tables.specs.Layout.{written_all, joined, row_of}
use Rattle.filling.specs.Tables.{filled_from, tables_of}
use Rattle.validity.specs.Valid.{valid_tables, declaration_right, is_own, rows_right, declarations, kinds_from, parts_follow, orders_right, each_right, all_zero, all_nought}
use Rattle.tuning.specs.Scale.{Sound, sounds}
use Rattle.tuning.specs.Tuning.{Tuning, sound_of, start}
use Rattle.tuning.specs.Desk.{cents, called, first_failing, any_beyond}
use Rattle.tuning.specs.State.{held, valid_state, all_muted}
use Rattle.hexadecimal.specs.Digits.{digit_of, byte_of, bytes_of}
use Rattle.frames.specs.Frames.{framed, frame_of}
use Rattle.protocol.specs.Triggers.{first_logic, first_order, struck}
use Rattle.protocol.specs.Steps.{Made, call_on, desk_from, made_from, triggered}
use Rattle.protocol.specs.Answers.{start_desk, letter_outcome, key_outcome, frame_outcome, answer_of}
use Rattle.hexadecimal.specs.Digits.{hex_of, hexes}
use Rattle.hexadecimal.specs.Numbers.{twos, four_of}
use Rattle.answers.specs.Answer.{tones_bytes}
use Rattle.protocol.specs.Streams.{Lent, desk_after, made_in, lines_of}
use Rattle.exact.specs.Entry.{Factor, Entry, degree_of, degrees, weight, part, above, below, u, v, Comparison, Nearness, AtMultiples, Sharper}
use Rattle.exact.specs.Book.{Powers, entries, number, start440, start_root, once, numbered, numbers_of, written, book_from}
use Rattle.exact.specs.Agreement.{KeyAgrees, both_silent, both_sound}
use Rattle.exact.specs.Actions.{declared_in, entry_within}
use Rattle.exact.specs.Claim.{fed_by, StreamSharper}
use Rattle.exact.specs.CaseS.{Whole, frames, entry_in, entry71, Between, Within71, Sharper71}
use Rattle.exact.proofs.Claim.{stream_sharper}
use Rattle.exact.proofs.Fed.{fed}

pub case_s_holds : Whole
unfolding count_leading_zeros highest_bit bits L measure nearest plus total shifted ranged value_at value_of written_all joined row_of filled_from tables_of
    valid_tables declaration_right is_own rows_right declarations kinds_from parts_follow orders_right each_right all_zero all_nought called first_failing any_beyond valid_state all_muted digit_of byte_of bytes_of
    framed frame_of first_logic first_order struck call_on desk_from made_from triggered letter_outcome key_outcome frame_outcome answer_of lines_of hex_of hexes twos
    four_of tones_bytes
case_s_holds = record { read = case_s_read; answered = refl }

pub case_s_sharper : (stream : List Lent) → StreamSharper program stream
case_s_sharper = stream_sharper text program case_s_read

-- Two, and Up twice, each taken
abbrev calls : List Made
calls = record { called = 4; number = 0 } ∷ record { called = 5; number = 0 } ∷ record { called = 5; number = 0 } ∷ []

-- the calls that the frames make; and "020247 .. 02024700007EB526": the pitch of key 71 after them, less 6,900,000 the d of the comparison
pub desk_71 : (made_in (tables_of program) start_desk frames ≡ calls)
    × (sound_of cents (held (desk_after (tables_of program) start_desk frames).tuning) 71 ≡ sounds (pos 0x7eb526))
unfolding count_leading_zeros highest_bit bits L measure nearest plus total shifted ranged value_at value_of written_all joined row_of filled_from tables_of
    valid_tables declaration_right is_own rows_right declarations kinds_from parts_follow orders_right each_right all_zero all_nought called first_failing any_beyond valid_state all_muted digit_of byte_of bytes_of
    framed frame_of first_logic first_order struck call_on desk_from made_from triggered letter_outcome key_outcome frame_outcome answer_of desk_after made_in
desk_71 = (refl, refl)

fed_71 : entry71 ≡ entry_in program (sound_of entries (book_from (start entries) (fed_by program calls)) 71)
unfolding entry71
fed_71 = ap (λ (b : Tuning entries). entry_in program (sound_of entries b 71)) (fed program frames calls desk_71.0)

-- the powers of 440, the twelfth root of 2, Octave, Fifth and a; N and w; u / v = (440·(3/2)^2) / 440, written in ten-thousandths
pub book_71 : (map (λ (f : Factor). f.power) entry71 ≡ pos 0 ∷ pos 0 ∷ pos 0 ∷ pos 2 ∷ pos 1 ∷ []) × (degrees entry71 ≡ 1) × (weight entry71 ≡ 3)
    × (u entry71 ≡ 30000 ^ 2 * 4400000) × (v entry71 ≡ 20000 ^ 2 * 10000 * 440)
unfolding entry_within once fed_by book_from numbers_of numbered written number start440 start_root degrees degree_of weight above
    below part
book_71 = rw fed_71 (refl, refl, refl, refl, refl)

pub sounding_near : {near : Nearness} (p : Program) {x : Sound Powers} {y : Sound ℤ} {z : ℤ} → KeyAgrees near (declared_in p) x y → y ≡ sounds z
    → near (entry_in p x) (z -ℤ pitch440)
sounding_near p both_silent e = impossible (cc)
sounding_near {near} p {z} (both_sound {e} {z = y} h) q =
    let same : y ≡ z = cc in
    subst (λ (d : ℤ). near (written (numbers_of (declared_in p)) e) (d -ℤ pitch440)) same h

near_71 : Sharper entry71 (pos 1403910)
unfolding entry71
near_71 = sounding_near program ((case_s_sharper frames).key 71) desk_71.1

pub in_numbers : (compared : Comparison) {l : Entry} {N w x y : ℕ} {d : ℤ} → degrees l ≡ N → weight l ≡ w → u l ≡ x → v l ≡ y → AtMultiples compared l d → compared N w x y d
in_numbers compared eN ew eu ev h = rw (eu, ev, ew, eN) at h.once

-- so (3/2)^2 is at most 3 times 51 hundredths of a thousandth of a cent from 1,403,910 of them, and at most 3 whole ones
pub sharply_71 : Sharply 1 3 (30000 ^ 2 * 4400000) (20000 ^ 2 * 10000 * 440) (pos 1403910)
sharply_71 = let b = book_71 in in_numbers Sharply b.1 b.2 b.3 b.4 near_71

pub compared_71 : Compared 1 3 (30000 ^ 2 * 4400000) (20000 ^ 2 * 10000 * 440) (pos 1403910)
compared_71 = suffices (pos 1403910) sharply_71

-- ---- the same as a power of 9/4

module _ (w u v d p q : ℕ) (over : zero < u) (under : zero < v) (same : u * q ≡ p * v) where
  between : (E a b : ℕ) → Under a 0 (v ^ E) (u ^ E) → Under 0 b (u ^ E) (v ^ E) → Between a b p q E
  between E a b h k =
      let l = under_ratio_pow E v u q p under same h in
      let m = under_ratio_pow E u v p q over (omega arith) k in
      record { low = omega (arith, l.le); high = omega (arith, m.le) }

  between_sharply : fewest * w ≤ 100 * d → Sharply 1 w u v (pos d) → Between (100 * d - fewest * w) (100 * d + fewest * w) p q hundredfold
  between_sharply least h =
      let s = parted (pos d) h in
      between hundredfold (100 * d - fewest * w) (100 * d + fewest * w) (under_less (omega arith) s.0) (under_less (omega arith) s.1)

  between_compared : w ≤ d → Compared 1 w u v (pos d) → Between (d - w) (d + w) p q 1200000
  between_compared least h =
      let i = (is_diff (pos d) (pos w) (is_pos d) (is_pos w)).eq in
      let j = (is_add (pos d) (pos w) (is_pos d) (is_pos w)).eq in
      let low : Under (1 * up (pos d -ℤ pos w)) (1 * dn (pos d -ℤ pos w)) (v ^ 1200000) (u ^ 1200000) = record { le = h.low } in
      let high : Under (1 * dn (pos d +ℤ pos w)) (1 * up (pos d +ℤ pos w)) (u ^ 1200000) (v ^ 1200000) = record { le = h.high } in
      between 1200000 (d - w) (d + w) (under_less (omega arith) low) (under_less (omega arith) high)

pub sharper_71 : Sharper71
sharper_71 = between_sharply 3 (30000 ^ 2 * 4400000) (20000 ^ 2 * 10000 * 440) 1403910 9 4 (omega arith) (omega arith) refl (omega arith) sharply_71

pub within_71 : Within71
within_71 = between_compared 3 (30000 ^ 2 * 4400000) (20000 ^ 2 * 10000 * 440) 1403910 9 4 (omega arith) (omega arith) refl (omega arith) compared_71
