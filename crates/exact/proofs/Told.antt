-- The line that answers a frame of kind 02 tells the sound of the key, as far as an instrument has it: the frame is read back from its digits, and the number and the
-- pitch from their bytes. Assumes nothing.
use mathlib.Core.Path.{◌≡◌, refl, ap, ◌∙◌}
use mathlib.Core.Bool.{Bool, true, false, cond}
use mathlib.Core.List.{List, [], ◌∷◌}
use Rattle.std.specs.Prelude.{Option}
use Rattle.std.specs.Option.{option_map_or}
use Prim.Native.Nat.{ℕ, ◌≤◌}
use native.Mathlib.Omega.{arith}
use borrow.Author.Tests.{le-ltb, le-leb}
use lib.IntN.{ℤ}
use Rattle.status.specs.Status.{done, key_unplayable}
use Rattle.tuning.specs.Scale.{Sound, muted, sounds}
use Rattle.tuning.specs.Desk.{is_playable}
use Rattle.tables.specs.Layout.{Tables}
use Rattle.validity.specs.Valid.{valid_tables}
use Rattle.program.specs.Program.{Program}
use Rattle.program.specs.Text.{accepted, read_text}
use Rattle.program.proofs.AllowedText.{accepted_allowed}
use Rattle.filling.specs.Tables.{tables_of}
use Rattle.mutabor.proofs.ValidTables.{accepted_valid}
use Rattle.frames.specs.Frames as frames
use Rattle.frames.specs.Frames.{first_house, second_house, key_kind, last_key, framed, frame_of}
use Rattle.hexadecimal.proofs.RoundTrip.{bytes_back}
use Rattle.answers.specs.Answer.{smallest_buffer}
use Rattle.answers.specs.Told.{told_by}
use Rattle.protocol.specs.declared.Desk.{Desk}
use Rattle.protocol.specs.Answers.{start_desk, Outcome, key_outcome, frame_outcome, answer_of}
use Rattle.protocol.specs.Unplayable.{told_of}
use Rattle.protocol.specs.Streams.{Lent, desk_after}
use Rattle.protocol.proofs.Stays.{Right, right_valid, start_right, stream_right}
use Rattle.protocol.proofs.Unplayable.{asked_told}
use Rattle.exact.specs.Entry.{Nearness}
use Rattle.exact.specs.Book.{Declared, Powers}
use Rattle.exact.specs.Agreement.{KeyAgrees}
use Rattle.exact.specs.Claim.{key_frame, KeyAnswered, AnswerNear, told_silent, told_unplayable, told_pitch}

-- a house, and a key of the keyboard
module _ (house key : ℕ) (least : first_house ≤ house) (most : house ≤ second_house) (low : key ≤ last_key) where
  -- the frame is read back from its digits
  frame_back : frame_of (key_frame house key) ≡ frames.key house key
  unfolding frame_of framed
  frame_back =
      rw (
        bytes_back (house ∷ key_kind ∷ key ∷ []) (omega arith, (omega arith, (omega arith, tt))),
        le-leb first_house house least,
        le-leb house second_house most,
        le-leb key last_key low,
      )

  asked : (t : Tables) (v : valid_tables t ≡ true) (d : Desk) → Right t v d → (room : ℕ) → smallest_buffer ≤ room
      → answer_of t d (key_frame house key) room ≡ key_outcome d house key
  unfolding answer_of frame_outcome
  asked t v d r room h = rw (le-ltb room smallest_buffer h, right_valid t v d r, frame_back)

  pub stream_told : (text : List ℕ) (p : Program) → read_text text ≡ accepted p → (stream : List Lent) (room : ℕ) → smallest_buffer ≤ room
      → KeyAnswered p stream house key room
  unfolding key_outcome
  stream_told text p e stream room h =
      let t = tables_of p in
      let v = accepted_valid text p (accepted_allowed text p e) e in
      let d = desk_after t start_desk stream in
      let same = asked t v d (stream_right t v start_desk (start_right t v) stream) room h in
      record {
        number = ap (λ (o : Outcome). o.number) same;
        told = ap (λ (o : Outcome). told_by o.line) same ∙ asked_told d house key (omega arith) (omega arith);
      }

-- what is told of a sound that agrees with the book's
module _ (near : Nearness) (ds : List (Option Declared)) (book : Sound Powers) where
  pub sound_told : (x : Sound ℤ) → KeyAgrees near ds book x → AnswerNear near ds book (told_of x)
  sound_told muted h = told_silent h
  sound_told (sounds z) h = go (is_playable z) refl
    where
      go : (b : Bool) → is_playable z ≡ b → AnswerNear near ds book (record { number = cond b done key_unplayable; sound = cond b (sounds z) muted })
      go true e = told_pitch e h
      go false e = told_unplayable e h
