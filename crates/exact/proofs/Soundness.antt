-- 23 is never answered: an accepted text's tables are valid, and a right desk stays right along any stream.
use mathlib.Core.Path.{◌≡◌}
use mathlib.Core.Logic.{◌≢◌}
use mathlib.Core.Bool.{true}
use mathlib.Core.List.{List}
use Prim.Native.Nat.{ℕ}
use native.Mathlib.Omega.{arith}
use Rattle.status.specs.Status.{table_damaged}
use Rattle.values.proofs.Cases.{clash}
use Rattle.tables.specs.Layout.{Tables}
use Rattle.program.specs.Program.{Program}
use Rattle.program.specs.Text.{accepted, read_text}
use Rattle.program.proofs.AllowedText.{accepted_allowed}
use Rattle.filling.specs.Tables.{tables_of}
use Rattle.mutabor.proofs.ValidTables.{accepted_valid}
use Rattle.frames.specs.Frames.{frame_of}
use Rattle.protocol.specs.declared.Desk.{Desk}
use Rattle.protocol.specs.Answers.{start_desk, Outcome, sound_at, valid_desk, answer_of}
use Rattle.protocol.specs.Streams.{Lent, desk_after}
use Rattle.protocol.proofs.Ways.{by_outcome}
use Rattle.protocol.proofs.Numbers.{OfFrames, asked_number, frame_number}
use Rattle.protocol.proofs.Stays.{right_valid, start_right, stream_right}
use Rattle.exact.specs.Soundness.{StreamSound, NeverDamaged}

-- ---- the numbers of answers: of a desk that is right none is 23

abbrev Undamaged : ℕ → Type 0
Undamaged n = n ≢ table_damaged

frames_undamaged : OfFrames Undamaged
frames_undamaged = record {
  call = record {
    taken = λ e. omega arith;
    divided = λ e. omega arith;
    anchor = λ e. omega arith;
    width = λ e. omega arith;
    period = λ e. omega arith;
    ends = λ e. omega arith;
    tone = λ e. omega arith;
  };
  held = λ e. omega arith;
  unheld = λ e. omega arith;
  unbound = λ e. omega arith;
  bad = λ e. omega arith;
}

answer_undamaged : (t : Tables) (d : Desk) → valid_desk t d ≡ true → (frame : List ℕ) (room : ℕ) → Undamaged (answer_of t d frame room).number
answer_undamaged t d h frame room =
    by_outcome t d frame room (λ (o : Outcome). Undamaged o.number) (λ e. omega arith) (λ e. absurd (clash h e))
    (λ e. frame_number Undamaged frames_undamaged t d (frame_of frame) (λ house k f. asked_number Undamaged (λ e. omega arith) (λ e. omega arith) (λ e. omega arith) (sound_at d k)))

-- ---- the theorems

pub stream_sound : (text : List ℕ) (p : Program) → read_text text ≡ accepted p → (stream : List Lent) → StreamSound p stream
stream_sound text p e stream =
    let t = tables_of p in
    let v = accepted_valid text p (accepted_allowed text p e) e in
    right_valid t v (desk_after t start_desk stream) (stream_right t v start_desk (start_right t v) stream)

pub never_damaged : (text : List ℕ) (p : Program) → read_text text ≡ accepted p → (stream : List Lent) (next : Lent) → NeverDamaged p stream next
never_damaged text p e stream next same =
    let sound = stream_sound text p e stream in
    answer_undamaged (tables_of p) (desk_after (tables_of p) start_desk stream) sound next.frame next.room same
