-- Demand 3: for every text that is accepted and every stream of frames, with answer buffers of any length, the desk and the exact book have the same
-- anchor and width, and each key is silent in both, or its pitch is at most 51 hundredths of w thousandths of a cent from its exact frequency; so at most w.
use mathlib.Core.Path.{◌≡◌}
use mathlib.Core.List.{List}
use Prim.Native.Nat.{ℕ}
use Rattle.std.specs.Prelude.{Ok}
use Rattle.tuning.specs.Tuning.{start}
use Rattle.tuning.specs.Desk.{cents}
use Rattle.tuning.specs.State.{held}
use Rattle.tuning.proofs.Laws.{start_valid}
use Rattle.program.specs.Program.{Program}
use Rattle.program.specs.Meaning.{valued}
use Rattle.program.specs.Allowed.{Allowed}
use Rattle.program.specs.Text.{accepted, read_text}
use Rattle.program.proofs.AcceptedText.{steps}
use Rattle.program.proofs.AllowedText.{accepted_allowed}
use Rattle.filling.specs.Tables.{tables_of}
use Rattle.protocol.specs.Answers.{start_desk}
use Rattle.protocol.specs.Streams.{Lent, desk_after}
use Rattle.exact.specs.Entry.{Within, Sharper}
use Rattle.exact.specs.Book.{entries}
use Rattle.exact.specs.Actions.{declared_in}
use Rattle.exact.specs.Claim.{book_after, StreamAgrees, StreamSharper}
use Rattle.exact.proofs.Follows.{start_follows}
use Rattle.exact.proofs.Measured.{measure_follows}
use Rattle.exact.proofs.Calls.{agrees}
use Rattle.exact.proofs.Agreement.{sharper_within, agrees_by}
use Rattle.exact.proofs.Declared.{in_range_holds}
use Rattle.exact.proofs.Stream.{Kept, coded_kept, stream_kept}
use Rattle.exact.proofs.Matched.{matches}

-- of a program whose numbers are allowed and whose values are in their ranges: what is kept along a stream, and the claim
module _ (p : Program) (allowed : Allowed p) (done : valued p ≡ Ok tt) (stream : List Lent) where
  pub kept : Kept (declared_in p) (desk_after (tables_of p) start_desk stream).tuning (book_after p stream)
  unfolding book_after
  kept =
      let ds = declared_in p in
      let begun = coded_kept ds (start cents) (start entries) start_valid (start_follows entries cents (measure_follows ds)) in
      stream_kept (tables_of p) p (matches p allowed done) stream start_desk (start entries) begun

  allowed_sharper : StreamSharper p stream
  allowed_sharper = agrees (in_range_holds p allowed) (held (desk_after (tables_of p) start_desk stream).tuning) (book_after p stream) kept.agree

pub stream_sharper : (text : List ℕ) (p : Program) → read_text text ≡ accepted p → (stream : List Lent) → StreamSharper p stream
stream_sharper text p e stream = allowed_sharper p (accepted_allowed text p e) (steps text p e).values stream

pub stream_agrees : (text : List ℕ) (p : Program) → read_text text ≡ accepted p → (stream : List Lent) → StreamAgrees p stream
stream_agrees text p e stream = agrees_by Sharper Within sharper_within (stream_sharper text p e stream)
