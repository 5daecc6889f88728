-- A property of every refusal, and of what is done where nothing is refused, is one of the outcome.
-- Assumes nothing.
use mathlib.Core.Path.{◌≡◌, refl}
use mathlib.Core.Bool.{Bool, true, false, cond}
use mathlib.Core.List.{List}
use Prim.Native.Nat.{ℕ, ◌<◌}
use borrow.Author.Tests.{leb-false}
use lib.Dec.{leb}
use lib.Seq.{slice}
use Rattle.status.specs.declared.Reason.TheVariants.{NumberOutOfRange, ItemTooMany}
use Rattle.status.specs.declared.Refusal.{Refusal}
use Rattle.std.specs.Prelude.{Option, Some, None, Err}
use Rattle.grammar.specs.declared.NumberUse.{NumberUse}
use Rattle.grammar.specs.declared.Progress.{Progress}
use Rattle.grammar.specs.declared.Span.{Span}
use Rattle.grammar.specs.Reading.{Outcome, refusal, unless_full, allowed, judged, used, if_allowed, numbered}
use Rattle.program.proofs.Ranges.{InRange, Judged, value, judged_fits}

module _ (F : Outcome → Type 0) (refused : (e : Refusal) → F (Err e)) where
  pub unless_full_step : (most n : ℕ) (x : Span) (o : Outcome) → (n < most → F o) → F (unless_full most n x o)
  unless_full_step most n x o h = go (leb most n) refl
    where
      go : (b : Bool) → leb most n ≡ b → F (cond b (Err (refusal ItemTooMany x.start)) o)
      go true e = refused (refusal ItemTooMany x.start)
      go false e = h (leb-false most n e)

  pub if_allowed_step : (text : List ℕ) (s : Progress) (u : NumberUse) (start end : ℕ) (x : Span)
      → ((v : ℕ) → InRange (allowed u) v → F (used s u v x)) → F (numbered text s u start end x)
  if_allowed_step text s u start end x h = go (judged u (slice start end text)) (judged_fits u (slice start end text))
    where
      go : (v : Option ℕ) → Judged (InRange (allowed u)) v → F (if_allowed s u start x v)
      go None r = refused (refusal NumberOutOfRange start)
      go (Some v) (value w) = h v w
