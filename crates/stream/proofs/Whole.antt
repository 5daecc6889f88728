-- Of a line that has not ended no more than the bytes of the longest frame and one more matter: a stream comes to the same where only these are held.
use Prim.Native.Nat.{ℕ}
use mathlib.Core.Path.{◌≡◌, refl, sym, ap, ◌∙◌}
use mathlib.Core.Bool.{Bool, true, false, cond}
use mathlib.Core.List.{List, [], ◌∷◌, ◌++◌}
use native.Mathlib.Omega.{arith}
use native.Mathlib.Decide.{dec_le}
use lib.Dec.{eqb}
use lib.ListN.{length, take}
use lib.Seq.{take_all, take_at, take-append-le, length-take-le}
use Rattle.hexadecimal.specs.Lines.{line_feed}
use Rattle.frames.specs.Frames.{enough}
use Rattle.frames.proofs.Lines.{long_line}
use Rattle.answers.specs.Answer.{smallest_buffer}
use Rattle.tables.specs.Layout.{Tables}
use Rattle.protocol.specs.declared.Desk.{Desk}
use Rattle.protocol.specs.Answers.{answer_of}
use Rattle.stream.specs.Feed.{Fed, feed, line_ended, fed_byte, fed, finished, streamed}

-- one byte more
take_more : (l : List ℕ) (b : ℕ) → take enough (take enough l ++ b ∷ []) ≡ take enough (l ++ b ∷ [])
take_more l b =
    elim (dec_le enough (length l)) [
      | yes h ↦ take_at (take enough l) (b ∷ []) enough (length-take-le enough l h) ∙ sym (take-append-le enough l (b ∷ []) h)
      | no h ↦ ap (λ (k : List ℕ). take enough (k ++ b ∷ [])) (take_all enough l (omega arith))
    ]

module _ (t : Tables) where
  answer_long : (d : Desk) (l : List ℕ) (room : ℕ) → answer_of t d (take enough l) room ≡ answer_of t d l room
  unfolding answer_of
  answer_long d l room = rw (long_line l)

  pub ended_long : (d : Desk) (l out : List ℕ) → line_ended t (feed d (take enough l) out) ≡ line_ended t (feed d l out)
  ended_long d l out = rw (answer_long d l smallest_buffer)

  pub enough_held : (d : Desk) (l out bs : List ℕ) → streamed t (feed d (take enough l) out) bs ≡ streamed t (feed d l out) bs
  unfolding fed fed_byte finished
  enough_held d [] out [] = refl
  enough_held d (a ∷ l) out [] = ended_long d (a ∷ l) out
  enough_held d l out (b ∷ bs) = go (eqb b line_feed) (λ k. enough_held d k out bs)
    where
      go : (x : Bool) → ((k : List ℕ) → streamed t (feed d (take enough k) out) bs ≡ streamed t (feed d k out) bs)
          → streamed t (cond x (line_ended t (feed d (take enough l) out)) (feed d (take enough l ++ b ∷ []) out)) bs
          ≡ streamed t (cond x (line_ended t (feed d l out)) (feed d (l ++ b ∷ []) out)) bs
      go true again = ap (λ (f : Fed). streamed t f bs) (ended_long d l out)
      go false again =
          sym (again (take enough l ++ b ∷ []))
          ∙ ap (λ (k : List ℕ). streamed t (feed d k out) bs) (take_more l b)
          ∙ again (l ++ b ∷ [])
