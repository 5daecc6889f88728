-- A stream of bytes and the stream of its frames: byte by byte, from any line that has begun and behind any answers.
use mathlib.Core.Path.{◌≡◌, sym, ap, ◌∙◌}
use mathlib.Core.Bool.{Bool, true, false, cond}
use mathlib.Core.List.{List, [], ◌∷◌, ◌++◌, map, append_assoc, append-nil}
use Prim.Native.Nat.{ℕ}
use lib.Dec.{eqb}
use Rattle.hexadecimal.specs.Lines.{line_feed}
use Rattle.tables.specs.Layout.{Tables}
use Rattle.protocol.specs.declared.Desk.{Desk}
use Rattle.protocol.specs.Streams.{Lent, desk_after, lines_of}
use Rattle.stream.specs.Feed.{Fed, feed, line_ended, fed_byte, fed, finished, streamed}
use Rattle.stream.specs.Lines.{lines_from, lent_for, frames_from, joined, StreamOfFrames}

module _ (t : Tables) where
  -- the answers to frames, behind what was answered before
  abbrev answered_to : Desk → List ℕ → List Lent → Fed
  answered_to d out ls = feed (desk_after t d ls) [] (out ++ joined (lines_of t d ls))

  none_more : (d : Desk) (out : List ℕ) → feed d [] out ≡ answered_to d out []
  unfolding desk_after lines_of joined
  none_more d out = ap (λ (w : List ℕ). feed d [] w) (sym (append-nil out))

  one_more_holds : (d : Desk) (line out : List ℕ) (ls : List Lent) → let f = line_ended t (feed d line out) in
      answered_to f.desk f.out ls ≡ answered_to d out (lent_for line ∷ ls)
  unfolding desk_after lines_of joined
  one_more_holds d line out ls = ap (λ (w : List ℕ). feed (desk_after t d (lent_for line ∷ ls)) [] w) (append_assoc out _ _)

  frames_from_step : (d : Desk) (line out bs : List ℕ) → streamed t (feed d line out) bs ≡ answered_to d out (frames_from line bs)
  unfolding fed fed_byte finished lines_from
  frames_from_step d [] out [] = none_more d out
  frames_from_step d (a ∷ line) out [] = none_more _ _ ∙ one_more_holds d (a ∷ line) out []
  frames_from_step d line out (b ∷ bs) = go (eqb b line_feed) (λ e l o. frames_from_step e l o bs)
    where
      go : (x : Bool) → ((e : Desk) (l o : List ℕ) → streamed t (feed e l o) bs ≡ answered_to e o (frames_from l bs))
          → streamed t (cond x (line_ended t (feed d line out)) (feed d (line ++ b ∷ []) out)) bs
          ≡ answered_to d out (map lent_for (elim x [ true ↦ line ∷ lines_from [] bs | false ↦ lines_from (line ++ b ∷ []) bs ]))
      go true again = again _ [] _ ∙ one_more_holds d line out (frames_from [] bs)
      go false again = again d (line ++ b ∷ []) out

pub stream_of_frames : StreamOfFrames
unfolding StreamOfFrames
stream_of_frames t d bs = frames_from_step t d [] [] bs
