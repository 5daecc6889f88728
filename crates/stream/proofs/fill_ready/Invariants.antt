-- What is left to do is what was to be done.
use mathlib.Core.Logic.{◌⊎◌}
use mathlib.Core.Path.{◌≡◌}
use mathlib.Core.Bool.{true}
use mathlib.Core.List.{List, []}
use Prim.Native.Nat.{ℕ, ◌-◌, ◌≤◌, ◌<◌}
use lib.ListN.{length, take, drop}
use Rattle.tables.specs.Layout.{Tables}
use Rattle.protocol.specs.declared.Desk.{Desk}
use Rattle.protocol.specs.Answers.{valid_desk}
use Rattle.protocol.specs.OnBoard.{tables_on}
use Rattle.stream.specs.Feed.{Fed, feed, SameStream}
use Rattle.stream.specs.Line.{held_in}
use Rattle.stream.proofs.fill_ready.Given as goal

-- where the loop is: nothing is written before a byte of the chunk is served; the rest of the output is as it was; and the stream comes to the same
pub record Going (t : Tables) (start : Fed) (chunk out₀ : List ℕ) (d : Desk) (line rest out : List ℕ) (used : ℕ) : Type 0 where
  pub known : valid_desk t d ≡ true
  pub out_length : length out ≡ length out₀
  pub room : used ≤ length out₀
  pub first : (used ≡ 0) ⊎ (length rest < length chunk)
  pub left : rest ≡ drop (length chunk - length rest) chunk
  pub kept : drop used out ≡ drop used out₀
  pub same : SameStream t start chunk (feed d line (take used out)) rest

abbrev pub invariant-loop-end : goal.invariant-loop-end
invariant-loop-end l =
    Going (tables_on l.board) (feed l.fn.desk (held_in l.fn.line) []) l.chunk l.fn.out l.d (held_in l.line) l.rest l.out l.used

abbrev pub decreases-loop-end : goal.decreases-loop-end
decreases-loop-end l = length l.rest
