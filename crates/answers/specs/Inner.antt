-- What the contracts of private functions cite: no part of the rules.
use Rattle.std.specs.Prelude.{◌≡◌, ◌+◌, ◌*◌, List, ℕ, length, set}
use Rattle.hexadecimal.specs.Lines.{written, line_feed}
use Rattle.answers.specs.declared.Line.{Line}

-- nothing is written into a buffer yet
pub record Begins (line : Line) (lent : List ℕ) : Type 0 where
  pub bytes : line.bytes ≡ 0
  pub buffer : line.buf.now ≡ lent

-- bytes are written behind those of a line, into the same buffer
pub record Adds (old new : Line) (bs : List ℕ) : Type 0 where
  pub same : new.buf.ghost_name ≡ old.buf.ghost_name
  pub bytes : new.bytes ≡ old.bytes + length bs
  pub buffer : new.buf.now ≡ written old.buf.now old.bytes bs

-- a line feed is written behind them: how long the line is, and the buffer
pub record Ends (line : Line) (total : ℕ) (after : List ℕ) : Type 0 where
  pub whole : total ≡ 2 * line.bytes + 1
  pub buffer : after ≡ set line.buf.now (2 * line.bytes) line_feed
