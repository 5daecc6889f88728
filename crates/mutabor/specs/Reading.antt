-- What a text leaves: a number and a place, and the later content of every lent table. Document 01, "Numbers returned", column "Leaves".
use Rattle.std.specs.Prelude.{◌≡◌, cond, List, ℕ, ℤ, pos, length, replicate, Result}
use Rattle.status.specs.declared.Refusal.{Refusal}
use Rattle.status.specs.Status.{done, text_too_long}
use Rattle.status.specs.Reasons.{Tells}
use Rattle.tables.specs.Layout.{Tables, full_size}
use Rattle.program.specs.Text.{Verdict, refused, accepted, read_text}
use Rattle.filling.specs.Tables.{tables_of}

pub record Left : Type 0 where
  pub number : ℕ
  pub place : ℕ
  pub tables : Tables

-- "tables zero", whatever size each of them has
abbrev pub noughts : List ℕ → List ℕ
noughts l = replicate (length l) 0

abbrev pub zeros : List ℤ → List ℤ
zeros l = replicate (length l) (pos 0)

abbrev pub zeroed : Tables → Tables
zeroed t = record {
  rows = zeros t.rows;
  sounding = noughts t.sounding;
  tones = zeros t.tones;
  kinds = noughts t.kinds;
  changes = zeros t.changes;
  triggers = noughts t.triggers;
  calls = noughts t.calls;
  counts = noughts t.counts;
}

-- "done; a text's place 0"
abbrev pub by_verdict : Tables → Verdict → Left
by_verdict t (refused n p) = record { number = n; place = p; tables = zeroed t }
by_verdict t (accepted p) = record { number = done; place = 0; tables = tables_of p }

-- "text too long, or a table not of full size; place 0"
unfoldable pub reading : List ℕ → Tables → Left
reading text t = by_verdict t (cond (full_size t) (read_text text) (refused text_too_long 0))

-- the whole result of a call, with the lent tables after it: done at place 0, or the refusal with its number and place
pub record Leaves (o : Left) (r : Result Unit Refusal) (after : Tables) : Type 0 where
  pub told : Tells o.number o.place r
  pub tables : after ≡ o.tables
