-- The tables of a board, which are right by its type.
use Rattle.tables.specs.Layout.{Tables}
use Rattle.tables.specs.Lent.{tables_of}
use Rattle.protocol.specs.declared.board.Board.{Board}

abbrev pub tables_on : Board → Tables
tables_on b = tables_of b.tables
