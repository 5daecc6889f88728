-- The tables that two lent slices hold.
use Rattle.tables.specs.declared.Tables.{Tables as LentTables}
use Rattle.tables.specs.Layout.{Tables, tables_in}

abbrev pub tables_of : LentTables → Tables
tables_of t = tables_in t.numbers.now t.codes.now
