-- What the contracts of private functions cite: no part of the rules.
use Rattle.std.specs.Prelude.{◌≡◌, List, ℕ, length}
use Rattle.limits.specs.Limits.{most_rows}
use Rattle.status.specs.Status.{done}
use Rattle.grammar.specs.declared.Item.{Item}
use Rattle.grammar.specs.Reading.{read_items}
use Rattle.names.specs.Names.{meanings}
use Rattle.placeholders.specs.Inner.{Begun}
use Rattle.tables.specs.Layout.{Tables}
use Rattle.mutabor.specs.Reading.{zeroed}

-- the tables before and after they are cleared
pub record Cleared (before after : Tables) : Type 0 where
  pub zeros : after ≡ zeroed before

-- these are the items of a text whose names are resolved; their declarations begin where `starts` says, and there is room for more
pub record Resolved (text : List ℕ) (is : List Item) (starts : List ℕ) (n : ℕ) : Type 0 where
  pub read : (read_items text).number ≡ done
  pub meant : (meanings text (read_items text).items).number ≡ done
  pub these : (meanings text (read_items text).items).items ≡ is
  pub begun : Begun is starts n
  pub room : length starts ≡ most_rows
