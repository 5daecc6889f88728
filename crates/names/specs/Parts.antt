-- The items of a text by what they are: a declared name, a number given, a name used, or a mark's say.
use Rattle.std.specs.Prelude.{ℕ}
use Rattle.grammar.specs.declared.Kind.{Kind}
use Rattle.grammar.specs.declared.Form.{Form}
use Rattle.grammar.specs.declared.Item.{Item}
use Rattle.grammar.specs.declared.Item.TheVariants as item

-- the numbers that a declaration may give
pub data Given : Type 0 where
  ratio root frequency anchor_key : Given
  amount : Form → Given
  letter : Given
  key starred_key : Given
  -- document 02, 1/13: the name of a placeholder that stands for n; one that the brackets name; a number that a call gives. These names are none of
  -- a declaration: they mean a place in their retuning's brackets
  wanting : Form → Given
  placeholder argument : Given

-- the uses of a name
pub data Use : Type 0 where
  add subtract base position start order trigger : Use

-- what is said by a mark alone
pub data Said : Type 0 where
  muted kept anchor_kept width_kept period onward : Said

pub data Part : Type 0 where
  declares : Kind → ℕ → Part
  gives : Given → ℕ → ℕ → Part
  uses : Use → ℕ → ℕ → Part
  says : Said → Part

abbrev pub part : Item → Part
part (item.Declared k p) = declares k p
part (item.Ratio p q) = gives ratio p q
part (item.Root a b) = gives root a b
part (item.Frequency f) = gives frequency f 0
part (item.AnchorKey n) = gives anchor_key n 0
part (item.Amount f n) = gives (amount f) 0 n
part (item.Letter c) = gives letter c 0
part (item.Key v) = gives key v 0
part (item.StarredKey v) = gives starred_key v 0
part (item.AmountName f p) = gives (wanting f) 0 p
part (item.Placeholder p) = gives placeholder 0 p
part (item.Argument v) = gives argument v 0
part (item.Add f p) = uses add f p
part (item.Subtract f p) = uses subtract f p
part (item.Base p) = uses base 0 p
part (item.TonePosition p) = uses position 0 p
part (item.Start q p) = uses start q p
part (item.Order q p) = uses order q p
part (item.Trigger p) = uses trigger 0 p
part item.MutedPosition = says muted
part item.KeptPosition = says kept
part item.AnchorKept = says anchor_kept
part item.WidthKept = says width_kept
part item.Period = says period
part item.Onward = says onward
