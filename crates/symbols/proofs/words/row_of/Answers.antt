-- The row is the one that the table has for the name's first letter, its last and its length.
use Prim.Native.Nat.{◌-◌}
use mathlib.Core.Path.{◌≡◌, ◌∙◌, ap}
use lib.ListN.{length, get_or}
use Rattle.std.specs.Char.{to_ascii_lowercase}
use Rattle.std.proofs.lemmas.Option.{unwrap_or-slice_get}
use Rattle.symbols.specs.Inner.{rows}
use Rattle.symbols.proofs.Reserved.{row_of_name}
use Rattle.symbols.proofs.words.row_of.Goals as goal

pub returns : goal.returns
unfolding rows
returns c =
    let first : c.unwrap_or.result ≡ get_or c.args.name.now 0 0 =
    rw (c.unwrap_or.ensures, c.copied.ensures, c.first.ensures.value) (unwrap_or-slice_get c.args.name.now 0 0) in
    let last : c.unwrap_or-2.result ≡ get_or c.args.name.now (length c.args.name.now - 1) 0 =
    rw (c.unwrap_or-2.ensures, c.copied-2.ensures, c.last.ensures.value) (unwrap_or-slice_get c.args.name.now (length c.args.name.now - 1) 0) in
    row_of_name _ (c.to_ascii_lowercase-first.ensures.value ∙ ap to_ascii_lowercase first) (c.to_ascii_lowercase-last.ensures.value ∙ ap to_ascii_lowercase last)
