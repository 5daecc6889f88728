-- The names are the same where neither goes on past the letters that they have in common.
use mathlib.Core.Path.{◌≡◌, ◌∙◌}
use mathlib.Core.Bool.{not, ◌&&◌}
use borrow.Author.Rules.{rules}
use lib.ListN.{get_or}
use Rattle.std.proofs.lemmas.Iterator.{YieldsList-from_slice, YieldsList-from_zip}
use Rattle.std.proofs.lemmas.Iterator.Search.{position_from_yields_List}
use Rattle.symbols.specs.Bytes.{in_name, same}
use Rattle.symbols.specs.Names.{name_at}
use Rattle.symbols.proofs.Letters.{same_letter, common, common_found, names_compared}
use Rattle.symbols.proofs.spelling.same_name.Goals.{After-goes_on}
use Rattle.symbols.proofs.spelling.same_name.Goals as goal

module _ (c : goal.After-goes_on) where
  place : c.unwrap_or-common.result ≡ common c.rest-a.result.now c.rest-b.result.now
  place =
      c.unwrap_or-common.ensures
      ∙ common_found _ _ c.min-shorter.ensures
      (position_from_yields_List (λ p. not (same_letter p)) c.position.new.self _ _ c.position.ensures.ran (YieldsList-from_zip (YieldsList-from_slice _ cc) (YieldsList-from_slice _ cc)) (λ x b q k. (search rules, search rules)))

  compared : not c.goes_on.result && not (in_name (get_or c.rest-b.result.now c.unwrap_or-common.result 0))
      ≡ same (name_at c.args.text.now c.args.p) (name_at c.args.text.now c.args.q)
  compared = rw c.goes_on.ensures (names_compared _ _ _ c.rest-a.ensures c.rest-b.ensures place)

pub returns-then-not-goes_on : goal.returns-then-not-goes_on
returns-then-not-goes_on c =
    rw c.goes_on-then-not-goes_on.ensures (rw c.if-not-goes_on.true at (compared (goal.at.returns-then-not-goes_on c).After-goes_on))

pub returns-else-not-goes_on : goal.returns-else-not-goes_on
returns-else-not-goes_on c = rw c.if-not-goes_on.false (rw c.if-not-goes_on.false at (compared (goal.at.returns-else-not-goes_on c).After-goes_on))
